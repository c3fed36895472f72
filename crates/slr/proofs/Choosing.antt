-- The productions of a grammar on which a test holds, by number.
use mathlib.Core.Path.{◌≡◌, refl, subst}
use mathlib.Core.Bool.{Bool, true, false}
use mathlib.Core.List.{List, [], ◌∷◌, map}
use mathlib.Core.Option.{some, none-ne-some}
use Prim.Native.Nat.{ℕ, zero, suc, ◌+◌}
use native.Mathlib.Omega.{arith}
use lib.Dec.{T, eqb, eqb_refl}
use lib.ListN.{get_elem?}
use Rattle.grammar.specs.Grammar.{Form, Production, Grammar, Every, nothing, each, Rule}
use Rattle.grammar.proofs.Tests.{or_left, or_right, or_elim, any}

-- the numbers, from n on, of the productions on which the test holds
unfoldable pub choosing : (ℕ → Production → Bool) → ℕ → List Production → List ℕ
choosing f n [] = []
choosing f n (r ∷ rs) = elim (f n r) [ true ↦ n ∷ choosing f (suc n) rs | false ↦ choosing f (suc n) rs ]

-- a production of the grammar on which the test holds
pub record Chosen (g : Grammar) (f : ℕ → Production → Bool) (p : ℕ) : Type 0 where
  pub production : Production
  pub rule : Rule g p production.left production.right
  pub holds : T (f p production)

module _ (g : Grammar) (f : ℕ → Production → Bool) where
  choosing_from : (n : ℕ) (rs : List Production)
      → ((k m : ℕ) (r : Production) → m ≡ n + k → get_elem? rs k ≡ some r → get_elem? g.productions m ≡ some r)
      → Every (Chosen g f) (choosing f n rs)
  unfolding choosing
  choosing_from n [] at = nothing
  choosing_from n (r ∷ rs) at =
      go (f n r) (λ t. record { production = r; rule = record { at = at zero n r (omega arith) refl }; holds = t })
      (choosing_from (suc n) rs (λ k m q e h. at (suc k) m q (omega arith) h))
    where
      go : (b : Bool) → (T b → Chosen g f n) → Every (Chosen g f) (choosing f (suc n) rs)
          → Every (Chosen g f) (elim b [ true ↦ n ∷ choosing f (suc n) rs | false ↦ choosing f (suc n) rs ])
      go true h rest = each (h tt) rest
      go false h rest = rest

  pub choosing_sound : Every (Chosen g f) (choosing f 0 g.productions)
  choosing_sound =
      choosing_from 0 g.productions
      (λ k m r e h. subst (λ (i : ℕ). get_elem? g.productions i ≡ some r) (omega arith) h)

  choosing_at : (n m k : ℕ) (rs : List Production) (r : Production) → m ≡ n + k
      → get_elem? rs k ≡ some r
      → T (f m r)
      → T (any (eqb m) (choosing f n rs))
  unfolding choosing any
  choosing_at n m k [] r e at t = absurd (none-ne-some r at)
  choosing_at n m zero (q ∷ rs) r e at t =
      go (f n q) (subst (λ (i : ℕ). T (f i q)) same (subst (λ (x : Production). T (f m x)) (cc) t))
    where
      same : m ≡ n
      same = omega arith

      go : (b : Bool)
          → T b
          → T (any (eqb m) (elim b [ true ↦ n ∷ choosing f (suc n) rs | false ↦ choosing f (suc n) rs ]))
      go true h =
          or_left (eqb m n) (any (eqb m) (choosing f (suc n) rs)) (subst (λ (i : ℕ). T (eqb m i)) same (eqb_refl m))
      go false h = absurd h
  choosing_at n m (suc k) (q ∷ rs) r e at t = go (f n q) (choosing_at (suc n) m k rs r (omega arith) at t)
    where
      go : (b : Bool)
          → T (any (eqb m) (choosing f (suc n) rs))
          → T (any (eqb m) (elim b [ true ↦ n ∷ choosing f (suc n) rs | false ↦ choosing f (suc n) rs ]))
      go true h = or_right (eqb m n) (any (eqb m) (choosing f (suc n) rs)) h
      go false h = h

  pub choosing_all : {p A : ℕ} {β : Form}
      → Rule g p A β
      → T (f p (record { left = A; right = β }))
      → T (any (eqb p) (choosing f 0 g.productions))
  choosing_all {p} {A} {β} r t =
      choosing_at 0 p p g.productions (record { left = A; right = β }) (omega arith) r.at t

pub any_map : {A B : Type 0} (f : A → Bool) (h : B → Bool) (m : A → B)
    → ((x : A) → T (f x) → T (h (m x)))
    → (xs : List A)
    → T (any f xs)
    → T (any h (map m xs))
unfolding any
any_map f h m k [] t = t
any_map f h m k (x ∷ xs) t =
    let below : Bool = any h (map m xs) in
    or_elim (f x) (any f xs) (λ s. or_left (h (m x)) below (k x s))
    (λ s. or_right (h (m x)) below (any_map f h m k xs s)) t

pub map_every : {A B : Type 0} {P : A → Type 0} {Q : B → Type 0} (m : A → B)
    → ((x : A) → P x → Q (m x))
    → {xs : List A}
    → Every P xs
    → Every Q (map m xs)
map_every m k nothing = nothing
map_every m k (each {x = x} p h) = each (k x p) (map_every m k h)
