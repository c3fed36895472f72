-- The claimants of each cell of a small grammar worked out, and its cells where a test finds no conflict.
use mathlib.Core.Path.{◌≡◌, refl, sym, subst}
use mathlib.Core.Logic.{◌↔◌}
use mathlib.Core.Bool.{Bool, true, false, ◌&&◌}
use mathlib.Core.List.{List, [], ◌∷◌, map}
use mathlib.Core.Option.{Option, some, none}
use Prim.Native.Nat.{ℕ, zero, suc}
use native.Mathlib.Omega.{arith}
use lib.Dec.{T, eqb, eqb→eq, eqb_refl, eqb-suc-suc}
use lib.ListN.{get_elem?}
use Rattle.grammar.specs.Grammar.{Form, Production, Grammar, Column, Every, nothing, each, Rule, Claims, Cell, only, vacant}
use Rattle.grammar.specs.Machine.{Exact}
use Rattle.grammar.proofs.Join.{Join, join_map}
use Rattle.grammar.proofs.Sets.{FirstOf, FollowOf, lookahead_exact}
use Rattle.grammar.proofs.Every.{every_at}
use Rattle.grammar.proofs.Tests.{and_left, and_right, and_both, or_left, or_right, or_elim, all, any, all_every, any_of}
use Rattle.grammar.proofs.Worked.{Entry, same, same_is, is, In, Among, row_of, tokens_in, joins, joins_every, joins_all, row_every, in_row, in_self}

-- production number i of the list, on which the test holds
pub record Found (f : Production → Bool) (rs : List Production) (i : ℕ) : Type 0 where
  pub production : Production
  pub at : get_elem? rs i ≡ some production
  pub holds : T (f production)

-- the numbers of the productions on which the test holds
unfoldable pub numbers : (Production → Bool) → List Production → List ℕ
numbers f [] = []
numbers f (r ∷ rs) = elim (f r) [ true ↦ zero ∷ map suc (numbers f rs) | false ↦ map suc (numbers f rs) ]

found_below : {f : Production → Bool} (r : Production) {rs : List Production} {xs : List ℕ} → Every (Found f rs) xs → Every (Found f (r ∷ rs)) (map suc xs)
found_below r nothing = nothing
found_below r (each p h) = each (record { production = p.production; at = p.at; holds = p.holds }) (found_below r h)

numbers_found : (f : Production → Bool) (rs : List Production) → Every (Found f rs) (numbers f rs)
unfolding numbers
numbers_found f [] = nothing
numbers_found f (r ∷ rs) = go (f r) (λ t. record { production = r; at = refl; holds = t }) (found_below r (numbers_found f rs))
  where
    go : (b : Bool) → (T b → Found f (r ∷ rs) zero) → Every (Found f (r ∷ rs)) (map suc (numbers f rs)) → Every (Found f (r ∷ rs)) (elim b [ true ↦ zero ∷ map suc (numbers f rs) | false ↦ map suc (numbers f rs) ])
    go true k h = each (k tt) h
    go false k h = h

any_suc : (i : ℕ) (xs : List ℕ) → T (any (eqb i) xs) → T (any (eqb (suc i)) (map suc xs))
unfolding any
any_suc i [] t = t
any_suc i (x ∷ xs) t =
    let below : Bool = any (eqb (suc i)) (map suc xs) in
    or_elim (eqb i x) (any (eqb i) xs) (λ h. or_left (eqb (suc i) (suc x)) below (rw eqb-suc-suc h)) (λ h. or_right (eqb (suc i) (suc x)) below (any_suc i xs h)) t

numbers_all : (f : Production → Bool) (rs : List Production) (i : ℕ) (r : Production) → get_elem? rs i ≡ some r → T (f r) → T (any (eqb i) (numbers f rs))
unfolding numbers any
numbers_all f [] i r e t = let bad : ◌≡◌ {A = ℕ} 0 1 = cc in absurd (omega arith)
numbers_all f (x ∷ rs) zero r e t = go (f x) (subst (λ (y : Production). T (f y)) (cc) t)
  where
    go : (b : Bool) → T b → T (any (eqb zero) (elim b [ true ↦ zero ∷ map suc (numbers f rs) | false ↦ map suc (numbers f rs) ]))
    go true h = or_left (eqb zero zero) (any (eqb zero) (map suc (numbers f rs))) (eqb_refl zero)
    go false h = absurd h
numbers_all f (x ∷ rs) (suc i) r e t = go (f x) (any_suc i (numbers f rs) (numbers_all f rs i r e t))
  where
    go : (b : Bool) → T (any (eqb (suc i)) (map suc (numbers f rs))) → T (any (eqb (suc i)) (elim b [ true ↦ zero ∷ map suc (numbers f rs) | false ↦ map suc (numbers f rs) ]))
    go true h = or_right (eqb (suc i) zero) (any (eqb (suc i)) (map suc (numbers f rs))) h
    go false h = h

unfoldable pub single : List ℕ → Bool
single [] = true
single (p ∷ []) = true
single (p ∷ (q ∷ ps)) = false

unfoldable pub chosen : List ℕ → Option ℕ
chosen [] = none
chosen (p ∷ ps) = some p

module _ (g : Grammar) (fam W : List Entry) where
  -- the production is of row A, and its lookahead has column c
  unfoldable pub claiming : ℕ → Column → Production → Bool
  claiming A c r = eqb r.left A && any (λ d. same d c) (joins fam (row_of A W) r.right)

  unfoldable pub claimants : ℕ → Column → List ℕ
  unfolding numbers claiming any same joins row_of tokens_in is
  claimants A c = numbers (claiming A c) g.productions

  -- no cell that a production claims has a second claimant
  unfoldable pub conflict_test : Bool
  unfolding all claimants single joins row_of tokens_in any is same
  conflict_test = all (λ r. all (λ c. single (claimants r.left c)) (joins fam (row_of r.left W) r.right)) g.productions

  unfoldable pub worked_cell : ℕ → Column → Option ℕ
  unfolding claimants chosen
  worked_cell A c = chosen (claimants A c)

  module _ (F-exact : (A : ℕ) (c : Column) → In fam A c ↔ FirstOf g A c) (W-exact : (A : ℕ) (c : Column) → In W A c ↔ FollowOf g A c) where
    joined : (A : ℕ) (β : Form) (c : Column) → Among (joins fam (row_of A W) β) c → Join (In fam) (In W A) β c
    joined A β c t =
        any_of (λ d. same d c) (joins_every (In fam) fam (in_self fam) (row_of A W) (row_every (In W) A W (in_self W)) β) (λ d j s. subst (Join (In fam) (In W A) β) (same_is d c s) j) t

    -- a production of row A claims the columns of its join
    pub claims_found : {A : ℕ} {c : Column} {p : ℕ} → Claims g A c p → T (any (eqb p) (claimants A c))
    unfolding claimants claiming
    claims_found {A} {c} {p} k =
        let ahead : Join (In fam) (In W A) k.right c = (lookahead_exact F-exact W-exact).1 k.ahead in
        numbers_all (claiming A c) g.productions p (record { left = A; right = k.right }) k.rule.at
        (and_both (eqb A A) (any (λ d. same d c) (joins fam (row_of A W) k.right)) (eqb_refl A) (joins_all fam (row_of A W) (join_map (λ B d i. i) (λ d i. in_row A d W i) ahead)))

    pub found_claims : {A : ℕ} {c : Column} {p : ℕ} → Found (claiming A c) g.productions p → Claims g A c p
    unfolding claiming
    found_claims {A} {c} {p} k =
        let r : Production = k.production in
        let row : r.left ≡ A = eqb→eq r.left A (and_left (eqb r.left A) (any (λ d. same d c) (joins fam (row_of A W) r.right)) k.holds) in
        record {
          right = r.right;
          rule = subst (λ (B : ℕ). Rule g p B r.right) row (record { at = k.at });
          ahead = (lookahead_exact F-exact W-exact).0 (joined A r.right c (and_right (eqb r.left A) (any (λ d. same d c) (joins fam (row_of A W) r.right)) k.holds));
        }

    tested : T conflict_test → (A : ℕ) (c : Column) {p : ℕ} → Found (claiming A c) g.productions p → T (single (claimants A c))
    unfolding conflict_test claiming
    tested t A c {p} k =
        let r : Production = k.production in
        let one : Column → Bool = λ d. single (claimants r.left d) in
        let row : r.left ≡ A = eqb→eq r.left A (and_left (eqb r.left A) (any (λ d. same d c) (joins fam (row_of A W) r.right)) k.holds) in
        let all_one : T (all one (joins fam (row_of r.left W) r.right)) = every_at (all_every (λ (r : Production). all (λ c. single (claimants r.left c)) (joins fam (row_of r.left W) r.right)) g.productions t) p r k.at in
        let ahead : Among (joins fam (row_of r.left W) r.right) c = subst (λ (B : ℕ). Among (joins fam (row_of B W) r.right) c) (sym row) (and_right (eqb r.left A) (any (λ d. same d c) (joins fam (row_of A W) r.right)) k.holds) in
        subst (λ (B : ℕ). T (single (claimants B c))) row
        (any_of (λ d. same d c) (all_every one (joins fam (row_of r.left W) r.right) all_one) (λ d h s. subst (λ (x : Column). T (single (claimants r.left x))) (same_is d c s) h) ahead)

    only_one : (A : ℕ) (c : Column) (p : ℕ) (ps : List ℕ) → claimants A c ≡ p ∷ ps → T (single (p ∷ ps)) → (q : ℕ) → Claims g A c q → q ≡ p
    unfolding single any
    only_one A c p [] e t q k = or_elim (eqb q p) false (λ h. eqb→eq q p h) (λ h. absurd h) (subst (λ (x : List ℕ). T (any (eqb q) x)) e (claims_found k))
    only_one A c p (o ∷ ps) e t q k = absurd t

    pub conflict_test_exact : T conflict_test → Exact g worked_cell
    unfolding worked_cell chosen claimants any
    conflict_test_exact t = record { cells = λ A c. go A c (claimants A c) refl (numbers_found (claiming A c) g.productions) }
      where
        go : (A : ℕ) (c : Column) (ps : List ℕ) → claimants A c ≡ ps → Every (Found (claiming A c) g.productions) ps → Cell g A c (chosen ps)
        go A c [] e nothing = vacant (λ q k. subst (λ (x : List ℕ). T (any (eqb q) x)) e (claims_found k))
        go A c (p ∷ ps) e (each f h) = only (found_claims f) (only_one A c p ps e (subst (λ (x : List ℕ). T (single x)) e (tested t A c f)))
