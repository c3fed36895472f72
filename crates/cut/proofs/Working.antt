-- The states of patterns worked out cell by cell, by computing.
use mathlib.Core.Path.{◌≡◌, refl, sym, ap, subst, ◌∙◌}
use mathlib.Core.Bool.{Bool, true, false, false≢true}
use mathlib.Core.Logic.{◌↔◌, ◌≢◌}
use mathlib.Core.List.{List, [], ◌∷◌, ◌++◌}
use mathlib.Core.Option.{Option, some, none, none-ne-some, some-injective}
use Prim.Native.Nat.{ℕ, zero, suc, ◌*◌, ◌/◌, ◌%◌, ◌≤◌, ◌<◌}
use native.Mathlib.Omega.{arith}
use borrow.Author.Tests.{eqb-true, eq-eqb}
use lib.Dec.{eqb}
use lib.ListN.{length, get_elem?, length-append}
use Rattle.sets.proofs.Promise.{exactly_unique}
use Rattle.answers.specs.Limits.{most_patterns, most_positions, byte_values}
use Rattle.numbering.specs.Numbering.{Follows, Found}
use Rattle.numbering.proofs.Promise.{inside, is_itself, follows_at, turn_nothing, turn_met, turn_new}
use Rattle.pattern.specs.Pattern.{Expression}
use Rattle.pattern.specs.Positions.{positions, Moved}
use Rattle.patterns.specs.Calls.{point_at}
use Rattle.cut.specs.Patterns.{InSet, SomePoints, point_states}
use Rattle.cut.proofs.Alike.{states_lawful}
use Rattle.cut.proofs.Computing.{Points}
use Rattle.cut.proofs.Listed.{next_set, next_exact}

-- where a set stands among others
unfoldable pub sooner : Bool → Option ℕ → Option ℕ
sooner true o = some 0
sooner false none = none
sooner false (some j) = some (suc j)

unfoldable pub seek_set : ℕ → List ℕ → Option ℕ
unfolding sooner
seek_set y [] = none
seek_set y (x ∷ xs) = sooner (eqb y x) (seek_set y xs)

data SetAt (y : ℕ) (xs : List ℕ) : Option ℕ → Type 0 where
  there : {j : ℕ} → get_elem? xs j ≡ some y → SetAt y xs (some j)
  nowhere : ((j : ℕ) → get_elem? xs j ≢ some y) → SetAt y xs none

sought : (y : ℕ) (xs : List ℕ) → SetAt y xs (seek_set y xs)
unfolding seek_set sooner
sought y [] = nowhere (λ j e. none-ne-some y e)
sought y (x ∷ xs) = go (eqb y x) refl (seek_set y xs) (sought y xs)
  where
    go : (t : Bool) → eqb y x ≡ t → (o : Option ℕ) → SetAt y xs o → SetAt y (x ∷ xs) (sooner t o)
    go true e o s = there {j = 0} (ap {B = Option ℕ} some (sym (eqb-true y x e)))
    go false e (some j) (there at) = there {j = suc j} at
    go false e none (nowhere lacks) = nowhere other
      where
        other : (j : ℕ) → get_elem? (x ∷ xs) j ≢ some y
        other zero at = false≢true (sym e ∙ eq-eqb y x (sym (some-injective x y at)))
        other (suc j) at = lacks j at

-- the states with what comes after one of them
unfoldable pub placed : List ℕ → ℕ → Option ℕ → List ℕ
placed xs y none = xs ++ (y ∷ [])
placed xs y (some j) = xs

unfoldable pub turned : Bool → List ℕ → ℕ → List ℕ
unfolding placed seek_set
turned true xs y = xs
turned false xs y = placed xs y (seek_set y xs)

-- the states found so far, and the cells worked out
pub record Worked : Type 0 where
  pub sets : List ℕ
  pub turns : ℕ

module _ (rs : List Expression) where
  -- so many cells more, as far as there are states
  unfoldable pub worked : ℕ → List ℕ → ℕ → Worked
  unfolding turned next_set
  worked zero xs t = record { sets = xs; turns = t }
  worked (suc n) xs t =
      elim (get_elem? xs (t / byte_values)) [
        | none ↦ record { sets = xs; turns = t }
        | some x ↦
            let y = next_set rs x (t % byte_values) in
            worked n (turned (eqb y 0) xs y) (suc t)
      ]

  module _ (few : length rs ≤ most_patterns) (fit : positions rs ≤ most_positions) where
    -- one cell more
    turn : (xs : List ℕ) {cells : List (Option ℕ)} {x : ℕ} (t y : ℕ)
        → Found (point_states rs) xs cells
        → length cells ≡ t
        → get_elem? xs (t / byte_values) ≡ some x
        → y ≡ next_set rs x (t % byte_values)
        → (cells' : List (Option ℕ)) × Found (point_states rs) (turned (eqb y 0) xs y) cells' × (length cells' ≡ suc t)
    unfolding turned placed
    turn xs {cells} {x} t y f long at same = go (eqb y 0) refl
      where
        room : length cells < byte_values * length xs
        room = omega (arith, inside xs (t / byte_values) at)

        exact : Points y (λ q. Moved rs (InSet x) (t % byte_values) (point_at q))
        exact =
            subst (λ (z : ℕ). Points z (λ q. Moved rs (InSet x) (t % byte_values) (point_at q))) (sym same)
            (next_exact rs few fit x (t % byte_values))

        more : (v : Option ℕ) → length (cells ++ (v ∷ [])) ≡ suc t
        more v = omega (arith, length-append cells (v ∷ []))

        follows : (z : ℕ) → Follows (point_states rs) xs (length cells) z ↔ SomePoints (Moved rs (InSet x) (t % byte_values)) z
        follows z =
            follows_at {m = point_states rs} xs (length cells) (t / byte_values) (t % byte_values) x z (omega (arith, long)) (omega arith) at

        leads : y ≢ 0 → SomePoints (Moved rs (InSet x) (t % byte_values)) y
        leads full = record { exact = exact; nonempty = full }

        place : y ≢ 0 → (o : Option ℕ) → SetAt y xs o
            → (cells' : List (Option ℕ)) × Found (point_states rs) (placed xs y o) cells' × (length cells' ≡ suc t)
        place full (some j) (there e) = (
          cells ++ (some j ∷ []),
          turn_met f room j y ((follows y).1 (leads full)) (is_itself (states_lawful rs) e),
          more (some j),
        )
        place full none (nowhere lacks) = (
          cells ++ (some (length xs) ∷ []),
          turn_new f room (states_lawful rs) y ((follows y).1 (leads full))
              (λ j is. lacks j (is.at ∙ ap {B = Option ℕ} some (sym is.same))),
          more (some (length xs)),
        )

        go : (b : Bool) → eqb y 0 ≡ b
            → (cells' : List (Option ℕ)) × Found (point_states rs) (turned b xs y) cells' × (length cells' ≡ suc t)
        go true e = (
          cells ++ (none ∷ []),
          turn_nothing f room (λ z h.
              let m = (follows z).0 h in
              m.nonempty (exactly_unique z y m.exact exact ∙ eqb-true y 0 e)),
          more none,
        )
        go false e = place (λ zero. false≢true (sym e ∙ eq-eqb y 0 zero)) (seek_set y xs) (sought y xs)

    pub worked_found : (n : ℕ) (xs : List ℕ) (cells : List (Option ℕ)) (t : ℕ) → Found (point_states rs) xs cells
        → length cells ≡ t
        → (cells' : List (Option ℕ)) × Found (point_states rs) (worked n xs t).sets cells' × (length cells' ≡ (worked n xs t).turns)
    unfolding worked
    worked_found zero xs cells t f long = (cells, f, long)
    worked_found (suc n) xs cells t f long =
        go (get_elem? xs (t / byte_values)) refl (λ ys cells' g e. worked_found n ys cells' (suc t) g e)
      where
        go : (o : Option ℕ) → get_elem? xs (t / byte_values) ≡ o
            → ((ys : List ℕ) (cells' : List (Option ℕ)) → Found (point_states rs) ys cells' → length cells' ≡ suc t
            → (cells'' : List (Option ℕ)) × Found (point_states rs) (worked n ys (suc t)).sets cells''
            × (length cells'' ≡ (worked n ys (suc t)).turns))
            → (cells' : List (Option ℕ))
            × Found (point_states rs)
            (elim o as (λ p. Worked) [
              | none ↦ record { sets = xs; turns = t }
              | some x ↦
                  worked n (turned (eqb (next_set rs x (t % byte_values)) 0) xs (next_set rs x (t % byte_values))) (suc t)
            ]).sets cells'
            × (length cells'
            ≡ (elim o as (λ p. Worked) [
              | none ↦ record { sets = xs; turns = t }
              | some x ↦
                  worked n (turned (eqb (next_set rs x (t % byte_values)) 0) xs (next_set rs x (t % byte_values))) (suc t)
            ]).turns)
        go none e later = (cells, f, long)
        go (some x) e later =
            let y = next_set rs x (t % byte_values) in
            let (cells', f', long') = turn xs t y f long e refl in
            later (turned (eqb y 0) xs y) cells' f' long'
