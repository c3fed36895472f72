-- Lists of distinct numbers: below n there are no more than n of them.
use mathlib.Core.Path.{◌≡◌, subst}
use mathlib.Core.Logic.{◌≢◌}
use mathlib.Core.List.{List, [], ◌∷◌}
use Prim.Native.Nat.{ℕ, zero, suc, ◌≤◌, ◌<◌}
use native.Mathlib.Decide.{ℕ_discrete}
use native.Mathlib.Omega.{arith}
use lib.ListN.{length}
use Rattle.grammar.specs.Grammar.{Every, nothing, each}

-- no number stands twice
pub data Distinct : List ℕ → Type 0 where
  none : Distinct []
  apart : {x : ℕ} {xs : List ℕ} → Every (λ y. x ≢ y) xs → Distinct xs → Distinct (x ∷ xs)

-- a list with n taken out of it, where n stands in it
record Without (n : ℕ) (xs : List ℕ) : Type 1 where
  rest : List ℕ
  shorter : length xs ≤ suc (length rest)
  distinct : Distinct rest
  below : Every (λ x. x < n) rest
  keeps : (P : ℕ → Type 0) → Every P xs → Every P rest

below_last : {n : ℕ} {xs : List ℕ} → Every (λ x. n ≢ x) xs → Every (λ x. x < suc n) xs → Every (λ x. x < n) xs
below_last nothing nothing = nothing
below_last (each {x = x} d a) (each h b) = each {x = x} (omega arith) (below_last a b)

take_out : (n : ℕ) {xs : List ℕ} → Distinct xs → Every (λ x. x < suc n) xs → Without n xs
take_out n none nothing = record { rest = []; shorter = omega arith; distinct = none; below = nothing; keeps = λ P h. h }
take_out n (apart {x = x} {xs = xs} a d) (each h b) = go (ℕ_discrete x n) (take_out n d b)
  where
    go : Dec (x ≡ n) → Without n xs → Without n (x ∷ xs)
    go (yes e) t =
        record {
          rest = xs;
          shorter = omega arith;
          distinct = d;
          below = below_last (subst (λ (m : ℕ). Every (λ y. m ≢ y) xs) e a) b;
          keeps = λ P k. elim k [ each p q ↦ q ];
        }
    go (no e) t =
        record {
          rest = x ∷ t.rest;
          shorter = omega (arith, t.shorter);
          distinct = apart (t.keeps (λ y. x ≢ y) a) t.distinct;
          below = each {x = x} (omega arith) t.below;
          keeps = λ P k. elim k [ each p q ↦ each p (t.keeps P q) ];
        }

-- there are at most n distinct numbers below n
pub distinct_few : (n : ℕ) (xs : List ℕ) → Distinct xs → Every (λ x. x < n) xs → length xs ≤ n
distinct_few zero [] d b = omega arith
distinct_few zero (x ∷ xs) d (each h b) = absurd (omega arith)
distinct_few (suc n) xs d b =
    let t : Without n xs = take_out n d b in
    omega (arith, t.shorter, distinct_few n t.rest t.distinct t.below)
