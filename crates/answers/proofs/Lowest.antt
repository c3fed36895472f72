-- The first such, or the length: there is one at most, and a search that begins at 0 and goes on by one ends at it.
use mathlib.Core.Path.{◌≡◌}
use Prim.Native.Nat.{ℕ, ◌+◌, ◌≤◌, ◌<◌}
use native.Mathlib.Decide.{dec_lt}
use native.Mathlib.Omega.{arith}
use borrow.Author.Count.{below_more}
use Rattle.std.specs.Prelude.{Option, Some, None, unwrap_or}
use Rattle.answers.specs.Lowest.{Lowest, FirstFailing, LowestIn, FailingIn}

-- a search has come to i and passed no number that has P
pub record Searched (P : ℕ → Type 0) (count i : ℕ) : Type 0 where
  pub within : i ≤ count
  pub passed : (k : ℕ) → k < i → ¬ P k

module _ {P : ℕ → Type 0} {count : ℕ} where
  pub lowest_unique : {r s : ℕ} → Lowest P count r → Lowest P count s → r ≡ s
  lowest_unique {r} {s} a b = go (dec_lt r s) (dec_lt s r)
    where
      go : Dec (r < s) → Dec (s < r) → r ≡ s
      go (yes l) k = absurd (b.earlier r l (a.found (omega (arith, b.within))))
      go (no n) (yes l) = absurd (a.earlier s l (b.found (omega (arith, a.within))))
      go (no n) (no m) = omega arith

  pub search_begun : Searched P count 0
  search_begun = record { within = omega arith; passed = λ k below. absurd (omega arith) }

  module _ {i : ℕ} (s : Searched P count i) where
    pub search_next : i < count → ¬ P i → Searched P count (i + 1)
    search_next below fails = record { within = omega arith; passed = below_more _ i s.passed fails }

    pub search_some : i < count → P i → LowestIn P count (Some i)
    search_some below holds = record { inside = below; holds = holds; earlier = s.passed }

    pub search_none : count ≤ i → LowestIn P count None
    search_none over k below = s.passed k (omega arith)

  -- a lowest number, or the count where there is none
  pub lowest_or_count : (r : Option ℕ) → LowestIn P count r → Lowest P count (unwrap_or r count)
  lowest_or_count None l = record { within = omega arith; earlier = l; found = λ below. absurd (omega arith) }
  lowest_or_count (Some r) l =
      record { within = omega (arith, l.inside); earlier = l.earlier; found = λ below. l.holds }

  -- where all below i have P, the first that fails from there on
  pub fails_some : {i : ℕ} → i < count → ((k : ℕ) → k < i → P k) → ¬ P i → FailingIn P count (Some i)
  fails_some below passed fails = record { inside = below; fails = fails; earlier = passed }

-- the first that fails is one
pub first_failing_unique : {P : ℕ → Type 0} {count r s : ℕ} → FirstFailing P count r → FirstFailing P count s → r ≡ s
first_failing_unique {r = r} {s = s} a b = go (dec_lt r s) (dec_lt s r)
  where
    go : Dec (r < s) → Dec (s < r) → r ≡ s
    go (yes l) k = absurd (a.fails (omega (arith, b.within)) (b.earlier r l))
    go (no n) (yes l) = absurd (b.fails (omega (arith, a.within)) (a.earlier s l))
    go (no n) (no m) = omega arith
