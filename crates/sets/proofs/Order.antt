-- The order of numbers as sets: more members make a larger number, and what fits a width stays within it.
use mathlib.Core.Path.{◌≡◌, refl, sym, ◌∙◌}
use mathlib.Core.Bool.{Bool, true, false, false≢true}
use mathlib.Core.Logic.{◌≢◌, ⊎_elim}
use Prim.Native.Nat.{ℕ, zero, suc, ◌/◌, ◌^◌, ◌≤◌, ◌<◌}
use native.Mathlib.Decide.{dec_lt}
use native.Mathlib.Nat.{le_of_suc-le-suc, not-suc-le-zero}
use native.Mathlib.Omega.{arith}
use lib.Arith.{lt_of_le-ne}
use lib.Bits.{or_add_and, and_le_r}
use lib.Pow.{pow-lt}
use Rattle.sets.specs.Sets.{member, Subset, only, united, added, removed, joined}
use Rattle.sets.proofs.Members.{member_none, member_next, member_past}
use Rattle.sets.proofs.Operations.{or_cases, added_cases, removed_cases, join_cases}
use Rattle.sets.proofs.Equality.{same_members, united_subset}

pub united_grows : (x y : ℕ) → x ≤ united x y
unfolding united
united_grows x y = omega (arith, or_add_and x y, and_le_r x y)

pub subset_le : (x y : ℕ) → Subset x y → x ≤ y
subset_le x y sub = rw (united_subset x y sub) at (united_grows x y)

pub subset_lt : (x y : ℕ) → Subset x y → x ≢ y → x < y
subset_lt x y sub d = lt_of_le-ne (subset_le x y sub) d

-- a number fits w places exactly if its members lie below w
pub fits_members : (w k x : ℕ) → x < 2 ^ w → member k x ≡ true → k < w
fits_members w k x h m = go (dec_lt k w)
  where
    go : Dec (k < w) → k < w
    go (yes l) = l
    go (no n) = absurd (false≢true (sym (member_past k x h (omega arith)) ∙ m))

pub members_fit : (w x : ℕ) → ((k : ℕ) → member k x ≡ true → k < w) → x < 2 ^ w
members_fit zero x below =
    let empty : x ≡ 0 =
    same_members x 0 (λ k. lacks (member k x) (λ m. not-suc-le-zero (below k m)) ∙ sym (member_none k)) in
    omega arith
  where
    lacks : (b : Bool) → (b ≡ true → ⊥) → b ≡ false
    lacks true n = absurd (n refl)
    lacks false n = refl
members_fit (suc w) x below =
    let half : x / 2 < 2 ^ w =
    members_fit w (x / 2) (λ k m. le_of_suc-le-suc (below (suc k) (member_next k x ∙ m))) in
    omega arith

pub only_fits : (w k : ℕ) → k < w → only k < 2 ^ w
unfolding only
only_fits w k below = pow-lt below

pub united_fits : (w x y : ℕ) → x < 2 ^ w → y < 2 ^ w → united x y < 2 ^ w
united_fits w x y hx hy =
    members_fit w (united x y) (λ k m. ⊎_elim (fits_members w k x hx) (fits_members w k y hy) (or_cases k x y m))

pub added_fits : (w j x : ℕ) → j < w → x < 2 ^ w → added j x < 2 ^ w
added_fits w j x hj hx =
    members_fit w (added j x) (λ k m. ⊎_elim (fits_members w k x hx) (λ same. omega arith) (added_cases k j x m))

pub removed_fits : (w j x : ℕ) → x < 2 ^ w → removed j x < 2 ^ w
removed_fits w j x hx = members_fit w (removed j x) (λ k m. fits_members w k x hx (removed_cases k j x m).0)

pub joined_fits : (w e x y : ℕ) → x < 2 ^ w → y < 2 ^ w → joined e x y < 2 ^ w
joined_fits w e x y hx hy =
    members_fit w (joined e x y)
    (λ k m. ⊎_elim (λ l. fits_members w k x hx l.0) (λ r. fits_members w k y hy r.1) (join_cases e k x y m))
