-- The members of a number, place by place: of 0, of a power, of the bit operations, and past the width.
use mathlib.Core.Path.{◌≡◌, refl, ap, ◌∙◌}
use mathlib.Core.Bool.{Bool, true, false, not, ◌&&◌, ◌||◌, xor}
use Prim.Native.Nat.{ℕ, zero, suc, ◌+◌, ◌-◌, ◌*◌, ◌/◌, ◌%◌, ◌^◌, ◌≤◌, ◌<◌, min, max}
use native.Mathlib.Nat.{zero-div, div-one, div-eq_of_lt, mod-lt, lt_of_lt_of_le, one-mul, mod-eq_of_lt}
use native.Mathlib.Decide.{dec_lt}
use native.Mathlib.Numerals.{one-add}
use native.Mathlib.Omega.{arith}
use lib.Arith.{digits_mod}
use lib.Bits.{bit_and, bit_or, bit_xor, differ, and_shr, or_shr, xor_shr, and_step, or_step, xor_step}
use lib.Dec.{eqb, eqb-zero-suc, eqb-suc-zero, eqb-suc-suc}
use lib.Pow.{shr-shr, pow_mono, pow-lt}
use Rattle.sets.specs.Sets.{member}

-- the binary digit that stands for a Bool
abbrev pub digit : Bool → ℕ
digit true = 1
digit false = 0

digit_below : (b : Bool) → digit b < 2
digit_below true = omega arith
digit_below false = omega arith

digit_read : (b : Bool) → eqb (digit b) 1 ≡ b
digit_read true = refl
digit_read false = refl

digit_of : (d : ℕ) → d < 2 → d ≡ digit (eqb d 1)
digit_of zero h = refl
digit_of (suc zero) h = refl
digit_of (suc (suc d)) h = absurd (omega arith)

pub member_digit : (k x : ℕ) → x / 2 ^ k % 2 ≡ digit (member k x)
unfolding member
member_digit k x = digit_of (x / 2 ^ k % 2) (mod-lt (x / 2 ^ k) (omega arith))

pub member_none : (k : ℕ) → member k 0 ≡ false
unfolding member
member_none k = rw (zero-div (2 ^ k))

-- place 0 is the lowest digit, and the others are those of the half
pub member_lowest : (x : ℕ) → x % 2 ≡ digit (member 0 x)
member_lowest x = rw div-one at (member_digit 0 x)

pub member_next : (k x : ℕ) → member (suc k) x ≡ member k (x / 2)
unfolding member
member_next k x = rw (← (one-add k), ← (shr-shr x 1 k))

-- an operation on numbers that goes digit by digit, as f on each pair of digits, goes member by member, as g on the two Bools
module _ (op f : ℕ → ℕ → ℕ) (g : Bool → Bool → Bool)
    (shift : (x y k : ℕ) → op x y / 2 ^ k ≡ op (x / 2 ^ k) (y / 2 ^ k))
    (step : (x y : ℕ) → op x y ≡ op (x / 2) (y / 2) * 2 + f (x % 2) (y % 2))
    (agree : (a b : Bool) → f (digit a) (digit b) ≡ digit (g a b)) where
  digit_at : (k x y : ℕ) → op x y / 2 ^ k % 2 ≡ digit (g (member k x) (member k y))
  digit_at k x y =
      rw (shift x y k, step (x / 2 ^ k) (y / 2 ^ k), member_digit k x, member_digit k y, agree)
      (digits_mod (op (x / 2 ^ k / 2) (y / 2 ^ k / 2)) (digit_below (g (member k x) (member k y))))

  member_digitwise : (k x y : ℕ) → member k (op x y) ≡ g (member k x) (member k y)
  unfolding member
  member_digitwise k x y = ap (λ (d : ℕ). eqb d 1) (digit_at k x y) ∙ digit_read (g (member k x) (member k y))

pub member_or : (k x y : ℕ) → member k (bit_or x y) ≡ member k x || member k y
member_or = member_digitwise bit_or max ◌||◌ or_shr or_step agree
  where
    agree : (a b : Bool) → max (digit a) (digit b) ≡ digit (a || b)
    agree true true = refl
    agree true false = refl
    agree false true = refl
    agree false false = refl

pub member_and : (k x y : ℕ) → member k (bit_and x y) ≡ member k x && member k y
member_and = member_digitwise bit_and min ◌&&◌ and_shr and_step agree
  where
    agree : (a b : Bool) → min (digit a) (digit b) ≡ digit (a && b)
    agree true true = refl
    agree true false = refl
    agree false true = refl
    agree false false = refl

pub member_xor : (k x y : ℕ) → member k (bit_xor x y) ≡ xor (member k x) (member k y)
unfolding xor
member_xor = member_digitwise bit_xor differ xor xor_shr xor_step agree
  where
    agree : (a b : Bool) → differ (digit a) (digit b) ≡ digit (xor a b)
    agree true true = refl
    agree true false = refl
    agree false true = refl
    agree false false = refl

pub member_power : (j k : ℕ) → member j (2 ^ k) ≡ eqb j k
unfolding member
member_power zero zero = refl
member_power zero (suc k) =
    let even : 2 ^ suc k / 2 ^ 0 % 2 ≡ 0 = rw div-one (omega arith) in
    rw (even, eqb-zero-suc k)
member_power (suc j) zero = rw eqb-suc-zero (member_next j 1 ∙ member_none j)
member_power (suc j) (suc k) =
    let half : 2 ^ suc k / 2 ≡ 2 ^ k = omega arith in
    rw eqb-suc-suc (member_next j (2 ^ suc k) ∙ ap (member j) half ∙ member_power j k)

pub member_past : {w : ℕ} (k x : ℕ) → x < 2 ^ w → w ≤ k → member k x ≡ false
unfolding member
member_past k x h l = rw (div-eq_of_lt (lt_of_lt_of_le h (pow_mono l)))

-- two numbers that sum up to all ones in w places are each other's complement
pub member_complement : (w k x y : ℕ) → x + y + 1 ≡ 2 ^ w → k < w → member k y ≡ not (member k x)
member_complement zero k x y e l = absurd (omega arith)
member_complement (suc w) zero x y e l =
    other (member 0 y) (member 0 x) (omega (arith, member_lowest x, member_lowest y))
  where
    other : (a b : Bool) → digit a + digit b ≡ 1 → a ≡ not b
    other true true p = absurd (omega arith)
    other true false p = refl
    other false true p = refl
    other false false p = absurd (omega arith)
member_complement (suc w) (suc k) x y e l =
    rw (member_next k x, member_next k y) (member_complement w k (x / 2) (y / 2) (omega arith) (omega arith))

-- x with place j cleared by a mask of w places
pub member_cleared : (w k j x : ℕ) → x < 2 ^ w → j < w
    → member k (bit_and x ((2 ^ w - 1) - 2 ^ j)) ≡ member k x && not (eqb k j)
member_cleared w k j x h l = rw member_and (go (dec_lt k w))
  where
    mask : ℕ
    mask = (2 ^ w - 1) - 2 ^ j

    go : Dec (k < w) → member k x && member k mask ≡ member k x && not (eqb k j)
    go (yes b) =
        rw (member_complement w k (2 ^ j) mask (omega (arith, pow-lt l)) b, member_power)
    go (no n) = rw (member_past {w = w} k x h (omega arith))

-- 1 shifted to a place below the width stays whole
pub shifted_one : (w k : ℕ) → k < w → (1 * 2 ^ k) % 2 ^ w ≡ 2 ^ k
shifted_one w k h = rw one-mul (mod-eq_of_lt (pow-lt h))
