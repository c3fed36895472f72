-- Reading a number digit by digit, and reading back a number that was written.
use mathlib.Core.Path.{◌≡◌, refl, sym, ap, ◌∙◌}
use mathlib.Core.Bool.{Bool, true, false, ◌&&◌, true≢false}
use mathlib.Core.List.{List, [], ◌∷◌, ◌++◌}
use Prim.Native.Nat.{ℕ, suc, ◌+◌, ◌-◌, ◌*◌, ◌^◌, ◌≤◌, ◌<◌, min}
use native.Mathlib.Nat.{pow-zero, pow-suc}
use native.Mathlib.Decide.{dec_lt}
use native.Mathlib.Omega.{arith}
use borrow.Author.Tests.{le-ltb, lt-ltb, le-leb, lt-leb, leb-true, ltb-true}
use lib.Dec.{leb, ltb}
use lib.ListN.{length, get_or, drop, get_or-eq_default, drop_of_length-le}
use lib.Seq.{drop-cons}
use Rattle.std.specs.Int.{is_in_range}
use Rattle.text.specs.Text.{decimal}
use Rattle.text.specs.Numeral.{DecimalDigit, Each, digit_value, value}
use Rattle.text.specs.Reading.{is_digit, leading_digits, most_read, number_at}
use Rattle.text.proofs.Value.{digit_value_low}
use Rattle.text.proofs.DecimalDigits.{decimal_value, decimal_digits}

and_true : (x y : Bool) → x && y ≡ true → (x ≡ true) × (y ≡ true)
and_true true y e = (refl, e)
and_true false y e = absurd (true≢false (sym e))

pub digit_is : (b : ℕ) → is_digit b ≡ true → DecimalDigit b
unfolding is_digit
digit_is b e =
    let (low, high) = and_true (leb 48 b) (ltb b 58) e in
    omega (arith, leb-true 48 b low, ltb-true b 58 high)

pub is_digit_lem : (b : ℕ) → DecimalDigit b → is_digit b ≡ true
unfolding is_digit
is_digit_lem b d = rw (le-leb 48 b (omega arith), lt-ltb b 58 (omega arith))

pub digit_within : (text : List ℕ) (i : ℕ) → is_digit (get_or text i 0) ≡ true → i < length text
digit_within text i e = by (dec_lt i (length text))
  where
    by : Dec (i < length text) → i < length text
    by (yes inside) = inside
    by (no outside) = absurd (omega (arith, digit_is (get_or text i 0) e, get_or-eq_default text 0 {n = i} (omega arith)))

-- digits behind a number that was read so far
unfoldable pub grown : ℕ → List ℕ → ℕ
grown v [] = v
grown v (b ∷ digits) = grown (10 * v + (b - 48)) digits

-- what a number that was read too large comes to does not change what the rest makes of it
saturated : (digits : List ℕ) (v w : ℕ) → min v most_read ≡ min w most_read → min (grown v digits) most_read ≡ min (grown w digits) most_read
unfolding grown
saturated [] v w e = e
saturated (b ∷ digits) v w e = saturated digits (10 * v + (b - 48)) (10 * w + (b - 48)) (omega arith)

grown_value : (digits : List ℕ) (v : ℕ) → Each DecimalDigit digits → grown v digits ≡ v * 10 ^ length digits + value 10 digits
unfolding grown value
grown_value [] v all = rw pow-zero (omega arith)
grown_value (b ∷ digits) v all =
    let counts : digit_value b ≡ b - 48 = digit_value_low (omega (arith, all.0)) in
    grown_value digits (10 * v + (b - 48)) all.1 ∙ rw (pow-suc, counts) (omega arith)

-- std's test of a range
pub digit_in_range : (b : ℕ) → is_in_range 48 57 b ≡ is_digit b
unfolding is_digit
digit_in_range b = by (dec_lt b 58)
  where
    by : Dec (b < 58) → is_in_range 48 57 b ≡ leb 48 b && ltb b 58
    by (yes low) = rw (le-leb b 57 (omega arith), lt-ltb b 58 low)
    by (no high) = rw (lt-leb b 57 (omega arith), le-ltb b 58 (omega arith))

leading_digit : (b : ℕ) (text : List ℕ) → is_digit b ≡ true → leading_digits (b ∷ text) ≡ b ∷ leading_digits text
unfolding leading_digits
leading_digit b text e = rw (e, leading_digits)

leading_none : (b : ℕ) (text : List ℕ) → is_digit b ≡ false → leading_digits (b ∷ text) ≡ []
unfolding leading_digits
leading_none b text e = rw (e, leading_digits)

leading_all : (text : List ℕ) → Each DecimalDigit (leading_digits text)
unfolding leading_digits
leading_all [] = tt
leading_all (b ∷ text) = by (is_digit b) refl (leading_all text)
  where
    by : (x : Bool) → is_digit b ≡ x → Each DecimalDigit (leading_digits text)
        → Each DecimalDigit (elim x [ true ↦ b ∷ leading_digits text | false ↦ [] ])
    by true e all = (digit_is b e, all)
    by false e all = tt

-- the digits that stand from a place on
abbrev pub digits_from : List ℕ → ℕ → List ℕ
digits_from text at = leading_digits (drop at text)

digits_next : (text : List ℕ) (i : ℕ) → is_digit (get_or text i 0) ≡ true → digits_from text i ≡ get_or text i 0 ∷ digits_from text (suc i)
digits_next text i e =
    ap leading_digits (drop-cons text i 0 (digit_within text i e)) ∙ leading_digit (get_or text i 0) (drop (suc i) text) e

digits_none : (text : List ℕ) (i : ℕ) → is_digit (get_or text i 0) ≡ false → digits_from text i ≡ []
unfolding leading_digits
digits_none text i e = by (dec_lt i (length text))
  where
    by : Dec (i < length text) → digits_from text i ≡ []
    by (yes inside) = ap leading_digits (drop-cons text i 0 inside) ∙ leading_none (get_or text i 0) (drop (suc i) text) e
    by (no outside) = ap leading_digits (drop_of_length-le text {i = i} (omega arith))

-- the digits that are left make of the value so far what all of them spell
pub record Underway (text : List ℕ) (at value next : ℕ) : Type 0 where
  pub small : value ≤ most_read
  pub number : min (grown value (digits_from text next)) most_read ≡ min (grown 0 (digits_from text at)) most_read
  pub place : next + length (digits_from text next) ≡ at + length (digits_from text at)

pub underway_start : (text : List ℕ) (at : ℕ) → Underway text at 0 at
underway_start text at = record { small = omega arith; number = refl; place = refl }

pub underway_more : {text : List ℕ} {at v next : ℕ} → Underway text at v next → is_digit (get_or text next 0) ≡ true
    → Underway text at (min (10 * v + (get_or text next 0 - 48)) most_read) (next + 1)
unfolding grown
underway_more {text} {at} {v} {next} u e =
    let b : ℕ = get_or text next 0 in
    let digits : List ℕ = digits_from text (suc next) in
    let split : digits_from text next ≡ b ∷ digits = digits_next text next e in
    let one : next + 1 ≡ suc next = omega arith in
    let whole : min (grown v (b ∷ digits)) most_read ≡ min (grown 0 (digits_from text at)) most_read =
    ap (λ (ds : List ℕ). min (grown v ds) most_read) (sym split) ∙ u.number in
    let behind : next + length (b ∷ digits) ≡ at + length (digits_from text at) =
    ap (λ (ds : List ℕ). next + length ds) (sym split) ∙ u.place in
    record {
      small = omega arith;
      number =
          ap (λ (i : ℕ). min (grown (min (10 * v + (b - 48)) most_read) (digits_from text i)) most_read) one
          ∙ saturated digits (min (10 * v + (b - 48)) most_read) (10 * v + (b - 48)) (omega arith)
          ∙ whole;
      place = ap (λ (i : ℕ). i + length (digits_from text i)) one ∙ omega (arith, behind);
    }

pub underway_end : {text : List ℕ} {at v next : ℕ} → Underway text at v next → is_digit (get_or text next 0) ≡ false
    → record { value = v; next = next } ≡ number_at text at
unfolding grown number_at
underway_end {text} {at} {v} {next} u e =
    let none : digits_from text next ≡ [] = digits_none text next e in
    let whole : min v most_read ≡ min (grown 0 (digits_from text at)) most_read =
    ap (λ (ds : List ℕ). min (grown v ds) most_read) (sym none) ∙ u.number in
    let place : next + 0 ≡ at + length (digits_from text at) =
    ap (λ (ds : List ℕ). next + length ds) (sym none) ∙ u.place in
    let spelled : grown 0 (digits_from text at) ≡ value 10 (digits_from text at) =
    grown_value (digits_from text at) 0 (leading_all (drop at text)) ∙ omega arith in
    let values : v ≡ min (value 10 (digits_from text at)) most_read = omega (arith, u.small) in
    let places : next ≡ at + length (digits_from text at) = omega arith in
    λ i. record { value = values i; next = places i }

-- digits that no further one follows are all that stand there
leading_behind : (digits rest : List ℕ) → Each DecimalDigit digits → is_digit (get_or rest 0 0) ≡ false → leading_digits (digits ++ rest) ≡ digits
unfolding leading_digits
leading_behind [] [] all other = refl
leading_behind [] (b ∷ rest) all other = leading_none b rest other
leading_behind (b ∷ digits) rest all other =
    leading_digit b (digits ++ rest) (is_digit_lem b all.0) ∙ ap (λ (ds : List ℕ). b ∷ ds) (leading_behind digits rest all.1 other)

-- a number that was written is read back, up to the largest, and the place is behind it
pub number_written : (text : List ℕ) (at n : ℕ) (rest : List ℕ) → drop at text ≡ decimal n ++ rest → is_digit (get_or rest 0 0) ≡ false
    → number_at text at ≡ record { value = min n most_read; next = at + length (decimal n) }
unfolding number_at
number_written text at n rest here other =
    let digits : leading_digits (drop at text) ≡ decimal n =
    ap leading_digits here ∙ leading_behind (decimal n) rest (decimal_digits n) other in
    let values : min (value 10 (leading_digits (drop at text))) most_read ≡ min n most_read =
    ap (λ (v : ℕ). min v most_read) (ap (value 10) digits ∙ decimal_value n) in
    let places : at + length (leading_digits (drop at text)) ≡ at + length (decimal n) = ap (λ (ds : List ℕ). at + length ds) digits in
    λ i. record { value = values i; next = places i }
