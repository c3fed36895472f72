-- What a text of digits says, over the base: digits and their characters, one digit more, bounds, and that a text of a given
-- length is determined by its value.
use mathlib.Core.Path.{◌≡◌, refl, sym, ap, ap₂, ◌∙◌}
use mathlib.Core.List.{List, [], ◌∷◌, ◌++◌}
use mathlib.Core.Logic.{⊎_elim}
use Prim.Native.Nat.{ℕ, ◌+◌, ◌-◌, ◌*◌, ◌/◌, ◌^◌, ◌≤◌, ◌<◌}
use native.Mathlib.Nat.{pow-zero, pow-suc, mul-le-mul_right, mul-add-div_right, div-eq_of_lt}
use native.Mathlib.Numerals.{add-one}
use native.Mathlib.Decide.{dec_lt}
use native.Mathlib.Omega.{arith}
use borrow.Author.Tests.{lt-ltb, le-ltb}
use lib.ListN.{length, length-append}
use Rattle.text.specs.Text.{digit}
use Rattle.text.specs.Numeral.{DecimalDigit, HexadecimalDigit, Each, digit_value, value}

pub digit_low : {d : ℕ} → d < 10 → digit d ≡ 48 + d
unfolding digit
digit_low {d} low = rw (lt-ltb d 10 low)

pub digit_high : {d : ℕ} → 10 ≤ d → digit d ≡ 87 + d
unfolding digit
digit_high {d} high = rw (le-ltb d 10 high)

pub digit_value_low : {c : ℕ} → c < 58 → digit_value c ≡ c - 48
unfolding digit_value
digit_value_low {c} low = rw (lt-ltb c 58 low)

digit_value_high : {c : ℕ} → 58 ≤ c → digit_value c ≡ c - 87
unfolding digit_value
digit_value_high {c} high = rw (le-ltb c 58 high)

-- the character is that of a number below the base
pub record Digit (base c : ℕ) : Type 0 where
  pub below : digit_value c < base
  pub same : digit (digit_value c) ≡ c

pub decimal_is_digit : (c : ℕ) → DecimalDigit c → Digit 10 c
decimal_is_digit c h =
    let v : digit_value c ≡ c - 48 = digit_value_low (omega arith) in
    record { below = omega arith; same = omega (arith, digit_low {d = digit_value c} (omega arith)) }

pub hexadecimal_is_digit : (c : ℕ) → HexadecimalDigit c → Digit 16 c
hexadecimal_is_digit c h = ⊎_elim low high h
  where
    low : DecimalDigit c → Digit 16 c
    low l = record { below = omega (arith, (decimal_is_digit c l).below); same = (decimal_is_digit c l).same }

    high : (97 ≤ c) × (c ≤ 102) → Digit 16 c
    high l =
        let v : digit_value c ≡ c - 87 = digit_value_high (omega arith) in
        record { below = omega arith; same = omega (arith, digit_high {d = digit_value c} (omega arith)) }

pub digit_value_digit : (d : ℕ) → d < 16 → digit_value (digit d) ≡ d
digit_value_digit d small = by (dec_lt d 10)
  where
    by : Dec (d < 10) → digit_value (digit d) ≡ d
    by (yes low) = omega (arith, digit_low low, digit_value_low {c = digit d} (omega (arith, digit_low low)))
    by (no high) =
        let h : 10 ≤ d = omega arith in
        omega (arith, digit_high h, digit_value_high {c = digit d} (omega (arith, digit_high h)))

pub each_kind : {Kind Other : ℕ → Type 0} → ((c : ℕ) → Kind c → Other c) → (text : List ℕ) → Each Kind text → Each Other text
each_kind f [] e = tt
each_kind f (c ∷ text) e = (f c e.0, each_kind f text e.1)

pub each_snoc : (Kind : ℕ → Type 0) (text : List ℕ) (c : ℕ) → Each Kind text → Kind c → Each Kind (text ++ (c ∷ []))
each_snoc Kind [] c e k = (k, tt)
each_snoc Kind (x ∷ text) c e k = (e.0, each_snoc Kind text c e.1 k)

-- one digit more at the end
pub value_snoc : (base : ℕ) (text : List ℕ) (c : ℕ) → value base (text ++ (c ∷ [])) ≡ value base text * base + digit_value c
unfolding value
value_snoc base [] c = rw pow-zero (omega arith)
value_snoc base (x ∷ text) c =
    rw (length-append text (c ∷ []), add-one, pow-suc, value_snoc base text c) (omega arith)

pub value_below : (base : ℕ) (text : List ℕ) → Each (Digit base) text → value base text < base ^ length text
unfolding value
value_below base [] e = rw pow-zero (omega arith)
value_below base (c ∷ text) e =
    omega (
      arith,
      pow-suc base (length text),
      value_below base text e.1,
      mul-le-mul_right (base ^ length text) e.0.below,
    )

-- a first digit that is not zero counts
pub value_above : (base c : ℕ) (text : List ℕ) → 1 ≤ digit_value c → base ^ length text ≤ value base (c ∷ text)
unfolding value
value_above base c text one = omega (arith, mul-le-mul_right (base ^ length text) one)

quotient : (p a v : ℕ) → v < p → (a * p + v) / p ≡ a
quotient p a v small = mul-add-div_right (omega arith) a v ∙ omega (arith, div-eq_of_lt small)

same_quotient : (p a b : ℕ) {v w : ℕ} → v < p → w < p → a * p + v ≡ b * p + w → a ≡ b
same_quotient p a b {v} {w} small_v small_w same =
    sym (quotient p a v small_v) ∙ ap (λ (n : ℕ). n / p) same ∙ quotient p b w small_w

-- texts of digits of one length and one value are the same text
pub value_injective : (base : ℕ) (xs ys : List ℕ) → Each (Digit base) xs → Each (Digit base) ys
    → length xs ≡ length ys → value base xs ≡ value base ys → xs ≡ ys
unfolding value
value_injective base [] [] d e len same = refl
value_injective base [] (y ∷ ys) d e len same = absurd (omega arith)
value_injective base (x ∷ xs) [] d e len same = absurd (omega arith)
value_injective base (x ∷ xs) (y ∷ ys) d e len same =
    let tails : length xs ≡ length ys = omega arith in
    let v : value base xs < base ^ length xs = value_below base xs d.1 in
    let w : value base ys < base ^ length xs = rw tails (value_below base ys e.1) in
    let sums : digit_value x * base ^ length xs + value base xs ≡ digit_value y * base ^ length xs + value base ys = rw (← tails) at same in
    let heads : digit_value x ≡ digit_value y = same_quotient (base ^ length xs) (digit_value x) (digit_value y) v w sums in
    let rests : value base xs ≡ value base ys = omega (arith, sums, ap (λ (n : ℕ). n * base ^ length xs) heads) in
    ap₂ ◌∷◌ (sym d.0.same ∙ ap digit heads ∙ e.0.same) (value_injective base xs ys d.1 e.1 tails rests)
