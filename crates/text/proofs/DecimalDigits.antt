-- `decimal n` is the one decimal numeral of n: its digits say n, no zero stands in front, and no other text does so.
use mathlib.Core.Path.{◌≡◌, sym, ap, ◌∙◌}
use mathlib.Core.List.{List, [], ◌∷◌, ◌++◌}
use mathlib.Core.Logic.{◌≢◌}
use Prim.Native.Nat.{ℕ, zero, suc, ◌/◌, ◌%◌, ◌^◌, ◌≤◌, ◌<◌}
use native.Mathlib.Nat.{pow-le-pow_right, mod-eq_of_lt, le_refl}
use native.Mathlib.Decide.{dec_lt, dec_le}
use native.Mathlib.Omega.{arith}
use borrow.Author.Tests.{lt-ltb, le-ltb}
use lib.ListN.{length, get_or, length-append, get_or-append}
use Rattle.text.specs.Text.{digit, last_digits, decimal, Put}
use Rattle.text.specs.Numeral.{DecimalDigit, Each, digit_value, value, Numeral}
use Rattle.text.proofs.Writing.{put_then}
use Rattle.text.proofs.Value.{digit_low, digit_value_low, digit_value_digit, Digit, decimal_is_digit, each_kind, each_snoc, value_snoc, value_below, value_above, value_injective}

last_low : (places : ℕ) {n : ℕ} → n < 10 → last_digits (suc places) n ≡ digit n ∷ []
unfolding last_digits
last_low places {n} low = rw (lt-ltb n 10 low, mod-eq_of_lt low)

last_high : (places : ℕ) {n : ℕ} → 10 ≤ n → last_digits (suc places) n ≡ last_digits places (n / 10) ++ (digit (n % 10) ∷ [])
unfolding last_digits
last_high places {n} high = rw (le-ltb n 10 high)

-- more places than the number has digits change nothing
enough : (a b n : ℕ) → n < a → n < b → last_digits a n ≡ last_digits b n
enough zero b n in-a in_b = absurd (omega arith)
enough (suc a) zero n in-a in_b = absurd (omega arith)
enough (suc a) (suc b) n in-a in_b = by (enough a b (n / 10)) (dec_lt n 10)
  where
    by : (n / 10 < a → n / 10 < b → last_digits a (n / 10) ≡ last_digits b (n / 10)) → Dec (n < 10)
        → last_digits (suc a) n ≡ last_digits (suc b) n
    by front (yes low) = last_low a low ∙ sym (last_low b low)
    by front (no small) =
        let high : 10 ≤ n = omega arith in
        rw (last_high a high, last_high b high, front (omega arith) (omega arith))

pub decimal_low : {n : ℕ} → n < 10 → decimal n ≡ digit n ∷ []
unfolding decimal
decimal_low {n} low = last_low n low

pub decimal_high : {n : ℕ} → 10 ≤ n → decimal n ≡ decimal (n / 10) ++ (digit (n % 10) ∷ [])
unfolding decimal
decimal_high {n} high =
    rw (last_high n high, enough n (suc (n / 10)) (n / 10) (omega arith) (omega arith))

-- what holds of one digit, and goes on from a number to one with a digit more, holds of every number
pub decimal_induction : (P : ℕ → List ℕ → Type 0)
    → ((d : ℕ) → d < 10 → P d (digit d ∷ []))
    → ((n : ℕ) (front : List ℕ) → 10 ≤ n → P (n / 10) front → P n (front ++ (digit (n % 10) ∷ [])))
    → (n : ℕ) → P n (decimal n)
decimal_induction P one more n = below (suc n) n (le_refl (suc n))
  where
    by : (n : ℕ) → (n / 10 < n → P (n / 10) (decimal (n / 10))) → Dec (n < 10) → P n (decimal n)
    by n front (yes low) = rw (decimal_low low) (one n low)
    by n front (no small) =
        let high : 10 ≤ n = omega arith in
        rw (decimal_high high) (more n (decimal (n / 10)) high (front (omega arith)))

    below : (bound n : ℕ) → n < bound → P n (decimal n)
    below zero n h = absurd (omega arith)
    below (suc bound) n h = by n (λ less. below bound (n / 10) (omega arith)) (dec_lt n 10)

pub decimal_digits : (n : ℕ) → Each DecimalDigit (decimal n)
decimal_digits =
    decimal_induction (λ n text. Each DecimalDigit text) (λ d low. (is_digit d low, tt))
    (λ n front high digits. each_snoc DecimalDigit front (digit (n % 10)) digits (is_digit (n % 10) (omega arith)))
  where
    is_digit : (d : ℕ) → d < 10 → DecimalDigit (digit d)
    is_digit d low = omega (arith, digit_low low)

pub decimal_value : (n : ℕ) → value 10 (decimal n) ≡ n
unfolding value
decimal_value =
    decimal_induction (λ n text. value 10 text ≡ n) (λ d low. omega (arith, digit_value_digit d (omega arith)))
    (λ n front high says.
    value_snoc 10 front (digit (n % 10)) ∙ omega (arith, says, digit_value_digit (n % 10) (omega arith)))

-- there is a first digit, and it is zero only of zero
decimal_first : (n : ℕ) → (1 ≤ length (decimal n)) × (get_or (decimal n) 0 0 ≡ 48 → n ≡ 0)
decimal_first =
    decimal_induction (λ n text. (1 ≤ length text) × (get_or text 0 0 ≡ 48 → n ≡ 0))
    (λ d low. (omega arith, λ zero_first. omega (arith, digit_low low)))
    (λ n front high first. (
      omega (arith, length-append front (digit (n % 10) ∷ [])),
      λ zero_first. omega (arith, first.1 (sym (get_or-append front (digit (n % 10) ∷ []) 0 0 first.0) ∙ zero_first)),
    ))

-- a zero in front is the number zero, and the only digit
pub decimal_no_leading_zero : (n : ℕ) → get_or (decimal n) 0 0 ≡ 48 → (n ≡ 0) × (decimal n ≡ 48 ∷ [])
decimal_no_leading_zero n zero_first =
    let none : n ≡ 0 = (decimal_first n).1 zero_first in
    (none, ap decimal none ∙ decimal_low (omega arith) ∙ ap (λ (c : ℕ). c ∷ []) (digit_low (omega arith)))

pub decimal_numeral : (n : ℕ) → Numeral n (decimal n)
decimal_numeral n = record {
  digits = decimal_digits n;
  written = (decimal_first n).0;
  leading = λ zero_first. ap length (decimal_no_leading_zero n zero_first).1;
  says = decimal_value n;
}

-- a numeral has no more digits than its number needs
pub numeral_length : (n : ℕ) (text : List ℕ) → Numeral n text → (k : ℕ) → 1 ≤ k → n < 10 ^ k → length text ≤ k
numeral_length n [] numeral k one small = omega arith
numeral_length n (c ∷ text) numeral k one small = by (dec_le (suc (length text)) k)
  where
    by : Dec (suc (length text) ≤ k) → suc (length text) ≤ k
    by (yes fits) = fits
    by (no long) =
        let nonzero : c ≢ 48 = λ zero_first. omega (arith, numeral.leading zero_first) in
        let first : DecimalDigit c = numeral.digits.0 in
        let counts : 1 ≤ digit_value c = omega (arith, digit_value_low {c = c} (omega arith)) in
        absurd
        (omega (
          arith,
          numeral.says,
          value_above 10 c text counts,
          pow-le-pow_right {n = 10} (omega arith) {i = k} {j = length text} (omega arith),
        ))

pub decimal_length : (n k : ℕ) → 1 ≤ k → n < 10 ^ k → length (decimal n) ≤ k
decimal_length n = numeral_length n (decimal n) (decimal_numeral n)

pub decimal_length_word : (n : ℕ) → n < 2 ^ 64 → length (decimal n) ≤ 20
decimal_length_word n fits = decimal_length n 20 (omega arith) (omega arith)

-- a larger number has no fewer digits
pub decimal_longer : (n m : ℕ) → n ≤ m → length (decimal n) ≤ length (decimal m)
decimal_longer n m less =
    decimal_length n (length (decimal m)) (decimal_first m).0
    (omega (arith, decimal_value m, value_below 10 (decimal m) (each_kind decimal_is_digit (decimal m) (decimal_digits m))))

pub numeral_unique : (n : ℕ) (text other : List ℕ) → Numeral n text → Numeral n other → text ≡ other
numeral_unique n text other p q =
    value_injective 10 text other (digits text p) (digits other q)
    (omega (arith, shorter text other p q, shorter other text q p))
    (p.says ∙ sym q.says)
  where
    digits : (text : List ℕ) → Numeral n text → Each (Digit 10) text
    digits text p = each_kind decimal_is_digit text p.digits

    shorter : (text other : List ℕ) → Numeral n text → Numeral n other → length text ≤ length other
    shorter text other p q =
        numeral_length n text p (length other) q.written
        (omega (arith, q.says, value_below 10 other (digits other q)))

pub decimal_unique : (n : ℕ) (text : List ℕ) → Numeral n text → text ≡ decimal n
decimal_unique n text numeral = numeral_unique n text (decimal n) numeral (decimal_numeral n)

-- a number below ten is written by its only digit, another by the digits in front and then its last
pub put_only : {n : ℕ} {before : List ℕ} {at : ℕ} {after : List ℕ} {next : ℕ} → n < 10
    → Put before at (digit (n % 10) ∷ []) after next → Put before at (decimal n) after next
put_only {n} low p = rw (decimal_low low) (rw (mod-eq_of_lt low) at p)

pub put_last : {n : ℕ} {before : List ℕ} {at : ℕ} {between after : List ℕ} {middle next : ℕ} → 10 ≤ n
    → Put before at (decimal (n / 10)) between middle → Put between middle (digit (n % 10) ∷ []) after next
    → Put before at (decimal n) after next
put_last {n} high p q = rw (decimal_high high) (put_then (decimal (n / 10)) (digit (n % 10) ∷ []) p q)
