-- `hexadecimal n` is the one text of 16 hexadecimal digits that says n.
use mathlib.Core.Path.{◌≡◌, refl, sym, ap, ◌∙◌}
use mathlib.Core.Logic.{inl, inr}
use mathlib.Core.List.{List, ◌∷◌}
use Prim.Native.Nat.{ℕ, zero, suc, ◌+◌, ◌-◌, ◌*◌, ◌/◌, ◌%◌, ◌^◌, ◌<◌}
use native.Mathlib.Nat.{pow-suc, mod-eq_of_lt, mul-suc}
use native.Mathlib.Decide.{dec_lt}
use native.Mathlib.Omega.{arith}
use lib.ListN.{length}
use lib.Pow.{pow-add, mod-pow-add}
use Rattle.text.specs.Text.{digit, hex_digits, hexadecimal}
use Rattle.text.specs.Numeral.{HexadecimalDigit, Each, value}
use Rattle.text.proofs.Value.{digit_low, digit_high, digit_value_digit, hexadecimal_is_digit, each_kind, value_injective}

-- a hexadecimal place is four binary ones
pub sixteen_pow : (k : ℕ) → 16 ^ k ≡ 2 ^ (4 * k)
sixteen_pow zero = refl
sixteen_pow (suc k) = rw (pow-suc, mul-suc 4 k, pow-add, sixteen_pow k)

pub hex_digits_next : (k n : ℕ) → 0 < k → hex_digits k n ≡ digit (n / 2 ^ (4 * (k - 1)) % 16) ∷ hex_digits (k - 1) n
unfolding hex_digits
hex_digits_next zero n some = absurd (omega arith)
hex_digits_next (suc k) n some =
    let fewer : suc k - 1 ≡ k = omega arith in
    rw (fewer, sixteen_pow k)

hex_digits_length : (k n : ℕ) → length (hex_digits k n) ≡ k
unfolding hex_digits
hex_digits_length zero n = refl
hex_digits_length (suc k) n = ap suc (hex_digits_length k n)

pub hexadecimal_length : (n : ℕ) → length (hexadecimal n) ≡ 16
unfolding hexadecimal
hexadecimal_length n = hex_digits_length 16 n

hex_digits_digits : (k n : ℕ) → Each HexadecimalDigit (hex_digits k n)
unfolding hex_digits
hex_digits_digits zero n = tt
hex_digits_digits (suc k) n = (is_digit (n / 16 ^ k % 16) (omega arith), hex_digits_digits k n)
  where
    is_digit : (d : ℕ) → d < 16 → HexadecimalDigit (digit d)
    is_digit d small = by (dec_lt d 10)
      where
        by : Dec (d < 10) → HexadecimalDigit (digit d)
        by (yes low) = inl (omega (arith, digit_low low))
        by (no high) = inr (omega (arith, digit_high {d = d} (omega arith)))

pub hexadecimal_digits : (n : ℕ) → Each HexadecimalDigit (hexadecimal n)
unfolding hexadecimal
hexadecimal_digits n = hex_digits_digits 16 n

hex_digits_value : (k n : ℕ) → value 16 (hex_digits k n) ≡ n % 16 ^ k
unfolding hex_digits value
hex_digits_value zero n = omega arith
hex_digits_value (suc k) n =
    let wider : 16 ^ suc k ≡ 2 ^ (4 + 4 * k) = sixteen_pow (suc k) ∙ ap (λ (j : ℕ). 2 ^ j) (omega arith) in
    rw (digit_value_digit (n / 16 ^ k % 16) (omega arith), hex_digits_length k n, hex_digits_value k n, wider, sixteen_pow k)
    (sym (mod-pow-add n 4 (4 * k)))

pub hexadecimal_value : (n : ℕ) → n < 2 ^ 64 → value 16 (hexadecimal n) ≡ n
unfolding hexadecimal
hexadecimal_value n fits = hex_digits_value 16 n ∙ mod-eq_of_lt fits

pub hexadecimal_unique : (n : ℕ) (text : List ℕ) → n < 2 ^ 64 → Each HexadecimalDigit text → length text ≡ 16
    → value 16 text ≡ n → text ≡ hexadecimal n
hexadecimal_unique n text fits digits long says =
    value_injective 16 text (hexadecimal n) (each_kind hexadecimal_is_digit text digits)
    (each_kind hexadecimal_is_digit (hexadecimal n) (hexadecimal_digits n))
    (long ∙ sym (hexadecimal_length n))
    (says ∙ sym (hexadecimal_value n fits))
