-- A number in bytes, the lowest first: as many bytes as asked for, which make the number again; and writing them one by one.
use mathlib.Core.Path.{◌≡◌, refl, ap, ◌∙◌}
use mathlib.Core.List.{[], ◌∷◌}
use Prim.Native.Nat.{ℕ, zero, suc, ◌/◌, ◌%◌, ◌^◌, ◌<◌}
use native.Mathlib.Nat.{mod-add-div, div-lt_iff_lt-mul, div-one, div-div-eq-div-mul, pow-suc, pow-succ'}
use native.Mathlib.Omega.{arith}
use lib.ListN.{length, get_or}
use Rattle.desk.specs.Desk.{little_endian}
use Rattle.desk.specs.Demands.{value_of}

pub little_endian_length : (width n : ℕ) → length (little_endian width n) ≡ width
unfolding little_endian
little_endian_length zero n = refl
little_endian_length (suc width) n = ap suc (little_endian_length width (n / 256))

-- byte i counts 256 ^ i
pub little_endian_byte : (width n i : ℕ) → i < width → get_or (little_endian width n) i 0 ≡ n / 256 ^ i % 256
unfolding little_endian
little_endian_byte zero n i h = absurd (omega arith)
little_endian_byte (suc width) n zero h = rw div-one
little_endian_byte (suc width) n (suc i) h =
    little_endian_byte width (n / 256) i (omega arith) ∙ rw (div-div-eq-div-mul n 256 (256 ^ i), pow-succ')

-- the bytes make the number again
pub little_endian_value : (width n : ℕ) → n < 256 ^ width → value_of (little_endian width n) ≡ n
unfolding little_endian value_of
little_endian_value zero n h = omega arith
little_endian_value (suc width) n h =
    let rest : n / 256 < 256 ^ width = (div-lt_iff_lt-mul {k = 256} {x = n} {y = 256 ^ width} (omega arith)).1 (rw pow-suc at h) in
    rw (little_endian_value width (n / 256) rest) (mod-add-div n 256)

-- the eight bytes of a word, by the powers of 256
pub eight_bytes : (n : ℕ)
    → n % 256 ∷ n / 256 % 256 ∷ n / 65536 % 256 ∷ n / 16777216 % 256 ∷ n / 4294967296 % 256 ∷ n / 1099511627776 % 256
    ∷ n / 281474976710656 % 256 ∷ n / 72057594037927936 % 256 ∷ []
    ≡ little_endian 8 n
unfolding little_endian
eight_bytes n = simp div-div-eq-div-mul
