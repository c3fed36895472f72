-- Texts that consist of bytes, and their parts.
use mathlib.Core.List.{List, [], ◌∷◌, ◌++◌}
use Prim.Native.Nat.{ℕ, ◌<◌}
use Rattle.pattern.specs.Written.{Byte, plain, escaped}
use Rattle.pattern.specs.Text.{Bytes, no_byte, and_byte}

pub bytes_append : {s t : List ℕ} → Bytes s → Bytes t → Bytes (s ++ t)
bytes_append no_byte k = k
bytes_append (and_byte h g) k = and_byte h (bytes_append g k)

pub bytes_left : (s t : List ℕ) → Bytes (s ++ t) → Bytes s
bytes_left [] t k = no_byte
bytes_left (b ∷ s) t (and_byte h k) = and_byte h (bytes_left s t k)

pub bytes_right : (s t : List ℕ) → Bytes (s ++ t) → Bytes t
bytes_right [] t k = k
bytes_right (b ∷ s) t (and_byte h k) = bytes_right s t k

pub bytes_tail : {b : ℕ} {s : List ℕ} → Bytes (b ∷ s) → Bytes s
bytes_tail (and_byte h k) = k

-- a byte that a text of bytes stands for
pub byte_below : {marks s : List ℕ} {b : ℕ} → Byte marks s b → Bytes s → b < 256
byte_below (plain h) (and_byte k no_byte) = k
byte_below escaped (and_byte h (and_byte k no_byte)) = k
