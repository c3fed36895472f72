-- The bytes of an answer: how many they are, and the words that make them, written one after the other.
use mathlib.Core.Path.{◌≡◌, refl}
use mathlib.Core.List.{List}
use Prim.Native.Nat.{ℕ}
use lib.ListN.{length}
use lib.Seq.{sets, sets-eq}
use Rattle.sets.specs.Calls.{number}
use Rattle.answers.specs.declared.Answer.{Answer}
use Rattle.answers.specs.Buffers.{over}
use Rattle.desk.specs.Desk.{little_endian, answer_bytes, answer_size, Lent}

-- every answer has as many bytes
pub answer_size_lem : (a : Answer) → length (answer_bytes a) ≡ answer_size
unfolding answer_size answer_bytes little_endian
answer_size_lem a = refl

pub answer_size_is : answer_size ≡ 40
unfolding answer_size answer_bytes little_endian
answer_size_is = refl

-- five words one after the other are the answer, written over the buffer
pub words_written : (a : Answer) (entry : List ℕ) {place detail steps expected exit : List ℕ} → Lent entry
    → place ≡ sets entry 0 (little_endian 8 a.place)
    → detail ≡ sets place 8 (little_endian 8 a.detail)
    → steps ≡ sets detail 16 (little_endian 8 a.steps)
    → expected ≡ sets steps 24 (little_endian 8 (number a.expected))
    → exit ≡ sets expected 32 (little_endian 8 a.depth)
    → exit ≡ over (answer_bytes a) entry
unfolding answer_size answer_bytes little_endian
words_written a entry lent p d s x e = rw (e, x, s, d, p) (sets-eq (answer_bytes a) entry 0 lent)
