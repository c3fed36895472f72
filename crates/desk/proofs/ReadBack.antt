-- What a caller reads from the words is the answer, field by field, wherever the field fits its word.
use mathlib.Core.Path.{◌≡◌, refl}
use mathlib.Core.List.{List}
use Prim.Native.Nat.{ℕ, ◌^◌, ◌<◌}
use Rattle.sets.specs.Calls as sets
use Rattle.sets.proofs.Promise.{number_unique}
use Rattle.answers.specs.declared.Answer.{Answer}
use Rattle.answers.specs.Buffers.{over}
use Rattle.desk.specs.Desk.{little_endian, answer_bytes, Called}
use Rattle.desk.specs.Demands.{value_of, word_at, answer_from}
use Rattle.desk.proofs.Calls.{AnswerOf, called_answer}
use Rattle.desk.proofs.LittleEndian.{little_endian_value}

-- a word of eight bytes is read back
word_back : (n : ℕ) → n < 2 ^ 64 → value_of (little_endian 8 n) ≡ n
word_back n h = little_endian_value 8 n h

-- each field fits a 64-bit word
pub record FitsWords (a : Answer) : Type 0 where
  pub place : a.place < 2 ^ 64
  pub detail : a.detail < 2 ^ 64
  pub steps : a.steps < 2 ^ 64
  pub expected : sets.number a.expected < 2 ^ 64
  pub depth : a.depth < 2 ^ 64

-- r is read from the words of a: its number is a's, and so is each field of a that fits a word
pub record ReadFrom (a r : Answer) : Type 0 where
  pub number : r.number ≡ a.number
  pub place : a.place < 2 ^ 64 → r.place ≡ a.place
  pub detail : a.detail < 2 ^ 64 → r.detail ≡ a.detail
  pub steps : a.steps < 2 ^ 64 → r.steps ≡ a.steps
  pub expected : sets.number a.expected < 2 ^ 64 → sets.number r.expected ≡ sets.number a.expected
  pub depth : a.depth < 2 ^ 64 → r.depth ≡ a.depth

written_read : (a : Answer) (answer : List ℕ) → ReadFrom a (answer_from a.number (over (answer_bytes a) answer))
unfolding answer_from word_at answer_bytes little_endian
written_read a answer =
    record {
      number = refl;
      place = λ h. word_back a.place h;
      detail = λ h. word_back a.detail h;
      steps = λ h. word_back a.steps h;
      expected = λ h. word_back (sets.number a.expected) h;
      depth = λ h. word_back a.depth h;
    }

-- so it is with the answer of a call
pub answer_read : {Buffers : Type 0} {Outcome : Answer → Buffers → Type 0} {answer : List ℕ} {n : ℕ} {after : Buffers} {bytes : List ℕ}
    (x : AnswerOf Outcome answer n after bytes) → ReadFrom x.told (answer_from n bytes)
answer_read {answer = answer} x = rw (x.returned, x.written) (written_read x.told answer)

read_exact : {a r : Answer} → ReadFrom a r → FitsWords a → r ≡ a
read_exact x fits =
    let set = number_unique (x.expected fits.expected) in
    λ i. record { number = x.number i; place = x.place fits.place i; detail = x.detail fits.detail i; steps = x.steps fits.steps i; expected = set i; depth = x.depth fits.depth i }

-- where the answer fits its words, the caller reads the outcome itself
pub called_exact : {Buffers Enough : Type 0} {Outcome : Answer → Buffers → Type 0} {before : Buffers} {answer : List ℕ} {n : ℕ} {after : Buffers} {bytes : List ℕ}
    → ((a : Answer) → Outcome a after → FitsWords a) → Enough → Called Enough Outcome before answer n after bytes → Outcome (answer_from n bytes) after
called_exact fits lent c = let x = called_answer lent c in rw (read_exact (answer_read x) (fits x.told x.outcome)) x.outcome
