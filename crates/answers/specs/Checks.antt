-- Checks that go one after the other, each with the refusal that it gives: the first that stops is the answer.
-- Document 01, "Refusals and their numbers".
use Rattle.std.specs.Prelude.{◌≡◌, ℕ, ◌≤◌, ◌<◌, ⊤, Result, Ok, Err, MatchResult}
use Rattle.answers.specs.declared.Answer.{Answer}
use Rattle.answers.specs.Answers.{refusal}
use Rattle.answers.specs.Refusals as refusals

-- this answer, for this reason
pub data Because (reason : Type 0) (a : Answer) : Answer → Type 0 where
  because : reason → Because reason a a

-- what the second of two checks stops with, or the first does
pub data Either (Bad : Answer → Type 0) (Good : Type 0) (Next : Answer → Type 0) : Answer → Type 0 where
  first_stops : {a : Answer} → Bad a → Either Bad Good Next a
  next_stops : {a : Answer} → Good → Next a → Either Bad Good Next a

-- a buffer that has fewer cells than are wanted
abbrev pub Lacking : (have want detail : ℕ) → Answer → Type 0
Lacking have want detail = Because (have < want) (refusal refusals.room want detail)

-- a check stops with a refusal of its own, or all is good
abbrev pub Tested : (Bad : Answer → Type 0) (Good : Type 0) → Result ⊤ Answer → Type 0
Tested Bad Good r = MatchResult r (λ _. Good) Bad

-- and the check after another one: what that one stopped with passes through
pub data Checked (before : Result ⊤ Answer) (Bad : Answer → Type 0) (Good : Type 0) : Result ⊤ Answer → Type 0 where
  passes : {a : Answer} → before ≡ Err a → Checked before Bad Good (Err a)
  goes : {r : Result ⊤ Answer} → before ≡ Ok tt → Tested Bad Good r → Checked before Bad Good r

-- the check that what is lent has room for so many cells
abbrev pub RoomTested : (have want detail : ℕ) → Result ⊤ Answer → Type 0
RoomTested have want detail = Tested (Lacking have want detail) (want ≤ have)
