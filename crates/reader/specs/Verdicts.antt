-- What reading a whole book answers: the refusal that its bytes spell, or the book's length as the next place.
-- Document 01, "Refusals and their numbers", 1 to 5.
use Rattle.std.specs.Prelude.{List, ℕ, length, Result, Ok, Err}
use Rattle.answers.specs.declared.refusals.Refusal.{Refusal}
use Rattle.reader.specs.Book.{Spelling, refused, reads, spells}
use Rattle.reader.specs.declared.Fault.{Fault}

-- what reading has come to: the next place, or a refusal and its place
abbrev pub Verdict : Type 0
Verdict = Result ℕ Fault

abbrev pub bad : Refusal → ℕ → Verdict
bad why place = Err (record { why = why; place = place })

-- judging goes on from a next place, and a refusal stays
unfoldable pub and_then : Verdict → (ℕ → Verdict) → Verdict
and_then (Ok at) next = next at
and_then (Err fault) next = Err fault

-- the verdict on so many bytes that come to a spelling
unfoldable pub verdict_on : ℕ → Spelling → Verdict
verdict_on size (refused why place) = bad why place
verdict_on size (reads g) = Ok size

unfoldable pub verdict_of : List ℕ → Verdict
verdict_of b = verdict_on (length b) (spells b)
