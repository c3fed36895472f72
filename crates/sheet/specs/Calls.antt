-- What writing a book's sheet and reading a sheet's book answer, and what they leave in the lent buffer.
-- Document 02, W1. A refusal leaves the buffer as it was.
use Rattle.std.specs.Prelude.{◌≡◌, List, ◌++◌, ℕ, ◌≤◌, ◌<◌, length}
use Rattle.grammar.specs.Grammar.{Grammar}
use Rattle.answers.specs.declared.Answer.{Answer}
use Rattle.answers.specs.Answers.{done, refusal}
use Rattle.answers.specs.Buffers.{over}
use Rattle.answers.specs.Refusals.{number_of, short, extra, room, form}
use Rattle.answers.specs.declared.refusals.Refusal.{Refusal}
use Rattle.reader.specs.Book.{refused, reads, spells, bytes_of, Limits}
use Rattle.sheet.specs.Sheet.{Draft, draft_text, sheet_of, first_line, lines_text, BreaksAt}
use Rattle.sheet.specs.Sheet.{announced, fields_of, FirstFault, Faultless}

-- the bytes written to the front of the buffer and counted as steps, or refusal 7 with the bytes needed
pub data Copied (bytes buffer : List ℕ) : Answer → List ℕ → Type 0 where
  no_room : length buffer < length bytes → Copied bytes buffer (refusal room (length bytes) 0) buffer
  served : length bytes ≤ length buffer → Copied bytes buffer (done (length bytes)) (over bytes buffer)

-- a book gives 1 to 5; then its sheet, or 7
pub data WriteOutcome (book buffer : List ℕ) : Answer → List ℕ → Type 0 where
  misread : {why : Refusal} {place : ℕ}
      → spells book ≡ refused why place
      → WriteOutcome book buffer (refusal (number_of why) place 0) buffer
  written : {g : Grammar} {answer : Answer} {after : List ℕ}
      → spells book ≡ reads g
      → Copied (sheet_of g) buffer answer after
      → WriteOutcome book buffer answer after

-- a sheet gives 13; then 4 or 5; then 1 or 3; then its book, or 7
pub data ReadOutcome (sheet buffer : List ℕ) : Answer → List ℕ → Type 0 where
  malformed : {k : ℕ} → BreaksAt sheet k → ReadOutcome sheet buffer (refusal form k 0) buffer
  faulty : (d : Draft) {why : Refusal} {place : ℕ}
      → sheet ≡ draft_text d
      → FirstFault (fields_of d) why place
      → ReadOutcome sheet buffer (refusal (number_of why) place 0) buffer
  missing : (d : Draft)
      → sheet ≡ draft_text d
      → Faultless (fields_of d)
      → length d.productions < d.count
      → ReadOutcome sheet buffer (refusal short (length sheet) 0) buffer
  beyond : (d : Draft)
      → sheet ≡ draft_text d
      → Faultless (fields_of d)
      → d.count < length d.productions
      → ReadOutcome sheet buffer (refusal extra (length (first_line d ++ lines_text (announced d))) 0) buffer
  booked : (g : Grammar) {answer : Answer} {after : List ℕ}
      → sheet ≡ sheet_of g
      → Limits g
      → Copied (bytes_of g) buffer answer after
      → ReadOutcome sheet buffer answer after
