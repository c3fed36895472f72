-- What is promised of grammar sheets, one page: each theorem under the sentence that it proves. Document 02, W1.
use mathlib.Core.Path.{◌≡◌, refl}
use mathlib.Core.Logic.{◌↔◌, ◌⊎◌}
use mathlib.Core.List.{List}
use Prim.Native.Nat.{ℕ, ◌≤◌}
use lib.ListN.{length, take}
use Rattle.std.specs.Prelude.{Some, None}
use Rattle.grammar.specs.Grammar.{Grammar, Every}
use Rattle.grammar.specs.House.{house}
use Rattle.answers.specs.declared.Answer.{Answer}
use Rattle.answers.specs.Answers.{done, refusal}
use Rattle.answers.specs.Buffers.{over}
use Rattle.answers.specs.Limits.{longest_book}
use Rattle.answers.specs.Refusals.{room}
use Rattle.answers.specs.Refusals as refusals
use Rattle.answers.specs.declared.refusals.Refusal.{Refusal}
use Rattle.answers.specs.declared.refusals.Refusal.TheVariants as kinds
use Rattle.reader.specs.Book.{bytes_of, Limits}
use Rattle.sheet.specs.Sheet.{Draft, draft_text, draft_of, sheet_of, HasForm, Begins, BreaksAt, Field, fields_of}
use Rattle.sheet.specs.Sheet.{FirstFault, Faultless, longest_sheet}
use Rattle.sheet.specs.Calls.{WriteOutcome, ReadOutcome}
use Rattle.sheet.specs.Form.{after}
use Rattle.sheet.specs.Examples.{house_sheet, refused_sheets}
use Rattle.sheet.specs.declared.form.Slot.TheVariants.{Tokens}
use Rattle.sheet.specs.declared.form.Phase.TheVariants.{First, Line}
use Rattle.sheet.proofs.Drafts as drafts
use Rattle.sheet.proofs.Examples as examples
use Rattle.sheet.proofs.Examples.{Refused}
use Rattle.sheet.proofs.Faults as faults
use Rattle.sheet.proofs.Fields as fields
use Rattle.sheet.proofs.Longest as longest
use Rattle.sheet.proofs.Outcomes as outcomes
use Rattle.sheet.proofs.Place as place
use Rattle.sheet.proofs.Trips as trips

-- two drafts of one text are equal
pub draft_unique : (d e : Draft)
    → draft_text d ≡ draft_text e
    → d ≡ e
draft_unique = drafts.draft_unique

-- so two books of one sheet are equal
pub sheet_unique : (g h : Grammar)
    → sheet_of g ≡ sheet_of h
    → g ≡ h
sheet_unique = drafts.sheet_unique

-- a text has the form exactly if its bytes lead from the first number to the start of a line
pub form_exact : (text : List ℕ) → HasForm text ↔ (after (Some (First Tokens)) text ≡ Some Line)
form_exact = place.form_exact

-- and it begins a sheet exactly as long as they lead on
pub begins_exact : (text : List ℕ) → Begins text ↔ (¬ (after (Some (First Tokens)) text ≡ None))
begins_exact = place.begins_exact

-- the place of refusal 13 is one
pub form_place : {text : List ℕ} {i j : ℕ}
    → BreaksAt text i
    → BreaksAt text j
    → i ≡ j
form_place = place.form_place

-- a text with the form breaks it nowhere
pub form_unbroken : {text : List ℕ} {k : ℕ}
    → HasForm text
    → ¬ BreaksAt text k
form_unbroken = outcomes.form_unbroken

-- the first value out of its range has one number and one place
pub fault_unique : {fs : List Field} {n m : Refusal} {p q : ℕ}
    → FirstFault fs n p
    → FirstFault fs m q
    → (n ≡ m) × (p ≡ q)
fault_unique = faults.fault_unique

-- and the number is 4 or 5
pub fault_kinds : (d : Draft) {n : Refusal} {p : ℕ}
    → FirstFault (fields_of d) n p
    → (n ≡ kinds.Limit) ⊎ (n ≡ kinds.Symbol)
fault_kinds = trips.fault_kinds

-- a grammar's own sheet has the form
pub sheet_form : (g : Grammar) → HasForm (sheet_of g)
unfolding sheet_of
sheet_form g = record { draft = draft_of g; told = refl }

-- every value of a grammar's own sheet is in its range exactly if the grammar is within the limits of a book
pub faultless_exact : (g : Grammar) → Limits g ↔ Faultless (fields_of (draft_of g))
faultless_exact g = (fields.sheet_faultless g, fields.faultless_limits g)

-- writing a book's sheet allows one outcome only
pub write_outcome_unique : {book buffer : List ℕ} {a b : Answer} {c d : List ℕ}
    → WriteOutcome book buffer a c
    → WriteOutcome book buffer b d
    → (a ≡ b) × (c ≡ d)
write_outcome_unique = outcomes.write_outcome_unique

-- reading a sheet's book allows one outcome only
pub read_outcome_unique : {sheet buffer : List ℕ} {a b : Answer} {c d : List ℕ}
    → ReadOutcome sheet buffer a c
    → ReadOutcome sheet buffer b d
    → (a ≡ b) × (c ≡ d)
read_outcome_unique = outcomes.read_outcome_unique

-- a sheet is served, given room for any book, exactly if it is that of a grammar within the limits
pub sheet_reads_iff : {sheet buffer : List ℕ}
    → longest_book ≤ length buffer
    → ((a : Answer) × (after : List ℕ) × ReadOutcome sheet buffer a after × (a.number ≡ refusals.served))
    ↔ ((g : Grammar) × (sheet ≡ sheet_of g) × Limits g)
sheet_reads_iff = trips.sheet_reads_iff

-- a sheet that reads, over and back, gives the same bytes
pub sheet_book_sheet : {sheet book_room sheet_room book text : List ℕ} {a b : Answer}
    → ReadOutcome sheet book_room a book
    → a.number ≡ refusals.served
    → length sheet ≤ length sheet_room
    → WriteOutcome (take a.steps book) sheet_room b text
    → (b ≡ done (length sheet)) × (text ≡ over sheet sheet_room)
sheet_book_sheet = trips.sheet_book_sheet

-- a book that reads, over and back, gives the same bytes
pub book_sheet_book : {book sheet_room book_room sheet bytes : List ℕ} {a b : Answer}
    → WriteOutcome book sheet_room a sheet
    → a.number ≡ refusals.served
    → length book ≤ length book_room
    → ReadOutcome (take a.steps sheet) book_room b bytes
    → (b ≡ done (length book)) × (bytes ≡ over book book_room)
book_sheet_book = trips.book_sheet_book

-- no sheet of a book is longer than the longest
pub longest_sheet_lem : (g : Grammar)
    → Limits g
    → length (sheet_of g) ≤ longest_sheet
longest_sheet_lem = longest.longest_sheet_lem

-- and one is as long
pub longest_written : (g : Grammar) × Limits g × (length (sheet_of g) ≡ longest_sheet)
longest_written = longest.longest_written

-- each refusal of a sheet is met: 13 at the front, inside and at the end; 4 for a value and for a 17th symbol; 5; 1; 3
pub refused_sheets_lem : Every Refused refused_sheets
refused_sheets_lem = examples.refused_sheets_lem

-- H's sheet
pub house_sheet_lem : sheet_of house ≡ house_sheet
house_sheet_lem = examples.house_sheet_lem

-- it is written and read where there is room
pub house_written : {buffer : List ℕ}
    → 65 ≤ length buffer
    → WriteOutcome (bytes_of house) buffer (done 65) (over house_sheet buffer)
house_written = examples.house_written

pub house_read : {buffer : List ℕ}
    → 39 ≤ length buffer
    → ReadOutcome house_sheet buffer (done 39) (over (bytes_of house) buffer)
house_read = examples.house_read

-- and of one byte less the answer names what is needed
pub house_not_written : {buffer : List ℕ}
    → length buffer ≡ 64
    → WriteOutcome (bytes_of house) buffer (refusal room 65 0) buffer
house_not_written = examples.house_not_written

pub house_not_read : {buffer : List ℕ}
    → length buffer ≡ 38
    → ReadOutcome house_sheet buffer (refusal room 39 0) buffer
house_not_read = examples.house_not_read
