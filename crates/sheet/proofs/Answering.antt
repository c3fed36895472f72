-- From the verdicts on the form and on the values to what reading a sheet answers.
use mathlib.Core.Path.{◌≡◌, sym, ◌∙◌}
use mathlib.Core.List.{List, ◌++◌}
use Prim.Native.Nat.{ℕ, ◌≤◌}
use lib.ListN.{length, take}
use Rattle.answers.specs.declared.Answer.{Answer}
use Rattle.answers.specs.Answers.{refusal}
use Rattle.answers.specs.Limits.{longest_book}
use Rattle.answers.specs.Refusals.{number_of}
use Rattle.answers.specs.declared.refusals.Refusal.TheVariants as refusals
use Rattle.text.specs.Text.{Put}
use Rattle.std.specs.Prelude.{Ok, Err}
use Rattle.reader.specs.declared.Fault.{Fault}
use Rattle.reader.specs.Verdicts.{Verdict}
use Rattle.sheet.specs.Sheet.{Draft, lines_text, first_line, draft_text, announced, HasForm, fields_of, Faultless}
use Rattle.sheet.specs.Judging.{head_in, sheet_judged}
use Rattle.sheet.specs.Booking.{book_in}
use Rattle.sheet.specs.Calls.{Copied, ReadOutcome, faulty, missing, beyond}
use Rattle.sheet.proofs.Values.{DraftJudge, faulted, few, many, good, sheet_judged_lem}
use Rattle.sheet.proofs.Booked.{booked_copied}

-- a verdict that refuses is the answer
refused_by : {sheet : List ℕ} (buffer : List ℕ) (d : Draft) {v : Verdict} {fault : Fault}
    → sheet ≡ draft_text d
    → DraftJudge sheet d v
    → v ≡ Err fault
    → ReadOutcome sheet buffer (refusal (number_of fault.why) fault.place 0) buffer
refused_by {sheet} buffer d {fault = fault} told (faulted {why = why} {place = place} first) e =
    let same : record { why = why; place = place } ≡ fault = cc in
    rw (← same) (faulty d told first)
refused_by {sheet} buffer d {fault = fault} told (few all less) e =
    let same : record { why = refusals.Short; place = length sheet } ≡ fault = cc in
    rw (← same) (missing d told all less)
refused_by buffer d {fault = fault} told (many all less) e =
    let same : record { why = refusals.Extra; place = length (first_line d ++ lines_text (announced d)) } ≡ fault = cc in
    rw (← same) (beyond d told all less)
refused_by buffer d told (good all same) e = let no : ⊥ = cc in absurd no

pub judged_refused : {sheet : List ℕ} (buffer : List ℕ) {v : Verdict} {fault : Fault}
    → HasForm sheet
    → v ≡ sheet_judged sheet (head_in sheet)
    → v ≡ Err fault
    → ReadOutcome sheet buffer (refusal (number_of fault.why) fault.place 0) buffer
judged_refused {sheet} buffer has told e =
    refused_by buffer has.draft has.told (sheet_judged_lem sheet has.draft has.told) (sym told ∙ e)

-- and one that goes on means that the sheet is a book's
good_draft : {sheet : List ℕ} (d : Draft) {v : Verdict} {end : ℕ}
    → DraftJudge sheet d v
    → v ≡ Ok end
    → Faultless (fields_of d) × (d.count ≡ length d.productions)
good_draft d (faulted first) e = let no : ⊥ = cc in absurd no
good_draft d (few all less) e = let no : ⊥ = cc in absurd no
good_draft d (many all less) e = let no : ⊥ = cc in absurd no
good_draft d (good all same) e = (all, same)

pub judged_copied : {sheet blank bytes buffer after : List ℕ} {size : ℕ} {a : Answer}
    → HasForm sheet × ((end : ℕ) × (sheet_judged sheet (head_in sheet) ≡ Ok end))
    → longest_book ≤ length blank
    → Put blank 0 (book_in sheet (head_in sheet)) bytes size
    → Copied (take size bytes) buffer a after
    → ReadOutcome sheet buffer a after
judged_copied {sheet} (has, (end, e)) enough p copied =
    let (all, same) = good_draft has.draft (sheet_judged_lem sheet has.draft has.told) e in
    booked_copied has.draft has.told all same enough p copied
