-- The calls of grammar sheets: one outcome, answers that fit their words, and the way over and back.
use mathlib.Core.Path.{◌≡◌, sym, ap, ◌∙◌, subst}
use mathlib.Core.List.{List}
use Prim.Native.Nat.{ℕ, ◌^◌, ◌≤◌, ◌<◌}
use native.Mathlib.Omega.{arith}
use lib.ListN.{length, take}
use Rattle.answers.specs.declared.Answer.{Answer}
use Rattle.answers.specs.Answers.{done}
use Rattle.answers.specs.Buffers.{over}
use Rattle.answers.specs.Refusals.{number_of, served}
use Rattle.answers.proofs.Promise.{Unique}
use Rattle.reader.specs.Book.{bytes_of}
use Rattle.reader.proofs.Promise.{read_written, refused_within, read_limits, longest_book_lem}
use Rattle.sheet.specs.Calls.{Copied, WriteOutcome, ReadOutcome}
use Rattle.sheet.specs.Calls as calls
use Rattle.sheet.proofs.Promise.{write_outcome_unique, read_outcome_unique, fault_within, announced_fewer, longest_sheet_lem, longest_counted}
use Rattle.sheet.proofs.Promise.{read_steps, write_steps, sheet_book_sheet, book_sheet_book}
use Rattle.desk.specs.Desk.{answer_bytes, Lent, WriteSheetCall, ReadSheetCall}
use Rattle.desk.specs.Demands.{answer_from}
use Rattle.desk.proofs.Calls.{called_answer}
use Rattle.desk.proofs.ReadBack.{FitsWords, answer_read}
use Rattle.desk.proofs.Fitting.{done_fits, refusal_fits}

pub write_sheet_same : (book sheet : List ℕ) → Unique (λ (r : Answer × List ℕ). WriteOutcome book sheet r.0 r.1)
write_sheet_same book sheet r q o p = let (answer, cells) = write_outcome_unique o p in λ i. (answer i, cells i)

pub read_sheet_same : (sheet book : List ℕ) → Unique (λ (r : Answer × List ℕ). ReadOutcome sheet book r.0 r.1)
read_sheet_same sheet book r q o p = let (answer, cells) = read_outcome_unique o p in λ i. (answer i, cells i)

copied_fits : {bytes buffer : List ℕ} {a : Answer} {after : List ℕ} → length bytes ≤ 65535 → Copied bytes buffer a after → FitsWords a
copied_fits few (calls.no_room less) = refusal_fits 7 (omega arith) (omega arith)
copied_fits {bytes} few (calls.served enough) = done_fits (length bytes) (omega arith)

pub write_sheet_fits : {book sheet : List ℕ} {a : Answer} {after : List ℕ} → length book < 2 ^ 64 → WriteOutcome book sheet a after → FitsWords a
write_sheet_fits {book} b (calls.misread {why = w} e) = refusal_fits (number_of w) (omega (arith, refused_within book e)) (omega arith)
write_sheet_fits {book} b (calls.written {g = g} e copied) =
    copied_fits (omega (arith, longest_sheet_lem g (read_limits book e), longest_counted)) copied

pub read_sheet_fits : {sheet book : List ℕ} {a : Answer} {after : List ℕ} → length sheet < 2 ^ 64 → ReadOutcome sheet book a after → FitsWords a
read_sheet_fits s (calls.malformed breaks) = refusal_fits 13 (omega (arith, breaks.inside)) (omega arith)
read_sheet_fits s (calls.faulty d {why = w} told first) = refusal_fits (number_of w) (omega (arith, ap length told, fault_within d first)) (omega arith)
read_sheet_fits s (calls.missing d told fine few) = refusal_fits 1 s (omega arith)
read_sheet_fits s (calls.beyond d told fine many) = refusal_fits 3 (omega (arith, ap length told, announced_fewer d)) (omega arith)
read_sheet_fits s (calls.booked g told limits copied) =
    copied_fits (omega (arith, longest_book_lem (bytes_of g) (read_written limits))) copied

-- a sheet that was read and written again
pub call_sheet_book_sheet : {sheet book_room sheet_room book text answer again : List ℕ} {n m : ℕ} {x y : List ℕ}
    → Lent answer
    → Lent again
    → ReadSheetCall sheet book_room answer n book x
    → n ≡ served
    → length sheet ≤ length sheet_room
    → WriteSheetCall (take (answer_from n x).steps book) sheet_room again m text y
    → (m ≡ served) × (text ≡ over sheet sheet_room) × (y ≡ over (answer_bytes (done (length sheet))) again)
unfolding done
call_sheet_book_sheet {sheet} {book_room} {sheet_room} {book} {text} {answer} {again} {n} {m} {x} {y} lent lent_again c well enough d =
    let told = called_answer lent c.call in
    let back = called_answer lent_again d.call in
    let fine : told.told.number ≡ 0 = sym told.returned ∙ well in
    let steps : (answer_from n x).steps ≡ told.told.steps = (answer_read told).steps (omega (arith, read_steps told.outcome fine)) in
    let outcome : WriteOutcome (take told.told.steps book) sheet_room back.told text =
    subst (λ (k : ℕ). WriteOutcome (take k book) sheet_room back.told text) steps back.outcome in
    let (same, cells) = sheet_book_sheet told.outcome fine enough outcome in
    (back.returned ∙ ap (λ (a : Answer). a.number) same, cells, back.written ∙ ap (λ (a : Answer). over (answer_bytes a) again) same)

-- a book that was written and read again
pub call_book_sheet_book : {book sheet_room book_room sheet bytes answer again : List ℕ} {n m : ℕ} {x y : List ℕ}
    → Lent answer
    → Lent again
    → WriteSheetCall book sheet_room answer n sheet x
    → n ≡ served
    → length book ≤ length book_room
    → ReadSheetCall (take (answer_from n x).steps sheet) book_room again m bytes y
    → (m ≡ served) × (bytes ≡ over book book_room) × (y ≡ over (answer_bytes (done (length book))) again)
unfolding done
call_book_sheet_book {book} {sheet_room} {book_room} {sheet} {bytes} {answer} {again} {n} {m} {x} {y} lent lent_again c well enough d =
    let told = called_answer lent c.call in
    let back = called_answer lent_again d.call in
    let fine : told.told.number ≡ 0 = sym told.returned ∙ well in
    let steps : (answer_from n x).steps ≡ told.told.steps =
    (answer_read told).steps (omega (arith, write_steps told.outcome fine, longest_counted)) in
    let outcome : ReadOutcome (take told.told.steps sheet) book_room back.told bytes =
    subst (λ (k : ℕ). ReadOutcome (take k sheet) book_room back.told bytes) steps back.outcome in
    let (same, cells) = book_sheet_book told.outcome fine enough outcome in
    (back.returned ∙ ap (λ (a : Answer). a.number) same, cells, back.written ∙ ap (λ (a : Answer). over (answer_bytes a) again) same)
