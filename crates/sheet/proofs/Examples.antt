-- The worked examples, by computing: no premise about sheets is empty.
use mathlib.Core.Path.{◌≡◌, refl, sym, subst}
use mathlib.Core.List.{List, [], ◌∷◌, ◌++◌}
use mathlib.Core.Option.{none}
use Prim.Native.Nat.{ℕ, ◌≤◌}
use native.Mathlib.Omega.{arith}
use lib.Dec.{lit<}
use lib.ListN.{length, replicate}
use Rattle.grammar.specs.declared.Symbol.TheVariants.{Token}
use Rattle.grammar.specs.Grammar.{Form, Production, Every, nothing, each}
use Rattle.grammar.specs.House.{house}
use Rattle.answers.specs.Answers.{done, refusal}
use Rattle.answers.specs.Buffers.{over}
use Rattle.answers.specs.Refusals.{number_of, room}
use Rattle.text.specs.Text.{digit, last_digits, decimal}
use Rattle.text.specs.Reading.{is_digit}
use Rattle.reader.specs.Book.{reads, spells, marked, wanted, records, symbols, symbol_of, ending, byte_of, record_bytes, records_bytes, bytes_of, Limits}
use Rattle.sheet.specs.Sheet.{Draft, symbol_text, symbols_text, line_text, lines_text, first_line, draft_text, draft_of, sheet_of, symbol_field, symbols_fields, line_fields, lines_fields, first_fields, announced, fields_of}
use Rattle.sheet.specs.Calls.{no_room, served, WriteOutcome, written, ReadOutcome, malformed, faulty, missing, beyond, booked}
use Rattle.sheet.specs.Form.{wants, behind, step, begin, go_on, letter, lead, after}
use Rattle.sheet.specs.Examples.{codes, lines, house_sheet, Row, refused_sheets}
use Rattle.sheet.proofs.Place.{breaks_inside, breaks_off}
use Rattle.sheet.proofs.Place.{goes_on, no_line}
use Rattle.sheet.proofs.Faults.{in_range, fault_in, fault_found, none_found}
use Rattle.sheet.proofs.Fields.{faultless_limits}

-- the refusal of a row, whatever buffer is lent
abbrev pub Refused : Row → Type 0
Refused r = (buffer : List ℕ) → ReadOutcome r.text buffer (refusal (number_of r.why) r.place 0) buffer

nothing_told : Draft
nothing_told = record { tokens = 4; nonterminals = 4; start = 0; count = 6; productions = [] }

start_told : Draft
start_told = record { tokens = 4; nonterminals = 4; start = 4; count = 6; productions = [] }

line_told : Form → List Production → Draft
line_told right rest = record { tokens = 4; nonterminals = 4; start = 0; count = 1; productions = record { left = 0; right = right } ∷ rest }

pub refused_sheets_lem : Every Refused refused_sheets
unfolding refused_sheets lines after step behind wants is_digit lead nothing_told start_told line_told draft_text first_line lines_text line_text symbols_text symbol_text decimal last_digits digit fields_of first_fields announced lines_fields line_fields symbols_fields symbol_field fault_in in_range begin go_on letter
refused_sheets_lem =
    each (λ buffer. malformed (breaks_off [] (goes_on refl) (no_line refl (λ e. cc))))
    (each (λ buffer. malformed (breaks_inside (lines (codes "04 4 0 6" ∷ [])) 1 (lit< tt) (goes_on refl) refl))
    (each (λ buffer. malformed (breaks_off (codes "4 4 0 6") (goes_on refl) (no_line refl (λ e. cc))))
    (each (λ buffer. faulty start_told refl (fault_found (fields_of start_told) refl))
    (each (λ buffer. faulty (line_told (replicate 16 (Token 0) ++ (Token 9 ∷ [])) []) refl (fault_found (fields_of (line_told (replicate 16 (Token 0) ++ (Token 9 ∷ [])) [])) refl))
    (each (λ buffer. faulty (line_told (Token 4 ∷ []) []) refl (fault_found (fields_of (line_told (Token 4 ∷ []) [])) refl))
    (each (λ buffer. missing nothing_told refl (none_found (fields_of nothing_told) refl) (lit< tt))
    (each (λ buffer. beyond (line_told [] (record { left = 9; right = [] } ∷ [])) refl (none_found (fields_of (line_told [] (record { left = 9; right = [] } ∷ []))) refl) (lit< tt))
    nothing)))))))

-- H's sheet
pub house_sheet_lem : sheet_of house ≡ house_sheet
unfolding house_sheet lines house sheet_of draft_of draft_text first_line lines_text line_text symbols_text symbol_text decimal last_digits digit
house_sheet_lem = refl

house_faultless : fault_in (fields_of (draft_of house)) ≡ none
unfolding house draft_of fields_of first_fields announced lines_fields line_fields symbols_fields symbol_field line_text symbol_text symbols_text first_line decimal last_digits digit fault_in in_range
house_faultless = refl

pub house_limits : Limits house
house_limits = faultless_limits house (none_found (fields_of (draft_of house)) house_faultless)

house_spells : spells (bytes_of house) ≡ reads house
unfolding house spells marked wanted records symbols symbol_of ending bytes_of records_bytes record_bytes byte_of
house_spells = refl

house_lengths_lem : (length (bytes_of house) ≡ 39) × (length (sheet_of house) ≡ 65)
unfolding house bytes_of records_bytes record_bytes byte_of sheet_of draft_of draft_text first_line lines_text line_text symbols_text symbol_text decimal last_digits digit
house_lengths_lem = (refl, refl)

-- H's book is written where 65 bytes are lent, and its sheet is read where 39 are
pub house_written : {buffer : List ℕ} → 65 ≤ length buffer → WriteOutcome (bytes_of house) buffer (done 65) (over house_sheet buffer)
unfolding house_sheet lines
house_written {buffer} enough =
    subst (λ (sheet : List ℕ). WriteOutcome (bytes_of house) buffer (done (length sheet)) (over sheet buffer)) house_sheet_lem
    (written house_spells (served (omega (arith, house_lengths_lem.1))))

pub house_read : {buffer : List ℕ} → 39 ≤ length buffer → ReadOutcome house_sheet buffer (done 39) (over (bytes_of house) buffer)
unfolding house bytes_of records_bytes record_bytes byte_of
house_read {buffer} enough = booked house (sym house_sheet_lem) house_limits (served enough)

-- of one byte less, both name what they need
pub house_not_written : {buffer : List ℕ} → length buffer ≡ 64 → WriteOutcome (bytes_of house) buffer (refusal room 65 0) buffer
unfolding house_sheet lines
house_not_written {buffer} lent =
    subst (λ (sheet : List ℕ). WriteOutcome (bytes_of house) buffer (refusal room (length sheet) 0) buffer) house_sheet_lem
    (written house_spells (no_room (omega (arith, house_lengths_lem.1))))

pub house_not_read : {buffer : List ℕ} → length buffer ≡ 38 → ReadOutcome house_sheet buffer (refusal room 39 0) buffer
unfolding house bytes_of records_bytes record_bytes byte_of
house_not_read {buffer} lent = booked house (sym house_sheet_lem) house_limits (no_room (omega arith))
