-- Over and back: what a sheet or book that is served tells, and that the way back gives the same bytes.
use mathlib.Core.Path.{◌≡◌, refl, sym, ap, ◌∙◌, subst}
use mathlib.Core.Logic.{◌↔◌, ◌⊎◌, inl, inr}
use mathlib.Core.List.{List, [], ◌∷◌}
use Prim.Native.Nat.{ℕ, zero, suc, ◌+◌, ◌≤◌}
use native.Mathlib.Omega.{arith}
use lib.ListN.{length, take, drop}
use lib.Seq.{take_at}
use Rattle.grammar.specs.declared.Symbol.TheVariants.{Token, Nonterminal}
use Rattle.grammar.specs.Grammar.{Form, Production, Grammar, Every, nothing, each}
use Rattle.grammar.proofs.Every.{every_append}
use Rattle.answers.specs.declared.Answer.{Answer}
use Rattle.answers.specs.Answers.{done, refusal}
use Rattle.answers.specs.Buffers.{over}
use Rattle.answers.specs.Limits.{most_symbols, longest_book}
use Rattle.answers.specs.Refusals.{number_of}
use Rattle.answers.specs.declared.refusals.Refusal.{Refusal}
use Rattle.answers.specs.declared.refusals.Refusal.TheVariants as refusals
use Rattle.text.specs.Text.{decimal}
use Rattle.reader.specs.Book.{reads, spells, bytes_of, Limits}
use Rattle.reader.proofs.Promise.{read_written, written_read, read_limits, longest_book_lem, refused_number}
use Rattle.sheet.specs.Sheet.{Draft, sheet_of, symbol_text, line_text, Field, symbol_field, symbols_fields, line_fields, lines_fields, first_line, first_fields, announced, fields_of, FirstFault, here, later, longest_sheet}
use Rattle.sheet.specs.Calls.{Copied, no_room, served, WriteOutcome, misread, written, ReadOutcome, malformed, faulty, missing, beyond, booked}
use Rattle.sheet.proofs.Outcomes.{write_outcome_unique, read_outcome_unique}
use Rattle.sheet.proofs.Longest.{longest_sheet_lem}

-- values are refused with 4 or 5
abbrev Kind : Field → Type 0
Kind f = (f.why ≡ refusals.Limit) ⊎ (f.why ≡ refusals.Symbol)

symbols_kinds : (T N room at : ℕ) (form : Form) → Every Kind (symbols_fields T N room at form)
unfolding symbols_fields symbol_field
symbols_kinds T N room at [] = nothing
symbols_kinds T N zero at (s ∷ form) = each (inl refl) nothing
symbols_kinds T N (suc room) at (Token t ∷ form) = each (inr refl) (symbols_kinds T N room (at + length (symbol_text (Token t))) form)
symbols_kinds T N (suc room) at (Nonterminal n ∷ form) = each (inr refl) (symbols_kinds T N room (at + length (symbol_text (Nonterminal n))) form)

lines_kinds : (T N at : ℕ) (ps : List Production) → Every Kind (lines_fields T N at ps)
unfolding lines_fields line_fields
lines_kinds T N at [] = nothing
lines_kinds T N at (r ∷ ps) =
    every_append (line_fields T N at r) (lines_fields T N (at + length (line_text r)) ps)
    (each (inr refl) (symbols_kinds T N most_symbols (at + 1 + length (decimal r.left) + 2) r.right))
    (lines_kinds T N (at + length (line_text r)) ps)

fields_kinds : (d : Draft) → Every Kind (fields_of d)
unfolding fields_of first_fields
fields_kinds d =
    each (inl refl)
    (each (inl refl) (each (inl refl) (each (inl refl) (lines_kinds d.tokens d.nonterminals (length (first_line d)) (announced d)))))

fault_kind : {fs : List Field} {n : Refusal} {p : ℕ} → Every Kind fs → FirstFault fs n p → (n ≡ refusals.Limit) ⊎ (n ≡ refusals.Symbol)
fault_kind nothing fault = elim fault [ ]
fault_kind (each kind kinds) (here bad) = kind
fault_kind (each kind kinds) (later fine rest) = fault_kind kinds rest

pub fault_kinds : (d : Draft) {n : Refusal} {p : ℕ} → FirstFault (fields_of d) n p → (n ≡ refusals.Limit) ⊎ (n ≡ refusals.Symbol)
fault_kinds d = fault_kind (fields_kinds d)

kind_number : {why : Refusal} → (why ≡ refusals.Limit) ⊎ (why ≡ refusals.Symbol) → 4 ≤ number_of why
kind_number (inl limit) = rw limit (omega arith)
kind_number (inr symbol) = rw symbol (omega arith)

-- what was copied stands in front
record Stands (bytes buffer : List ℕ) (steps : ℕ) (after : List ℕ) : Type 0 where
  counted : steps ≡ length bytes
  cells : after ≡ over bytes buffer
  fits : length bytes ≤ length buffer

copied_stands : {bytes buffer : List ℕ} {a : Answer} {after : List ℕ} → Copied bytes buffer a after → a.number ≡ 0 → Stands bytes buffer a.steps after
unfolding refusal done
copied_stands (no_room few) e = absurd (omega arith)
copied_stands (served fits) e = record { counted = refl; cells = refl; fits = fits }

front : {bytes buffer : List ℕ} {steps : ℕ} {after : List ℕ} → Stands bytes buffer steps after → take steps after ≡ bytes
front {bytes} {buffer} {steps} s = ap (take steps) s.cells ∙ take_at bytes (drop (length bytes) buffer) steps (sym s.counted)

-- a sheet that is served is that of a grammar within the limits
record ServedSheet (sheet buffer : List ℕ) (steps : ℕ) (after : List ℕ) : Type 0 where
  grammar : Grammar
  told : sheet ≡ sheet_of grammar
  limits : Limits grammar
  stands : Stands (bytes_of grammar) buffer steps after

read_served : {sheet buffer : List ℕ} {a : Answer} {after : List ℕ} → ReadOutcome sheet buffer a after → a.number ≡ 0
    → ServedSheet sheet buffer a.steps after
unfolding refusal
read_served (malformed breaks) e = absurd (omega arith)
read_served (faulty d told first) e = absurd (omega (arith, kind_number (fault_kinds d first)))
read_served (missing d told fine few) e = absurd (omega arith)
read_served (beyond d told fine many) e = absurd (omega arith)
read_served (booked g told limits copied) e = record { grammar = g; told = told; limits = limits; stands = copied_stands copied e }

-- a book that is served is that of a grammar, whose sheet was written
record ServedBook (book buffer : List ℕ) (steps : ℕ) (after : List ℕ) : Type 0 where
  grammar : Grammar
  read : spells book ≡ reads grammar
  stands : Stands (sheet_of grammar) buffer steps after

write_served : {book buffer : List ℕ} {a : Answer} {after : List ℕ} → WriteOutcome book buffer a after → a.number ≡ 0
    → ServedBook book buffer a.steps after
unfolding refusal
write_served {book} (misread e) none = absurd (omega (arith, (refused_number book e).0))
write_served (written {g = g} e copied) none = record { grammar = g; read = e; stands = copied_stands copied none }

-- the bytes written are no more than those of the longest book and of the longest sheet
pub read_steps : {sheet buffer : List ℕ} {a : Answer} {after : List ℕ} → ReadOutcome sheet buffer a after → a.number ≡ 0 → a.steps ≤ longest_book
read_steps outcome reads_well =
    let s = read_served outcome reads_well in
    omega (arith, s.stands.counted, longest_book_lem (bytes_of s.grammar) (read_written s.limits))

pub write_steps : {book buffer : List ℕ} {a : Answer} {after : List ℕ} → WriteOutcome book buffer a after → a.number ≡ 0 → a.steps ≤ longest_sheet
write_steps {book} outcome reads_well =
    let s = write_served outcome reads_well in
    omega (arith, s.stands.counted, longest_sheet_lem s.grammar (read_limits book s.read))

-- a sheet is served, given room, exactly if it is that of a grammar within the limits
pub sheet_reads_iff : {sheet buffer : List ℕ} → longest_book ≤ length buffer
    → ((a : Answer) × (after : List ℕ) × ReadOutcome sheet buffer a after × (a.number ≡ 0)) ↔ ((g : Grammar) × (sheet ≡ sheet_of g) × Limits g)
unfolding done
sheet_reads_iff {sheet} {buffer} enough = (to, from)
  where
    to : ((a : Answer) × (after : List ℕ) × ReadOutcome sheet buffer a after × (a.number ≡ 0)) → (g : Grammar) × (sheet ≡ sheet_of g) × Limits g
    to (a, after, outcome, e) = let s = read_served outcome e in (s.grammar, s.told, s.limits)

    from : (g : Grammar) × (sheet ≡ sheet_of g) × Limits g → (a : Answer) × (after : List ℕ) × ReadOutcome sheet buffer a after × (a.number ≡ 0)
    from (g, told, limits) =
        let fits : length (bytes_of g) ≤ length buffer = omega (arith, longest_book_lem (bytes_of g) (read_written limits)) in
        (done (length (bytes_of g)), over (bytes_of g) buffer, booked g told limits (served fits), refl)

-- a sheet that was read is written again, byte by byte
pub sheet_book_sheet : {sheet book_room sheet_room book text : List ℕ} {a b : Answer}
    → ReadOutcome sheet book_room a book
    → a.number ≡ 0
    → length sheet ≤ length sheet_room
    → WriteOutcome (take a.steps book) sheet_room b text
    → (b ≡ done (length sheet)) × (text ≡ over sheet sheet_room)
sheet_book_sheet {sheet} {sheet_room = sheet_room} {book = book} {text = text} {a = a} {b = b} outcome reads_well enough back =
    let s = read_served outcome reads_well in
    let g : Grammar = s.grammar in
    let again : spells (take a.steps book) ≡ reads g = ap spells (front s.stands) ∙ read_written s.limits in
    let fits : length (sheet_of g) ≤ length sheet_room = rw s.told at enough in
    subst (λ (t : List ℕ). (b ≡ done (length t)) × (text ≡ over t sheet_room)) (sym s.told) (write_outcome_unique back (written again (served fits)))

-- a book that was written is read again, byte by byte
pub book_sheet_book : {book sheet_room book_room sheet bytes : List ℕ} {a b : Answer}
    → WriteOutcome book sheet_room a sheet
    → a.number ≡ 0
    → length book ≤ length book_room
    → ReadOutcome (take a.steps sheet) book_room b bytes
    → (b ≡ done (length book)) × (bytes ≡ over book book_room)
book_sheet_book {book} {book_room = book_room} {bytes = bytes} {b = b} outcome reads_well enough back =
    let s = write_served outcome reads_well in
    let g : Grammar = s.grammar in
    let same : book ≡ bytes_of g = written_read book s.read in
    let fits : length (bytes_of g) ≤ length book_room = rw same at enough in
    subst (λ (t : List ℕ). (b ≡ done (length t)) × (bytes ≡ over t book_room)) (sym same)
    (read_outcome_unique back (booked g (front s.stands) (read_limits book s.read) (served fits)))
