-- Copying to the front of a lent buffer, and the sheet of a book that spells a grammar.
use mathlib.Core.Path.{◌≡◌, refl, sym, ap, ◌∙◌, subst}
use mathlib.Core.List.{List, [], ◌∷◌, ◌++◌}
use mathlib.Core.Option.{some}
use Prim.Native.Nat.{ℕ, zero, suc, ◌+◌, ◌-◌, ◌≤◌}
use native.Mathlib.Omega.{arith}
use lib.ListN.{length, take, drop, get_elem?}
use Rattle.grammar.specs.declared.Symbol.{Symbol}
use Rattle.grammar.specs.declared.Symbol.TheVariants.{Nonterminal}
use Rattle.grammar.specs.Grammar.{Production, Grammar, Rule, Known, known_token, known_nonterminal}
use Rattle.grammar.proofs.Every.{every_at}
use Rattle.answers.specs.Answers.{done}
use lib.Seq.{take_all}
use Rattle.answers.specs.Buffers.{over, written}
use Rattle.text.specs.Text.{Put}
use Rattle.text.proofs.Promise.{put_front, put_length}
use Rattle.reader.specs.Book.{reads, spells, byte_of, bytes_of, Limits}
use Rattle.reader.specs.Fields.{symbol_of_byte, form_in, place_after}
use Rattle.reader.proofs.Promise.{RecordAt, records_size, record_place, record_at, record_place_suc, form_spelled, symbol_token, symbol_nonterminal, written_read, read_limits}
use Rattle.sheet.specs.Sheet.{line_text, lines_text, first_line, draft_text, draft_of, sheet_of, longest_sheet}
use Rattle.answers.specs.declared.Answer.{Answer}
use Rattle.sheet.specs.Calls.{Copied, served, WriteOutcome}
use Rattle.sheet.specs.Calls as calls
use Rattle.sheet.proofs.Longest.{longest_sheet_lem}
use Rattle.sheet.specs.Writing.{record_text, records_text, head_text, book_text}

-- what was written to the front of a buffer with room is copied
pub copied_written : {bytes buffer after : List ℕ}
    → after ≡ written bytes buffer
    → length bytes ≤ length buffer
    → Copied bytes buffer (done (length bytes)) after
copied_written {bytes} {buffer} {after} cells room =
    let all : take (length buffer) bytes ≡ bytes = take_all (length buffer) bytes room in
    let whole : after ≡ over bytes buffer = cells ∙ ap (λ (l : List ℕ). over l buffer) all in
    subst (λ (a : List ℕ). Copied bytes buffer (done (length bytes)) a) (sym whole) (served room)

-- what was put to the front of a buffer ends within it
pub put_within : {blank bytes text : List ℕ} {size : ℕ} → Put blank 0 bytes text size → size ≤ length text
put_within p = omega (arith, put_length p, p.place)

-- the first of what is left is the production of that number
first_left : (ps : List Production) (p : ℕ) {r : Production} {qs : List Production}
    → drop p ps ≡ r ∷ qs
    → (get_elem? ps p ≡ some r) × (drop (suc p) ps ≡ qs)
first_left [] zero e = let bad : ◌≡◌ {A = ℕ} 0 1 = cc in absurd (omega arith)
first_left [] (suc p) e = let bad : ◌≡◌ {A = ℕ} 0 1 = cc in absurd (omega arith)
first_left (q ∷ ps) zero {r} {qs} e =
    let same : q ≡ r = cc in
    let rest : ps ≡ qs = cc in
    (ap some same, rest)
first_left (q ∷ ps) (suc p) e = first_left ps p e

module _ (g : Grammar) (limits : Limits g) where
  known_byte : {s : Symbol} → Known g s → symbol_of_byte (byte_of s) ≡ s
  unfolding byte_of
  known_byte (known_token {t = t} h) = symbol_token t (omega (arith, limits.tokens_fit))
  known_byte (known_nonterminal {A = A} h) =
      let back : 128 + A - 128 ≡ A = omega arith in
      symbol_nonterminal (128 + A) (omega arith) ∙ ap Nonterminal back

  -- the record of a production says its line
  record_line : (p : ℕ) (r : Production) → get_elem? g.productions p ≡ some r
      → (record_text (bytes_of g) (record_place g.productions p) ≡ line_text r)
      × (place_after (bytes_of g) (record_place g.productions p) ≡ record_place g.productions (suc p))
  unfolding record_text place_after
  record_line p r at =
      let rule : Rule g p r.left r.right = record { at = at } in
      let place : ℕ = record_place g.productions p in
      let says : RecordAt (bytes_of g) place r.left r.right = record_at rule in
      let right : form_in (bytes_of g) (place + 4) (length r.right) ≡ r.right =
      form_spelled (bytes_of g) (place + 4) r.right
      (λ i s e. ap symbol_of_byte (says.symbols i e) ∙ known_byte (every_at (limits.well_formed.right_known rule) i s e)) in (
        (λ i. line_text (record {
          left = says.left i;
          right = (ap (λ (n : ℕ). form_in (bytes_of g) (place + 4) n) says.size ∙ right) i;
        })),
        ap (λ (n : ℕ). place + 4 + n) says.size ∙ sym (record_place_suc rule),
      )

  lines_left : (qs : List Production) (p : ℕ) → drop p g.productions ≡ qs
      → records_text (bytes_of g) (length qs) (record_place g.productions p) ≡ lines_text qs
  unfolding records_text lines_text
  lines_left [] p e = refl
  lines_left (r ∷ qs) p e =
      let (at, rest) = first_left g.productions p e in
      let (line, next) = record_line p r at in
      ap (λ (text : List ℕ). text ++ records_text (bytes_of g) (length qs) (place_after (bytes_of g) (record_place g.productions p))) line
      ∙ ap (λ (k : ℕ). line_text r ++ records_text (bytes_of g) (length qs) k) next
      ∙ ap (λ (text : List ℕ). line_text r ++ text) (lines_left qs (suc p) rest)

  bytes_text : book_text (bytes_of g) ≡ sheet_of g
  unfolding book_text head_text first_line sheet_of draft_text draft_of bytes_of record_place records_size
  bytes_text = ap (λ (text : List ℕ). head_text (bytes_of g) ++ text) (lines_left g.productions 0 refl)

-- the text that the bytes of a book say is its grammar's sheet
book_text_lem : (book : List ℕ) {g : Grammar} → spells book ≡ reads g → book_text book ≡ sheet_of g
book_text_lem book {g} e = ap book_text (written_read book e) ∙ bytes_text g (read_limits book e)

-- the sheet that was put to the front of a buffer with room for the longest is copied
pub written_copied : {book blank text buffer after : List ℕ} {size : ℕ} {a : Answer}
    → (g : Grammar) × (spells book ≡ reads g)
    → longest_sheet ≤ length blank
    → Put blank 0 (book_text book) text size
    → Copied (take size text) buffer a after
    → WriteOutcome book buffer a after
written_copied {book} {blank} {text} {buffer} {after} {size} {a} (g, read) enough p copied =
    let same : book_text book ≡ sheet_of g = book_text_lem book read in
    let fits : length (book_text book) ≤ length blank =
    omega (arith, ap length same, longest_sheet_lem g (read_limits book read)) in
    let front : take size text ≡ sheet_of g = put_front p fits ∙ same in
    calls.written read (subst (λ (bytes : List ℕ). Copied bytes buffer a after) front copied)
