-- The book that is put together from the sheet of a grammar within the limits is that grammar's book.
use mathlib.Core.Path.{◌≡◌, refl, sym, ap, ◌∙◌, subst}
use mathlib.Core.Bool.{true, false}
use mathlib.Core.List.{List, ◌∷◌, ◌++◌, map, append_assoc}
use Prim.Native.Nat.{ℕ, zero, suc, ◌+◌, ◌%◌, ◌≤◌, min}
use native.Mathlib.Nat.{add-zero}
use native.Mathlib.Omega.{arith}
use lib.ListN.{length, take, drop, get_or, length-append, length-map}
use Rattle.grammar.specs.declared.Symbol.{Symbol}
use Rattle.grammar.specs.Grammar.{Form, Production, Grammar, Every, nothing, each, Known, known_token, known_nonterminal}
use Rattle.answers.specs.Limits.{most_symbols, longest_book}
use Rattle.answers.specs.declared.Answer.{Answer}
use Rattle.text.specs.Text.{decimal, Put}
use Rattle.text.specs.Reading.{is_digit, most_read}
use Rattle.text.proofs.Promise.{put_front}
use Rattle.reader.specs.Book.{byte_of, record_bytes, records_bytes, bytes_of, Limits}
use Rattle.reader.proofs.Promise.{read_written, longest_book_lem}
use Rattle.sheet.specs.Sheet.{line_feed, space, letter_n, letter_t, Draft, symbol_text, symbols_text, line_text, lines_text, first_line, draft_text, draft_of, sheet_of}
use Rattle.sheet.specs.Sheet.{fields_of, Faultless}
use Rattle.sheet.specs.Judging.{head_in, is_space, symbol_number}
use Rattle.sheet.specs.Booking.{byte_from, byte_in, number_byte, right_in, right_end, record_in, line_after, records_in, head_bytes, book_in}
use Rattle.sheet.specs.Calls.{Copied, ReadOutcome, booked}
use Rattle.sheet.proofs.Fields.{Held, limits_held, faultless_limits}
use Rattle.sheet.proofs.Standing.{rest_on, symbol_space, symbol_letter, symbol_number_lem, behind_symbols, no_space, right_from, LineAt, line_at, HeadAt, head_at}

module _ (text : List ℕ) (g : Grammar) (limits : Limits g) where
  -- a symbol of the grammar: its byte, and the place behind it
  symbol_read : (at : ℕ) {s : Symbol} (rest : List ℕ) → Known g s → drop at text ≡ symbol_text s ++ rest → is_digit (get_or rest 0 0) ≡ false
      → (is_space text at ≡ true)
      × (byte_in text at ≡ byte_of s)
      × ((symbol_number text at).next ≡ at + length (symbol_text s))
  unfolding symbol_text byte_from byte_in byte_of
  symbol_read at rest (known_token {t = t} known) stands other =
      let number = symbol_number_lem text at letter_t t rest stands other in
      let value : min t most_read % 128 ≡ t = omega (arith, limits.tokens_fit) in
      let end : at + 2 + length (decimal t) ≡ at + length (space ∷ letter_t ∷ decimal t) = omega arith in (
        symbol_space text at letter_t t rest stands,
        rw (symbol_letter text at letter_t t rest stands, number) value,
        rw number end,
      )
  symbol_read at rest (known_nonterminal {A = A} known) stands other =
      let number = symbol_number_lem text at letter_n A rest stands other in
      let value : 128 + min A most_read % 128 ≡ 128 + A = omega (arith, limits.nonterminals_fit) in
      let end : at + 2 + length (decimal A) ≡ at + length (space ∷ letter_n ∷ decimal A) = omega arith in (
        symbol_space text at letter_n A rest stands,
        rw (symbol_letter text at letter_n A rest stands, number) value,
        rw number end,
      )

  right_read : (room at : ℕ) {form : Form} (rest : List ℕ) → Every (Known g) form → length form ≤ room
      → drop at text ≡ symbols_text form ++ (line_feed ∷ rest)
      → (right_in text room at ≡ map byte_of form) × (right_end text room at ≡ at + length (symbols_text form))
  unfolding right_in right_end symbols_text
  right_read zero at rest nothing fits stands = (refl, sym (add-zero at))
  right_read (suc room) at rest nothing fits stands = rw (no_space text at rest stands) (refl, sym (add-zero at))
  right_read zero at rest (each known all) fits stands = absurd (omega arith)
  right_read (suc room) at rest (each {x = s} {xs = form} known all) fits stands =
      let more : List ℕ = symbols_text form ++ (line_feed ∷ rest) in
      let first : drop at text ≡ symbol_text s ++ more = stands ∙ append_assoc (symbol_text s) (symbols_text form) (line_feed ∷ rest) in
      let (space_here, byte, next) = symbol_read at more known first (behind_symbols form rest) in
      let (bytes, end) = right_read room (at + length (symbol_text s)) rest all (omega arith) (rest_on text at (symbol_text s) more first) in
      let whole : at + length (symbol_text s) + length (symbols_text form) ≡ at + length (symbol_text s ++ symbols_text form) =
      omega (arith, length-append (symbol_text s) (symbols_text form)) in
      rw (space_here, next) (
        ap (λ (b : ℕ). b ∷ right_in text room (at + length (symbol_text s))) byte ∙ ap (λ (l : List ℕ). byte_of s ∷ l) bytes,
        end ∙ whole,
      )

  record_read : (at : ℕ) {r : Production} (rest : List ℕ) → Held g r → LineAt text at r rest
      → (record_in text at ≡ record_bytes r) × (line_after text at ≡ at + length (line_text r))
  unfolding record_in line_after record_bytes number_byte
  record_read at {r} rest held l =
      let (bytes, end) = right_read most_symbols (right_from at r) rest held.right_known held.length_fits l.symbols in
      let left : min r.left most_read % 256 ≡ r.left = omega (arith, held.left_known, limits.nonterminals_fit) in
      (rw (l.right, l.left, bytes, left, length-map), rw (l.right, end) l.end)

  records_read : (at : ℕ) {ps : List Production} → Every (Held g) ps → drop at text ≡ lines_text ps
      → records_in text (length ps) at ≡ records_bytes ps
  unfolding records_in records_bytes lines_text
  records_read at nothing stands = refl
  records_read at (each {x = r} {xs = ps} held all) stands =
      let l : LineAt text at r (lines_text ps) = line_at text at r (lines_text ps) stands in
      let (bytes, next) = record_read at (lines_text ps) held l in
      rw (bytes, next, records_read (at + length (line_text r)) all l.next)

-- the book of a grammar's own sheet
book_read : (g : Grammar) → Limits g → book_in (sheet_of g) (head_in (sheet_of g)) ≡ bytes_of g
unfolding book_in head_bytes number_byte bytes_of sheet_of draft_of
book_read g limits =
    let h : HeadAt (sheet_of g) (draft_of g) = head_at (sheet_of g) (draft_of g) refl in
    let P : ℕ = length g.productions in
    let tokens : min g.tokens most_read % 256 ≡ g.tokens = omega (arith, limits.tokens_fit) in
    let nonterminals : min g.nonterminals most_read % 256 ≡ g.nonterminals = omega (arith, limits.nonterminals_fit) in
    let start : min g.start most_read % 256 ≡ g.start = omega (arith, limits.well_formed.start_known, limits.nonterminals_fit) in
    let count : min P most_read ≡ P = omega (arith, limits.productions_fit) in
    let last : P % 256 ≡ P = omega (arith, limits.productions_fit) in
    rw (h.head, h.lines_at, tokens, nonterminals, start, count, last, records_read (sheet_of g) g limits (length (first_line (draft_of g))) (limits_held g limits) h.lines)

-- the grammar that a draft tells
abbrev grammar_of : Draft → Grammar
grammar_of d = record { tokens = d.tokens; nonterminals = d.nonterminals; start = d.start; productions = d.productions }

own_draft : (d : Draft) → d.count ≡ length d.productions → draft_of (grammar_of d) ≡ d
unfolding draft_of
own_draft d same =
    λ i. record {
      tokens = d.tokens;
      nonterminals = d.nonterminals;
      start = d.start;
      count = sym same i;
      productions = d.productions;
    }

-- the book that was put to the front of a buffer with room for the longest is copied
pub booked_copied : {sheet blank bytes buffer after : List ℕ} {size : ℕ} {a : Answer} (d : Draft)
    → sheet ≡ draft_text d
    → Faultless (fields_of d)
    → d.count ≡ length d.productions
    → longest_book ≤ length blank
    → Put blank 0 (book_in sheet (head_in sheet)) bytes size
    → Copied (take size bytes) buffer a after
    → ReadOutcome sheet buffer a after
unfolding sheet_of
booked_copied {sheet} {blank} {bytes} {buffer} {after} {size} {a} d told all same enough p copied =
    let g : Grammar = grammar_of d in
    let own : draft_of g ≡ d = own_draft d same in
    let limits : Limits g = faultless_limits g (subst (λ (e : Draft). Faultless (fields_of e)) (sym own) all) in
    let sheet_is : sheet ≡ sheet_of g = told ∙ sym (ap draft_text own) in
    let book_is : book_in sheet (head_in sheet) ≡ bytes_of g = ap (λ (t : List ℕ). book_in t (head_in t)) sheet_is ∙ book_read g limits in
    let fits : length (book_in sheet (head_in sheet)) ≤ length blank =
    omega (arith, ap length book_is, longest_book_lem (bytes_of g) (read_written limits)) in
    let front : take size bytes ≡ bytes_of g = put_front p fits ∙ book_is in
    booked g sheet_is limits (subst (λ (b : List ℕ). Copied b buffer a after) front copied)
