-- What stands at a place of a sheet, read by place: a number, a symbol, a line, the first line.
use mathlib.Core.Path.{◌≡◌, refl, sym, ap, ◌∙◌}
use mathlib.Core.Bool.{true, false}
use mathlib.Core.List.{List, [], ◌∷◌, ◌++◌}
use Prim.Native.Nat.{ℕ, suc, ◌+◌, ◌<◌, min}
use native.Mathlib.Nat.{add-zero}
use native.Mathlib.Omega.{arith}
use lib.Dec.{eqb}
use lib.ListN.{length, drop, get_or, length-drop, length-append}
use lib.Seq.{get_or-drop, drop-drop, drop-append_seam}
use Rattle.grammar.specs.declared.Symbol.TheVariants.{Token, Nonterminal}
use Rattle.grammar.specs.Grammar.{Form, Production}
use Rattle.text.specs.Text.{decimal}
use Rattle.text.specs.Reading.{is_digit, most_read, number_at}
use Rattle.text.specs.declared.Number.{Number}
use Rattle.text.proofs.Promise.{number_written}
use Rattle.sheet.specs.Sheet.{line_feed, space, colon, letter_n, Draft, symbol_text, symbols_text, line_text, lines_text, first_line, draft_text}
use Rattle.sheet.specs.Judging.{past, head_in, is_space, symbol_number, left_number, right_place}
use Rattle.sheet.proofs.Drafts.{line_parts, draft_parts}

-- what stands from a place of a text on
module _ (text : List ℕ) (at : ℕ) {b : ℕ} {w : List ℕ} (stands : drop at text ≡ b ∷ w) where
  pub rest_inside : at < length text
  rest_inside = omega (arith, length-drop at text, ap length stands)

  pub rest_past : past text at ≡ suc at
  unfolding past
  rest_past = omega (arith, rest_inside)

  pub rest_next : drop (suc at) text ≡ w
  rest_next =
      let one : suc at ≡ at + 1 = omega arith in
      ap (λ (k : ℕ). drop k text) one ∙ sym (drop-drop 1 at text) ∙ ap (λ (l : List ℕ). drop 1 l) stands

  pub rest_byte : get_or text at 0 ≡ b
  rest_byte =
      ap (λ (k : ℕ). get_or text k 0) (sym (add-zero at)) ∙ sym (get_or-drop at text 0 0) ∙ ap (λ (l : List ℕ). get_or l 0 0) stands

pub rest_on : (text : List ℕ) (at : ℕ) (u w : List ℕ) → drop at text ≡ u ++ w → drop (at + length u) text ≡ w
rest_on text at u w stands = sym (drop-drop (length u) at text) ∙ ap (λ (l : List ℕ). drop (length u) l) stands ∙ drop-append_seam u w

-- what a number that stands at a place is read as
abbrev pub number_of : (n at : ℕ) → Number
number_of n at = record { value = min n most_read; next = at + length (decimal n) }

-- the symbol at a place
module _ (text : List ℕ) (at letter n : ℕ) (rest : List ℕ) (stands : drop at text ≡ space ∷ letter ∷ (decimal n ++ rest)) where
  lettered : drop (suc at) text ≡ letter ∷ (decimal n ++ rest)
  lettered = rest_next text at stands

  pub symbol_space : is_space text at ≡ true
  unfolding is_space
  symbol_space = ap (λ (b : ℕ). eqb b space) (rest_byte text at stands)

  pub symbol_letter : get_or text (at + 1) 0 ≡ letter
  symbol_letter = let one : at + 1 ≡ suc at = omega arith in ap (λ (k : ℕ). get_or text k 0) one ∙ rest_byte text (suc at) lettered

  pub symbol_digits : past text (past text at) ≡ at + 2
  symbol_digits =
      let two : suc (suc at) ≡ at + 2 = omega arith in
      ap (past text) (rest_past text at stands) ∙ rest_past text (suc at) lettered ∙ two

  pub symbol_number_lem : is_digit (get_or rest 0 0) ≡ false → symbol_number text at ≡ number_of n (at + 2)
  unfolding symbol_number
  symbol_number_lem other =
      let two : at + 2 ≡ suc (suc at) = omega arith in
      ap (number_at text) symbol_digits
      ∙ number_written text (at + 2) n rest (ap (λ (k : ℕ). drop k text) two ∙ rest_next text (suc at) lettered) other

-- behind the symbols no digit stands
pub behind_symbols : (form : Form) (rest : List ℕ) → is_digit (get_or (symbols_text form ++ (line_feed ∷ rest)) 0 0) ≡ false
unfolding symbols_text symbol_text is_digit
behind_symbols [] rest = refl
behind_symbols (Token t ∷ form) rest = refl
behind_symbols (Nonterminal n ∷ form) rest = refl

-- behind the symbols a line ends
pub no_space : (text : List ℕ) (at : ℕ) (rest : List ℕ) → drop at text ≡ line_feed ∷ rest → is_space text at ≡ false
unfolding is_space
no_space text at rest stands = ap (λ (b : ℕ). eqb b space) (rest_byte text at stands)

-- a number and a mark behind it
pub record NumberAt (text : List ℕ) (at n : ℕ) (rest : List ℕ) : Type 0 where
  pub number : number_at text at ≡ number_of n at
  pub behind : past text (at + length (decimal n)) ≡ at + length (decimal n) + 1
  pub next : drop (at + length (decimal n) + 1) text ≡ rest

pub number_at_lem : (text : List ℕ) (at n mark : ℕ) (rest : List ℕ)
    → is_digit mark ≡ false
    → drop at text ≡ decimal n ++ (mark ∷ rest)
    → NumberAt text at n rest
number_at_lem text at n mark rest other stands =
    let end : ℕ = at + length (decimal n) in
    let marked : drop end text ≡ mark ∷ rest = rest_on text at (decimal n) (mark ∷ rest) stands in
    let one : suc end ≡ end + 1 = omega arith in record {
      number = number_written text at n (mark ∷ rest) stands other;
      behind = rest_past text end marked ∙ one;
      next = ap (λ (k : ℕ). drop k text) (sym one) ∙ rest_next text end marked;
    }

-- where the symbols of a line start
abbrev pub right_from : ℕ → Production → ℕ
right_from at r = at + 1 + length (decimal r.left) + 2

-- a line and what follows it
pub record LineAt (text : List ℕ) (at : ℕ) (r : Production) (rest : List ℕ) : Type 0 where
  pub inside : at < length text
  pub letter : past text at ≡ at + 1
  pub left : left_number text at ≡ number_of r.left (at + 1)
  pub right : right_place text at ≡ right_from at r
  pub symbols : drop (right_from at r) text ≡ symbols_text r.right ++ (line_feed ∷ rest)
  pub end : past text (right_from at r + length (symbols_text r.right)) ≡ at + length (line_text r)
  pub next : drop (at + length (line_text r)) text ≡ rest

pub line_at : (text : List ℕ) (at : ℕ) (r : Production) (rest : List ℕ) → drop at text ≡ line_text r ++ rest → LineAt text at r rest
unfolding left_number right_place line_text is_digit
line_at text at r rest stands =
    let symbols : List ℕ = symbols_text r.right ++ (line_feed ∷ rest) in
    let parts : drop at text ≡ letter_n ∷ (decimal r.left ++ (space ∷ colon ∷ symbols)) = stands ∙ line_parts r rest in
    let one : suc at ≡ at + 1 = omega arith in
    let letter : past text at ≡ at + 1 = rest_past text at parts ∙ one in
    let digits : drop (at + 1) text ≡ decimal r.left ++ (space ∷ colon ∷ symbols) =
    ap (λ (k : ℕ). drop k text) (sym one) ∙ rest_next text at parts in
    let number : NumberAt text (at + 1) r.left (colon ∷ symbols) = number_at_lem text (at + 1) r.left space (colon ∷ symbols) refl digits in
    let mark : ℕ = at + 1 + length (decimal r.left) + 1 in
    let two : suc mark ≡ right_from at r = omega arith in
    let left : number_at text (past text at) ≡ number_of r.left (at + 1) = ap (number_at text) letter ∙ number.number in
    let from : drop (right_from at r) text ≡ symbols = ap (λ (k : ℕ). drop k text) (sym two) ∙ rest_next text mark number.next in
    let last : ℕ = right_from at r + length (symbols_text r.right) in
    let feed : drop last text ≡ line_feed ∷ rest = rest_on text (right_from at r) (symbols_text r.right) (line_feed ∷ rest) from in
    let whole : suc last ≡ at + length (line_text r) =
    omega (
      arith,
      length-append (decimal r.left) (space ∷ colon ∷ (symbols_text r.right ++ (line_feed ∷ []))),
      length-append (symbols_text r.right) (line_feed ∷ []),
    ) in record {
      inside = rest_inside text at parts;
      letter = letter;
      left = left;
      right =
          ap (λ (n : Number). past text (past text n.next)) left
          ∙ ap (past text) number.behind
          ∙ rest_past text mark number.next
          ∙ two;
      symbols = from;
      end = rest_past text last feed ∙ whole;
      next = rest_on text at (line_text r) rest stands;
    }

-- the places of the first line's numbers
abbrev pub second : Draft → ℕ
second d = length (decimal d.tokens) + 1

abbrev pub third : Draft → ℕ
third d = second d + length (decimal d.nonterminals) + 1

abbrev pub fourth : Draft → ℕ
fourth d = third d + length (decimal d.start) + 1

pub record HeadAt (text : List ℕ) (d : Draft) : Type 0 where
  pub head :
      head_in text
      ≡ record {
        tokens = number_of d.tokens 0;
        nonterminals = number_of d.nonterminals (second d);
        start = number_of d.start (third d);
        count = number_of d.count (fourth d);
      }
  pub second_at : past text (0 + length (decimal d.tokens)) ≡ second d
  pub third_at : past text (second d + length (decimal d.nonterminals)) ≡ third d
  pub fourth_at : past text (third d + length (decimal d.start)) ≡ fourth d
  pub lines_at : past text (fourth d + length (decimal d.count)) ≡ length (first_line d)
  pub lines : drop (length (first_line d)) text ≡ lines_text d.productions

pub head_at : (text : List ℕ) (d : Draft) → text ≡ draft_text d → HeadAt text d
unfolding head_in is_digit first_line draft_text
head_at text d told =
    let four : List ℕ = lines_text d.productions in
    let three : List ℕ = decimal d.count ++ (line_feed ∷ four) in
    let two : List ℕ = decimal d.start ++ (space ∷ three) in
    let one : List ℕ = decimal d.nonterminals ++ (space ∷ two) in
    let tokens : NumberAt text 0 d.tokens one = number_at_lem text 0 d.tokens space one refl (told ∙ draft_parts d) in
    let first_end : 0 + length (decimal d.tokens) + 1 ≡ second d = omega arith in
    let nonterminals : NumberAt text (second d) d.nonterminals two =
    number_at_lem text (second d) d.nonterminals space two refl (ap (λ (k : ℕ). drop k text) (sym first_end) ∙ tokens.next) in
    let start : NumberAt text (third d) d.start three = number_at_lem text (third d) d.start space three refl nonterminals.next in
    let count : NumberAt text (fourth d) d.count four = number_at_lem text (fourth d) d.count line_feed four refl start.next in
    let second_at : past text (0 + length (decimal d.tokens)) ≡ second d = tokens.behind ∙ first_end in
    let whole : fourth d + length (decimal d.count) + 1 ≡ length (first_line d) =
    omega (
      arith,
      length-append (decimal d.tokens)
          (space ∷ decimal d.nonterminals ++ (space ∷ decimal d.start ++ (space ∷ decimal d.count ++ (line_feed ∷ [])))),
      length-append (decimal d.nonterminals) (space ∷ decimal d.start ++ (space ∷ decimal d.count ++ (line_feed ∷ []))),
      length-append (decimal d.start) (space ∷ decimal d.count ++ (line_feed ∷ [])),
      length-append (decimal d.count) (line_feed ∷ []),
    ) in record {
      head =
          rw (
            tokens.number,
            second_at,
            nonterminals.number,
            nonterminals.behind,
            start.number,
            start.behind,
            count.number,
          );
      second_at = second_at;
      third_at = nonterminals.behind;
      fourth_at = start.behind;
      lines_at = count.behind ∙ whole;
      lines = ap (λ (k : ℕ). drop k text) (sym whole) ∙ count.next;
    }
