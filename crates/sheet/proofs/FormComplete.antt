-- The text of every draft leads from the first number to the start of a line.
use mathlib.Core.Path.{◌≡◌, refl, ap, ◌∙◌}
use mathlib.Core.Bool.{false}
use mathlib.Core.List.{List, [], ◌∷◌, ◌++◌, append_assoc}
use Prim.Native.Nat.{ℕ, suc}
use native.Mathlib.Omega.{arith}
use native.Mathlib.Decide.{ℕ_discrete}
use borrow.Author.Tests.{eq-eqb, ne_eqb}
use lib.ListN.{length}
use Rattle.std.specs.Prelude.{Some}
use Rattle.grammar.specs.declared.Symbol.{Symbol}
use Rattle.grammar.specs.declared.Symbol.TheVariants.{Token, Nonterminal}
use Rattle.grammar.specs.Grammar.{Form, Production}
use Rattle.text.specs.Text.{decimal}
use Rattle.text.specs.Numeral.{DecimalDigit, Each, Numeral}
use Rattle.text.specs.Reading.{is_digit}
use Rattle.text.proofs.Promise.{decimal_numeral, is_digit_lem}
use Rattle.sheet.specs.Sheet.{line_feed, space, colon, letter_n, Draft, symbol_text, symbols_text, line_text, lines_text, first_line, draft_text}
use Rattle.sheet.specs.Form.{zero_digit, wants, behind, step, begin, go_on, letter, lead, after}
use Rattle.sheet.specs.declared.form.Slot.{Slot}
use Rattle.sheet.specs.declared.form.Slot.TheVariants.{Tokens, Nonterminals, Start, Count, Left, Right}
use Rattle.sheet.specs.declared.form.Phase.TheVariants.{First, More, Behind, Line}

zero_step : (slot : Slot) (b : ℕ) → b ≡ zero_digit → step (First slot) b ≡ Some (Behind slot)
unfolding step begin go_on letter
zero_step slot b e = rw (eq-eqb b zero_digit e)

first_step : (slot : Slot) (b : ℕ) → DecimalDigit b → (b ≡ zero_digit → ⊥) → step (First slot) b ≡ Some (More slot)
unfolding step begin go_on letter
first_step slot b d nonzero = rw (ne_eqb b zero_digit nonzero, is_digit_lem b d)

more_step : (slot : Slot) (b : ℕ) → DecimalDigit b → step (More slot) b ≡ Some (More slot)
unfolding step begin go_on letter
more_step slot b d = rw (is_digit_lem b d)

last_step : (slot : Slot) (b : ℕ) → is_digit b ≡ false → step (More slot) b ≡ behind slot b
unfolding step begin go_on letter
last_step slot b other = rw other

-- further digits stay in the number, and what is no digit is what follows it
digits_on : (slot : Slot) (digits : List ℕ) (sep : ℕ) (rest : List ℕ) → Each DecimalDigit digits → is_digit sep ≡ false
    → after (Some (More slot)) (digits ++ (sep ∷ rest)) ≡ after (behind slot sep) rest
unfolding after lead
digits_on slot [] sep rest all other = ap (λ phase. after phase rest) (last_step slot sep other)
digits_on slot (b ∷ digits) sep rest all other =
    ap (λ phase. after phase (digits ++ (sep ∷ rest))) (more_step slot b all.0) ∙ digits_on slot digits sep rest all.1 other

-- behind a zero that is the only digit
zero_on : (slot : Slot) (digits : List ℕ) (sep : ℕ) (rest : List ℕ) → suc (length digits) ≡ 1
    → after (Some (Behind slot)) (digits ++ (sep ∷ rest)) ≡ after (behind slot sep) rest
unfolding after step begin go_on letter lead
zero_on slot [] sep rest e = refl
zero_on slot (c ∷ digits) sep rest e = absurd (omega arith)

number_on : (slot : Slot) (n : ℕ) (digits : List ℕ) (sep : ℕ) (rest : List ℕ) → Numeral n digits → is_digit sep ≡ false
    → after (Some (First slot)) (digits ++ (sep ∷ rest)) ≡ after (behind slot sep) rest
unfolding after lead
number_on slot n [] sep rest numeral other = absurd (omega (arith, numeral.written))
number_on slot n (b ∷ digits) sep rest numeral other = by (ℕ_discrete b zero_digit)
  where
    by : Dec (b ≡ zero_digit) → after (step (First slot) b) (digits ++ (sep ∷ rest)) ≡ after (behind slot sep) rest
    by (yes zero_first) =
        ap (λ phase. after phase (digits ++ (sep ∷ rest))) (zero_step slot b zero_first)
        ∙ zero_on slot digits sep rest (numeral.leading zero_first)
    by (no nonzero) =
        ap (λ phase. after phase (digits ++ (sep ∷ rest))) (first_step slot b numeral.digits.0 nonzero)
        ∙ digits_on slot digits sep rest numeral.digits.1 other

-- a whole number, and the byte behind it
pub decimal_on : (slot : Slot) (n sep : ℕ) (rest : List ℕ) → is_digit sep ≡ false
    → after (Some (First slot)) (decimal n ++ (sep ∷ rest)) ≡ after (behind slot sep) rest
decimal_on slot n sep rest other = number_on slot n (decimal n) sep rest (decimal_numeral n) other

-- what follows a symbol's number is a space or a line feed
data Ending : List ℕ → Type 0 where
  more : {rest : List ℕ} → Ending (space ∷ rest)
  last : {rest : List ℕ} → Ending (line_feed ∷ rest)

symbols_ending : (form : Form) (rest : List ℕ) → Ending (symbols_text form ++ (line_feed ∷ rest))
unfolding symbols_text symbol_text
symbols_ending [] rest = last
symbols_ending (Token t ∷ form) rest = more
symbols_ending (Nonterminal n ∷ form) rest = more

right_on : (n : ℕ) {rest : List ℕ} → Ending rest → after (Some (First Right)) (decimal n ++ rest) ≡ after (Some (Behind Right)) rest
unfolding after step is_digit begin go_on letter lead
right_on n (more {rest = rest}) = decimal_on Right n space rest refl
right_on n (last {rest = rest}) = decimal_on Right n line_feed rest refl

symbol_on : (s : Symbol) {rest : List ℕ} → Ending rest → after (Some (Behind Right)) (symbol_text s ++ rest) ≡ after (Some (Behind Right)) rest
unfolding symbol_text after step behind wants begin go_on letter lead
symbol_on (Token t) end = right_on t end
symbol_on (Nonterminal n) end = right_on n end

feed_on : (rest : List ℕ) → after (Some (Behind Right)) (line_feed ∷ rest) ≡ after (Some Line) rest
unfolding after step behind wants begin go_on letter lead
feed_on rest = refl

symbols_on : (form : Form) (rest : List ℕ) → after (Some (Behind Right)) (symbols_text form ++ (line_feed ∷ rest)) ≡ after (Some Line) rest
unfolding symbols_text
symbols_on [] rest = feed_on rest
symbols_on (s ∷ form) rest =
    rw (append_assoc (symbol_text s) (symbols_text form) (line_feed ∷ rest))
    (symbol_on s (symbols_ending form rest) ∙ symbols_on form rest)

letter_on : (rest : List ℕ) → after (Some Line) (letter_n ∷ rest) ≡ after (Some (First Left)) rest
unfolding after step wants begin go_on letter lead
letter_on rest = refl

left_on : (n : ℕ) (rest : List ℕ) → after (Some (First Left)) (decimal n ++ (space ∷ colon ∷ rest)) ≡ after (Some (Behind Right)) rest
unfolding after step behind wants is_digit begin go_on letter lead
left_on n rest = decimal_on Left n space (colon ∷ rest) refl

line_on : (r : Production) (rest : List ℕ) → after (Some Line) (line_text r ++ rest) ≡ after (Some Line) rest
unfolding line_text
line_on r rest =
    let right : List ℕ = symbols_text r.right ++ (line_feed ∷ rest) in
    ap (after (Some Line)) (simp append_assoc)
    ∙ letter_on (decimal r.left ++ (space ∷ colon ∷ right))
    ∙ left_on r.left right
    ∙ symbols_on r.right rest

none_on : after (Some Line) [] ≡ Some Line
unfolding after lead
none_on = refl

lines_on : (ps : List Production) → after (Some Line) (lines_text ps) ≡ Some Line
unfolding lines_text
lines_on [] = none_on
lines_on (r ∷ ps) = line_on r (lines_text ps) ∙ lines_on ps

-- the text of a draft, read from the front
pub draft_read : (d : Draft) → after (Some (First Tokens)) (draft_text d) ≡ Some Line
unfolding draft_text first_line behind wants is_digit
draft_read d =
    let lines : List ℕ = lines_text d.productions in
    ap (after (Some (First Tokens))) (simp append_assoc)
    ∙ decimal_on Tokens d.tokens space (decimal d.nonterminals ++ (space ∷ decimal d.start ++ (space ∷ decimal d.count ++ (line_feed ∷ lines)))) refl
    ∙ decimal_on Nonterminals d.nonterminals space (decimal d.start ++ (space ∷ decimal d.count ++ (line_feed ∷ lines))) refl
    ∙ decimal_on Start d.start space (decimal d.count ++ (line_feed ∷ lines)) refl
    ∙ decimal_on Count d.count line_feed lines refl
    ∙ lines_on d.productions
