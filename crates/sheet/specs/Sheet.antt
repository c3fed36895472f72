-- Grammar sheets: the text of a grammar, which texts have the form of a sheet, the place where a text breaks it, and
-- the first number of a sheet that is out of range.
-- Document 02, W1. Characters are their ASCII codes. Definitions only.
use Rattle.std.specs.Prelude.{◌≡◌, List, [], ◌∷◌, ◌++◌, ℕ, zero, suc, ◌+◌, ◌-◌, ◌*◌, ◌≤◌, ◌<◌, length, take}
use Rattle.grammar.specs.declared.Symbol.{Symbol}
use Rattle.grammar.specs.declared.Symbol.TheVariants.{Token, Nonterminal}
use Rattle.grammar.specs.Grammar.{Form, Production, Grammar, Every}
use Rattle.text.specs.Text.{decimal}
use Rattle.answers.specs.Limits.{most_tokens, most_nonterminals, most_productions, most_symbols}
use Rattle.answers.specs.declared.refusals.Refusal.{Refusal}
use Rattle.answers.specs.declared.refusals.Refusal.TheVariants as refusals

abbrev pub line_feed : ℕ
line_feed = 10

abbrev pub space : ℕ
space = 32

abbrev pub colon : ℕ
colon = 58

abbrev pub letter_n : ℕ
letter_n = 110

abbrev pub letter_t : ℕ
letter_t = 116

-- what a sheet tells: T, N, start and P, and a production for each further line; any numbers at all
pub record Draft : Type 0 where
  pub tokens : ℕ
  pub nonterminals : ℕ
  pub start : ℕ
  pub count : ℕ
  pub productions : List Production

-- a space, `t` or `n`, and the number
unfoldable pub symbol_text : Symbol → List ℕ
symbol_text (Token t) = space ∷ letter_t ∷ decimal t
symbol_text (Nonterminal n) = space ∷ letter_n ∷ decimal n

unfoldable pub symbols_text : Form → List ℕ
symbols_text [] = []
symbols_text (s ∷ form) = symbol_text s ++ symbols_text form

-- `n` and the left side, a space and a colon, the symbols, a line feed
unfoldable pub line_text : Production → List ℕ
line_text r = letter_n ∷ (decimal r.left ++ (space ∷ colon ∷ (symbols_text r.right ++ (line_feed ∷ []))))

unfoldable pub lines_text : List Production → List ℕ
lines_text [] = []
lines_text (r ∷ rest) = line_text r ++ lines_text rest

-- `T N start P` and a line feed
unfoldable pub first_line : Draft → List ℕ
first_line d =
    decimal d.tokens
    ++ (space ∷ decimal d.nonterminals
    ++ (space ∷ decimal d.start
    ++ (space ∷ decimal d.count
    ++ (line_feed ∷ []))))

unfoldable pub draft_text : Draft → List ℕ
draft_text d = first_line d ++ lines_text d.productions

-- what a grammar's own sheet tells
unfoldable pub draft_of : Grammar → Draft
draft_of g =
    record {
      tokens = g.tokens;
      nonterminals = g.nonterminals;
      start = g.start;
      count = length g.productions;
      productions = g.productions;
    }

unfoldable pub sheet_of : Grammar → List ℕ
sheet_of g = draft_text (draft_of g)

-- the text is a sheet, its values and the count of its lines aside
pub record HasForm (text : List ℕ) : Type 0 where
  pub draft : Draft
  pub told : text ≡ draft_text draft

-- some bytes behind it make it a sheet
pub record Begins (text : List ℕ) : Type 0 where
  pub rest : List ℕ
  pub form : HasForm (text ++ rest)

-- byte k is the first that breaks the form, or the text breaks off and k is its length
pub record BreaksAt (text : List ℕ) (k : ℕ) : Type 0 where
  pub inside : k ≤ length text
  pub begun : Begins (take k text)
  pub blocked : k < length text → ¬ Begins (take (suc k) text)
  pub broken_off : k ≡ length text → ¬ HasForm text

-- a value that is asked to lie from `low` up to and without `high`, else the refusal at its place
pub record Field : Type 0 where
  pub value : ℕ
  pub low : ℕ
  pub high : ℕ
  pub why : Refusal
  pub place : ℕ

pub record InRange (f : Field) : Type 0 where
  pub above : f.low ≤ f.value
  pub below : f.value < f.high

abbrev pub field : (value low high : ℕ) → Refusal → (place : ℕ) → Field
field value low high why place =
    record { value = value; low = low; high = high; why = why; place = place }

-- a token below T or a nonterminal below N, behind its space and its letter
unfoldable pub symbol_field : (T N at : ℕ) → Symbol → Field
symbol_field T N at (Token t) = field t 0 T refusals.Symbol (at + 2)
symbol_field T N at (Nonterminal n) = field n 0 N refusals.Symbol (at + 2)

-- at most so many symbols; one more has no range, and its place is that of its letter
unfoldable pub symbols_fields : (T N room at : ℕ) → Form → List Field
symbols_fields T N room at [] = []
symbols_fields T N zero at (s ∷ form) = field 0 0 0 refusals.Limit (at + 1) ∷ []
symbols_fields T N (suc room) at (s ∷ form) =
    symbol_field T N at s ∷ symbols_fields T N room (at + length (symbol_text s)) form

-- the left side behind its letter, and the symbols behind ` :`
unfoldable pub line_fields : (T N at : ℕ) → Production → List Field
line_fields T N at r =
    field r.left 0 N refusals.Symbol (at + 1)
    ∷ symbols_fields T N most_symbols (at + 1 + length (decimal r.left) + 2) r.right

unfoldable pub lines_fields : (T N at : ℕ) → List Production → List Field
lines_fields T N at [] = []
lines_fields T N at (r ∷ rest) = line_fields T N at r ++ lines_fields T N (at + length (line_text r)) rest

-- the four numbers of the first line, each behind the one before it and a space
unfoldable pub first_fields : Draft → List Field
first_fields d =
    let second = length (decimal d.tokens) + 1 in
    let third = second + length (decimal d.nonterminals) + 1 in
    let fourth = third + length (decimal d.start) + 1 in
    field d.tokens 1 (suc most_tokens) refusals.Limit 0
    ∷ field d.nonterminals 1 (suc most_nonterminals) refusals.Limit second
    ∷ field d.start 0 d.nonterminals refusals.Limit third
    ∷ field d.count 1 (suc most_productions) refusals.Limit fourth
    ∷ []

-- the productions of the first P + 1 lines
unfoldable pub announced : Draft → List Production
announced d = take d.count d.productions

-- front to back over the first P + 1 lines
unfoldable pub fields_of : Draft → List Field
fields_of d = first_fields d ++ lines_fields d.tokens d.nonterminals (length (first_line d)) (announced d)

-- the first of the fields that is out of its range, with its refusal and its place
pub data FirstFault : List Field → Refusal → ℕ → Type 0 where
  here : {f : Field} {fs : List Field} → ¬ InRange f → FirstFault (f ∷ fs) f.why f.place
  later : {f : Field} {fs : List Field} {why : Refusal} {place : ℕ}
      → InRange f
      → FirstFault fs why place
      → FirstFault (f ∷ fs) why place

abbrev pub Faultless : List Field → Type 0
Faultless = Every InRange

-- the bytes of the longest sheet: a first line with the largest T, `64 63 128`; as many lines as there can be, each
-- `n63 :` and as many symbols as there can be, each the last token
unfoldable pub longest_sheet : ℕ
longest_sheet =
    length (decimal most_tokens) + 11
    + most_productions * (6 + most_symbols * (2 + length (decimal (most_tokens - 1))))
