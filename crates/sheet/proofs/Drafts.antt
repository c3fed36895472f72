-- Two drafts of one text are equal: a number ends where no digit stands.
use mathlib.Core.Path.{◌≡◌, refl, sym, ap, ap₂, ◌∙◌}
use mathlib.Core.List.{List, [], ◌∷◌, ◌++◌, append_assoc}
use Prim.Native.Nat.{ℕ}
use native.Mathlib.Omega.{arith}
use Rattle.grammar.specs.declared.Symbol.{Symbol}
use Rattle.grammar.specs.declared.Symbol.TheVariants.{Token, Nonterminal}
use Rattle.grammar.specs.Grammar.{Form, Production, Grammar}
use Rattle.text.specs.Text.{decimal}
use Rattle.text.specs.Numeral.{DecimalDigit, Each, value}
use Rattle.text.proofs.Promise.{decimal_value, decimal_digits}
use Rattle.sheet.specs.Sheet.{line_feed, space, colon, letter_n, letter_t, Draft, symbol_text, symbols_text, line_text, lines_text, first_line, draft_text, draft_of, sheet_of}

-- a text that does not begin with a digit
pub data Ended : List ℕ → Type 0 where
  no_more : Ended []
  no_digit : {b : ℕ} {rest : List ℕ} → ¬ DecimalDigit b → Ended (b ∷ rest)

digit_starts : {c : ℕ} {u rest : List ℕ} → Ended u → DecimalDigit c → u ≡ c ∷ rest → ⊥
digit_starts no_more d e = let bad : ◌≡◌ {A = ℕ} 0 1 = cc in omega arith
digit_starts {c} (no_digit {b = b} other) d e = let same : b ≡ c = cc in other (omega arith)

digits_split : (ds es : List ℕ) {u v : List ℕ} → Each DecimalDigit ds → Each DecimalDigit es → Ended u → Ended v → ds ++ u ≡ es ++ v
    → (ds ≡ es) × (u ≡ v)
digits_split [] [] all every no_u no_v e = (refl, e)
digits_split [] (c ∷ es) all every no_u no_v e = absurd (digit_starts no_u every.0 e)
digits_split (c ∷ ds) [] all every no_u no_v e = absurd (digit_starts no_v all.0 (sym e))
digits_split (c ∷ ds) (d ∷ es) {u} {v} all every no_u no_v e =
    let same : c ≡ d = cc in
    let tails : ds ++ u ≡ es ++ v = cc in
    let (digits, rests) = digits_split ds es all.1 every.1 no_u no_v tails in
    (ap₂ ◌∷◌ same digits, rests)

-- a number and what follows it
pub number_split : (n m : ℕ) {u v : List ℕ} → Ended u → Ended v → decimal n ++ u ≡ decimal m ++ v → (n ≡ m) × (u ≡ v)
number_split n m no_u no_v e =
    let (digits, rests) = digits_split (decimal n) (decimal m) (decimal_digits n) (decimal_digits m) no_u no_v e in
    (sym (decimal_value n) ∙ ap (value 10) digits ∙ decimal_value m, rests)

pub space_ends : {rest : List ℕ} → Ended (space ∷ rest)
space_ends = no_digit (λ (d : DecimalDigit space). omega arith)

pub feed_ends : {rest : List ℕ} → Ended (line_feed ∷ rest)
feed_ends = no_digit (λ (d : DecimalDigit line_feed). omega arith)

pub side_ends : (form : Form) (rest : List ℕ) → Ended (symbols_text form ++ (line_feed ∷ rest))
unfolding symbols_text symbol_text
side_ends [] rest = feed_ends
side_ends (Token t ∷ form) rest = space_ends
side_ends (Nonterminal n ∷ form) rest = space_ends

symbol_split : (s r : Symbol) {u v : List ℕ} → Ended u → Ended v → symbol_text s ++ u ≡ symbol_text r ++ v → (s ≡ r) × (u ≡ v)
unfolding symbol_text
symbol_split (Token t) (Token q) {u} {v} no_u no_v e =
    let tails : decimal t ++ u ≡ decimal q ++ v = cc in
    let (same, rests) = number_split t q no_u no_v tails in
    (ap Token same, rests)
symbol_split (Nonterminal n) (Nonterminal m) {u} {v} no_u no_v e =
    let tails : decimal n ++ u ≡ decimal m ++ v = cc in
    let (same, rests) = number_split n m no_u no_v tails in
    (ap Nonterminal same, rests)
symbol_split (Token t) (Nonterminal m) no_u no_v e = let bad : letter_t ≡ letter_n = cc in absurd (omega arith)
symbol_split (Nonterminal n) (Token q) no_u no_v e = let bad : letter_n ≡ letter_t = cc in absurd (omega arith)

no_symbol : (s : Symbol) (u v : List ℕ) → ¬ (line_feed ∷ u ≡ symbol_text s ++ v)
unfolding symbol_text
no_symbol (Token t) u v e = let bad : line_feed ≡ space = cc in omega arith
no_symbol (Nonterminal n) u v e = let bad : line_feed ≡ space = cc in omega arith

-- the symbols of a right side and the lines that follow
side_split : (form other : Form) {u v : List ℕ} → symbols_text form ++ (line_feed ∷ u) ≡ symbols_text other ++ (line_feed ∷ v)
    → (form ≡ other) × (u ≡ v)
unfolding symbols_text
side_split [] [] {u} {v} e = let tails : u ≡ v = cc in (refl, tails)
side_split [] (r ∷ other) {u} {v} e =
    absurd (no_symbol r u (symbols_text other ++ (line_feed ∷ v)) (e ∙ append_assoc (symbol_text r) (symbols_text other) (line_feed ∷ v)))
side_split (s ∷ form) [] {u} {v} e =
    absurd (no_symbol s v (symbols_text form ++ (line_feed ∷ u)) (sym e ∙ append_assoc (symbol_text s) (symbols_text form) (line_feed ∷ u)))
side_split (s ∷ form) (r ∷ other) {u} {v} e =
    let (same, rests) = symbol_split s r (side_ends form u) (side_ends other v)
    (sym (append_assoc (symbol_text s) (symbols_text form) (line_feed ∷ u)) ∙ e ∙ append_assoc (symbol_text r) (symbols_text other) (line_feed ∷ v)) in
    let (forms, lines) = side_split form other rests in
    (ap₂ ◌∷◌ same forms, lines)

-- a line with its parts in one row
pub line_parts : (r : Production) (rest : List ℕ)
    → line_text r ++ rest ≡ letter_n ∷ (decimal r.left ++ (space ∷ colon ∷ (symbols_text r.right ++ (line_feed ∷ rest))))
unfolding line_text
line_parts r rest = simp append_assoc

line_split : (r s : Production) {u v : List ℕ} → line_text r ++ u ≡ line_text s ++ v → (r ≡ s) × (u ≡ v)
line_split r s {u} {v} e =
    let whole : letter_n ∷ (decimal r.left ++ (space ∷ colon ∷ (symbols_text r.right ++ (line_feed ∷ u))))
    ≡ letter_n ∷ (decimal s.left ++ (space ∷ colon ∷ (symbols_text s.right ++ (line_feed ∷ v)))) = sym (line_parts r u) ∙ e ∙ line_parts s v in
    let (lefts, rests) = number_split r.left s.left {u = space ∷ colon ∷ (symbols_text r.right ++ (line_feed ∷ u))}
    {v = space ∷ colon ∷ (symbols_text s.right ++ (line_feed ∷ v))} space_ends space_ends (cc) in
    let (rights, lines) = side_split r.right s.right {u = u} {v = v} (cc) in
    (ap₂ (λ l f. record { left = l; right = f }) lefts rights, lines)

no_line : (r : Production) (rest : List ℕ) → ¬ ([] ≡ line_text r ++ rest)
unfolding line_text
no_line r rest e = let bad : ◌≡◌ {A = ℕ} 0 1 = cc in omega arith

lines_unique : (ps qs : List Production) → lines_text ps ≡ lines_text qs → ps ≡ qs
unfolding lines_text
lines_unique [] [] e = refl
lines_unique [] (s ∷ qs) e = absurd (no_line s (lines_text qs) e)
lines_unique (r ∷ ps) [] e = absurd (no_line r (lines_text ps) (sym e))
lines_unique (r ∷ ps) (s ∷ qs) e =
    let (same, rests) = line_split r s e in
    ap₂ ◌∷◌ same (lines_unique ps qs rests)

-- a draft's text with its parts in one row
pub draft_parts : (d : Draft)
    → draft_text d
    ≡ decimal d.tokens
    ++ (space ∷ decimal d.nonterminals
    ++ (space ∷ decimal d.start
    ++ (space ∷ decimal d.count
    ++ (line_feed ∷ lines_text d.productions))))
unfolding draft_text first_line
draft_parts d = simp append_assoc

-- two drafts of one text are equal
pub draft_unique : (d e : Draft) → draft_text d ≡ draft_text e → d ≡ e
draft_unique d e same =
    let (tokens, one) = number_split d.tokens e.tokens space_ends space_ends (sym (draft_parts d) ∙ same ∙ draft_parts e) in
    let (nonterminals, two) = number_split d.nonterminals e.nonterminals space_ends space_ends (tail one) in
    let (start, three) = number_split d.start e.start space_ends space_ends (tail two) in
    let (count, four) = number_split d.count e.count feed_ends feed_ends (tail three) in
    let productions : d.productions ≡ e.productions = lines_unique d.productions e.productions (tail four) in
    λ i. record { tokens = tokens i; nonterminals = nonterminals i; start = start i; count = count i; productions = productions i }
  where
    tail : {b c : ℕ} {u v : List ℕ} → b ∷ u ≡ c ∷ v → u ≡ v
    tail {u = u} {v = v} e = let t : u ≡ v = cc in t

-- two grammars of one sheet are equal
pub sheet_unique : (g h : Grammar) → sheet_of g ≡ sheet_of h → g ≡ h
unfolding sheet_of draft_of
sheet_unique g h same =
    ap (λ (d : Draft). record { tokens = d.tokens; nonterminals = d.nonterminals; start = d.start; productions = d.productions })
    (draft_unique (draft_of g) (draft_of h) same)
