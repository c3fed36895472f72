-- Every fault lies within the sheet, so every place that is answered does.
use mathlib.Core.List.{List, [], ◌∷◌, ◌++◌}
use Prim.Native.Nat.{ℕ, zero, suc, ◌+◌, ◌≤◌}
use native.Mathlib.Omega.{arith}
use lib.ListN.{length, take, length-append}
use Rattle.grammar.specs.declared.Symbol.{Symbol}
use Rattle.grammar.specs.declared.Symbol.TheVariants.{Token, Nonterminal}
use Rattle.grammar.specs.Grammar.{Form, Production, Every, nothing, each}
use Rattle.grammar.proofs.Every.{every_append, every_map}
use Rattle.answers.specs.Limits.{most_symbols}
use Rattle.answers.specs.declared.refusals.Refusal.{Refusal}
use Rattle.text.specs.Text.{decimal}
use Rattle.sheet.specs.Sheet.{Draft, symbol_text, symbols_text, line_text, lines_text, first_line, draft_text}
use Rattle.sheet.specs.Sheet.{Field, symbol_field, symbols_fields, line_fields, lines_fields, first_fields, announced, fields_of, FirstFault, here, later}

-- the place is no later than this one
abbrev By : ℕ → Field → Type 0
By end f = f.place ≤ end

by_more : {i j : ℕ} {fs : List Field} → i ≤ j → Every (By i) fs → Every (By j) fs
by_more less = every_map (λ f h. omega arith)

symbol_by : (T N at : ℕ) (s : Symbol) → (symbol_field T N at s).place ≤ at + length (symbol_text s)
unfolding symbol_field symbol_text
symbol_by T N at (Token t) = omega arith
symbol_by T N at (Nonterminal n) = omega arith

symbol_some : (s : Symbol) → 1 ≤ length (symbol_text s)
unfolding symbol_text
symbol_some (Token t) = omega arith
symbol_some (Nonterminal n) = omega arith

symbols_by : (T N room at : ℕ) (form : Form) → Every (By (at + length (symbols_text form))) (symbols_fields T N room at form)
unfolding symbols_fields symbols_text
symbols_by T N room at [] = nothing
symbols_by T N zero at (s ∷ form) =
    let h : at + 1 ≤ at + length (symbol_text s ++ symbols_text form) =
    omega (arith, symbol_some s, length-append (symbol_text s) (symbols_text form)) in
    each h nothing
symbols_by T N (suc room) at (s ∷ form) =
    let h : (symbol_field T N at s).place ≤ at + length (symbol_text s ++ symbols_text form) =
    omega (arith, symbol_by T N at s, length-append (symbol_text s) (symbols_text form)) in
    each h
    (by_more (omega (arith, length-append (symbol_text s) (symbols_text form))) (symbols_by T N room (at + length (symbol_text s)) form))

line_by : (T N at : ℕ) (r : Production) → Every (By (at + length (line_text r))) (line_fields T N at r)
unfolding line_fields line_text
line_by T N at r =
    let symbols : List ℕ = symbols_text r.right ++ (10 ∷ []) in
    let one = length-append (decimal r.left) (32 ∷ 58 ∷ symbols) in
    let two = length-append (symbols_text r.right) (10 ∷ []) in
    let h : at + 1 ≤ at + length (line_text r) = omega (arith, one, two) in
    each h
    (by_more (omega (arith, one, two)) (symbols_by T N most_symbols (at + 1 + length (decimal r.left) + 2) r.right))

lines_by : (T N at : ℕ) (ps : List Production) → Every (By (at + length (lines_text ps))) (lines_fields T N at ps)
unfolding lines_fields lines_text
lines_by T N at [] = nothing
lines_by T N at (r ∷ ps) =
    let whole = length-append (line_text r) (lines_text ps) in
    every_append (line_fields T N at r) (lines_fields T N (at + length (line_text r)) ps)
    (by_more (omega (arith, whole)) (line_by T N at r))
    (by_more (omega (arith, whole)) (lines_by T N (at + length (line_text r)) ps))

-- some of the lines have no more bytes than all
lines_fewer : (count : ℕ) (ps : List Production) → length (lines_text (take count ps)) ≤ length (lines_text ps)
unfolding lines_text
lines_fewer zero ps = omega arith
lines_fewer (suc count) [] = omega arith
lines_fewer (suc count) (r ∷ ps) =
    omega (
      arith,
      length-append (line_text r) (lines_text (take count ps)),
      length-append (line_text r) (lines_text ps),
      lines_fewer count ps,
    )

pub announced_fewer : (d : Draft) → length (first_line d ++ lines_text (announced d)) ≤ length (draft_text d)
unfolding announced draft_text
announced_fewer d =
    omega (
      arith,
      length-append (first_line d) (lines_text (take d.count d.productions)),
      length-append (first_line d) (lines_text d.productions),
      lines_fewer d.count d.productions,
    )

first_by : (d : Draft) → Every (By (length (first_line d))) (first_fields d)
unfolding first_fields first_line
first_by d =
    let fourth : List ℕ = decimal d.count ++ (10 ∷ []) in
    let third : List ℕ = decimal d.start ++ (32 ∷ fourth) in
    let second : List ℕ = decimal d.nonterminals ++ (32 ∷ third) in
    let one = length-append (decimal d.tokens) (32 ∷ second) in
    let two = length-append (decimal d.nonterminals) (32 ∷ third) in
    let three = length-append (decimal d.start) (32 ∷ fourth) in
    let tokens : 0 ≤ length (first_line d) = omega arith in
    let nonterminals : length (decimal d.tokens) + 1 ≤ length (first_line d) = omega (arith, one) in
    let start : length (decimal d.tokens) + 1 + length (decimal d.nonterminals) + 1 ≤ length (first_line d) =
    omega (arith, one, two) in
    let count : length (decimal d.tokens) + 1 + length (decimal d.nonterminals) + 1 + length (decimal d.start) + 1
    ≤ length (first_line d) = omega (arith, one, two, three) in
    each tokens (each nonterminals (each start (each count nothing)))

fields_by : (d : Draft) → Every (By (length (draft_text d))) (fields_of d)
unfolding fields_of
fields_by d =
    let whole = length-append (first_line d) (lines_text (announced d)) in
    every_append (first_fields d) (lines_fields d.tokens d.nonterminals (length (first_line d)) (announced d))
    (by_more (omega (arith, whole, announced_fewer d)) (first_by d))
    (by_more (omega (arith, whole, announced_fewer d)) (lines_by d.tokens d.nonterminals (length (first_line d)) (announced d)))

fault_by : {end : ℕ} {fs : List Field} {n : Refusal} {p : ℕ} → Every (By end) fs → FirstFault fs n p → p ≤ end
fault_by nothing fault = elim fault [ ]
fault_by (each h all) (here bad) = h
fault_by (each h all) (later fine rest) = fault_by all rest

pub fault_within : (d : Draft) {n : Refusal} {p : ℕ} → FirstFault (fields_of d) n p → p ≤ length (draft_text d)
fault_within d = fault_by (fields_by d)
