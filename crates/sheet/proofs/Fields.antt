-- The fields of a grammar's own sheet are all in range exactly if the grammar is within the limits.
use mathlib.Core.Path.{◌≡◌}
use mathlib.Core.Logic.{◌↔◌}
use mathlib.Core.List.{List, [], ◌∷◌}
use Prim.Native.Nat.{ℕ, zero, suc, ◌+◌, ◌≤◌, ◌<◌}
use native.Mathlib.Omega.{arith}
use lib.ListN.{length}
use lib.Seq.{take_all}
use Rattle.grammar.specs.declared.Symbol.{Symbol}
use Rattle.grammar.specs.declared.Symbol.TheVariants.{Token, Nonterminal}
use Rattle.grammar.specs.Grammar.{Form, Production, Grammar, Every, nothing, each, Rule, Known, known_token, known_nonterminal}
use Rattle.grammar.proofs.Every.{every_append, every_left, every_right, every_at, at_every}
use Rattle.answers.specs.Limits.{most_tokens, most_nonterminals, most_productions, most_symbols}
use Rattle.text.specs.Text.{decimal}
use Rattle.reader.specs.Book.{Limits}
use Rattle.sheet.specs.Sheet.{draft_of, symbol_text, line_text, first_line, Field, InRange, symbol_field, symbols_fields, line_fields, lines_fields, first_fields, announced, fields_of, Faultless}

-- a production that a record of the grammar can hold
pub record Held (g : Grammar) (r : Production) : Type 0 where
  pub left_known : r.left < g.nonterminals
  pub length_fits : length r.right ≤ most_symbols
  pub right_known : Every (Known g) r.right

module _ (g : Grammar) where
  symbol_fine : (at : ℕ) (s : Symbol) → InRange (symbol_field g.tokens g.nonterminals at s) ↔ Known g s
  unfolding symbol_field
  symbol_fine at (Token t) = (λ fine. known_token fine.below, λ known. by known)
    where
      by : Known g (Token t) → InRange (symbol_field g.tokens g.nonterminals at (Token t))
      by (known_token h) = record { above = omega arith; below = h }
  symbol_fine at (Nonterminal n) = (λ fine. known_nonterminal fine.below, λ known. by known)
    where
      by : Known g (Nonterminal n) → InRange (symbol_field g.tokens g.nonterminals at (Nonterminal n))
      by (known_nonterminal h) = record { above = omega arith; below = h }

  symbols_known : (room at : ℕ) (form : Form) → Faultless (symbols_fields g.tokens g.nonterminals room at form)
      → (length form ≤ room) × Every (Known g) form
  unfolding symbols_fields
  symbols_known room at [] all = (omega arith, nothing)
  symbols_known zero at (s ∷ form) (each fine all) = absurd (omega (arith, fine.below))
  symbols_known (suc room) at (s ∷ form) (each fine all) =
      let (fits, known) = symbols_known room (at + length (symbol_text s)) form all in
      (omega arith, each ((symbol_fine at s).0 fine) known)

  symbols_fine : (room at : ℕ) {form : Form} → length form ≤ room → Every (Known g) form
      → Faultless (symbols_fields g.tokens g.nonterminals room at form)
  unfolding symbols_fields
  symbols_fine room at fits nothing = nothing
  symbols_fine zero at fits (each known all) = absurd (omega arith)
  symbols_fine (suc room) at fits (each {x = s} known all) =
      each ((symbol_fine at s).1 known) (symbols_fine room (at + length (symbol_text s)) (omega arith) all)

  line_fine : (at : ℕ) (r : Production) → Faultless (line_fields g.tokens g.nonterminals at r) ↔ Held g r
  unfolding line_fields
  line_fine at r = (to, from)
    where
      place : ℕ
      place = at + 1 + length (decimal r.left) + 2

      to : Faultless (line_fields g.tokens g.nonterminals at r) → Held g r
      to (each fine all) =
          let (fits, known) = symbols_known most_symbols place r.right all in
          record { left_known = fine.below; length_fits = fits; right_known = known }

      from : Held g r → Faultless (line_fields g.tokens g.nonterminals at r)
      from h =
          let low : 0 ≤ r.left = omega arith in
          each (record { above = low; below = h.left_known }) (symbols_fine most_symbols place h.length_fits h.right_known)

  lines_held : (at : ℕ) (ps : List Production) → Faultless (lines_fields g.tokens g.nonterminals at ps) → Every (Held g) ps
  unfolding lines_fields
  lines_held at [] all = nothing
  lines_held at (r ∷ ps) all =
      let fields : List Field = line_fields g.tokens g.nonterminals at r in
      let rest : List Field = lines_fields g.tokens g.nonterminals (at + length (line_text r)) ps in
      each ((line_fine at r).0 (every_left fields rest all)) (lines_held (at + length (line_text r)) ps (every_right fields rest all))

  lines_fine : (at : ℕ) {ps : List Production} → Every (Held g) ps → Faultless (lines_fields g.tokens g.nonterminals at ps)
  unfolding lines_fields
  lines_fine at nothing = nothing
  lines_fine at (each {x = r} {xs = ps} held all) =
      every_append (line_fields g.tokens g.nonterminals at r) (lines_fields g.tokens g.nonterminals (at + length (line_text r)) ps)
      ((line_fine at r).1 held)
      (lines_fine (at + length (line_text r)) all)

  pub limits_held : Limits g → Every (Held g) g.productions
  limits_held limits =
      at_every g.productions
      (λ p r at.
      let rule : Rule g p r.left r.right = record { at = at } in
      record {
        left_known = limits.well_formed.left_known rule;
        length_fits = limits.lengths_fit rule;
        right_known = limits.well_formed.right_known rule;
      })

  all_announced : announced (draft_of g) ≡ g.productions
  unfolding announced draft_of
  all_announced = take_all (length g.productions) g.productions (omega arith)

  -- every field of a book's sheet is in its range
  pub sheet_faultless : Limits g → Faultless (fields_of (draft_of g))
  unfolding fields_of first_fields draft_of
  sheet_faultless limits =
      let tokens : g.tokens < suc most_tokens = omega (arith, limits.tokens_fit) in
      let nonterminals : g.nonterminals < suc most_nonterminals = omega (arith, limits.nonterminals_fit) in
      let low : 0 ≤ g.start = omega arith in
      let count : length g.productions < suc most_productions = omega (arith, limits.productions_fit) in
      let lines : Faultless (lines_fields g.tokens g.nonterminals (length (first_line (draft_of g))) (announced (draft_of g))) =
      rw all_announced (lines_fine (length (first_line (draft_of g))) (limits_held limits)) in
      each (record { above = limits.some_token; below = tokens })
      (each (record { above = limits.some_nonterminal; below = nonterminals })
      (each (record { above = low; below = limits.well_formed.start_known })
      (each (record { above = limits.some_production; below = count })
      lines)))

  -- and only of a book's sheet
  pub faultless_limits : Faultless (fields_of (draft_of g)) → Limits g
  unfolding fields_of first_fields draft_of
  faultless_limits (each tokens (each nonterminals (each start (each count lines)))) =
      let held : Every (Held g) g.productions = lines_held (length (first_line (draft_of g))) g.productions (rw all_announced at lines) in
      record {
        some_token = tokens.above;
        tokens_fit = omega (arith, tokens.below);
        some_nonterminal = nonterminals.above;
        nonterminals_fit = omega (arith, nonterminals.below);
        some_production = count.above;
        productions_fit = omega (arith, count.below);
        lengths_fit = λ {p} {A} {β} rule. (every_at held p _ rule.at).length_fits;
        well_formed = record {
          start_known = start.below;
          left_known = λ {p} {A} {β} rule. (every_at held p _ rule.at).left_known;
          right_known = λ {p} {A} {β} rule. (every_at held p _ rule.at).right_known;
        };
      }
