-- The longest sheet: no grammar within the limits has a longer one, and one has a sheet of that length.
use mathlib.Core.Path.{◌≡◌, refl}
use mathlib.Core.List.{List, [], ◌∷◌, ◌++◌}
use mathlib.Core.Option.{none}
use Prim.Native.Nat.{ℕ, ◌+◌, ◌-◌, ◌*◌, ◌≤◌}
use native.Mathlib.Nat.{mul-le-mul_right, suc-mul}
use native.Mathlib.Omega.{arith}
use lib.Dec.{lit≤}
use lib.ListN.{length, replicate, length-append}
use Rattle.grammar.specs.declared.Symbol.{Symbol}
use Rattle.grammar.specs.declared.Symbol.TheVariants.{Token}
use Rattle.grammar.specs.Grammar.{Form, Production, Grammar, Every, nothing, each, Known, known_token, known_nonterminal}
use Rattle.answers.specs.Limits.{most_cells, most_tokens, most_nonterminals, most_productions, most_symbols}
use Rattle.text.specs.Text.{digit, last_digits, decimal}
use Rattle.text.proofs.Promise.{decimal_length, decimal_longer}
use Rattle.reader.specs.Book.{Limits}
use Rattle.sheet.specs.Sheet.{symbol_text, symbols_text, line_text, lines_text, first_line, draft_text, draft_of, sheet_of, symbol_field, symbols_fields, line_fields, lines_fields, first_fields, announced, fields_of, longest_sheet}
use Rattle.sheet.proofs.Faults.{in_range, fault_in, none_found}
use Rattle.sheet.proofs.Fields.{Held, limits_held, faultless_limits}

-- the digits of the last token, of which there are at least two
abbrev token_digits : ℕ
token_digits = length (decimal (most_tokens - 1))

two_digits : 2 ≤ token_digits
unfolding decimal last_digits digit
two_digits = lit≤ tt

module _ (g : Grammar) (limits : Limits g) where
  symbol_length : {s : Symbol} → Known g s → length (symbol_text s) ≤ 2 + token_digits
  unfolding symbol_text
  symbol_length (known_token {t = t} known) =
      omega (arith, limits.tokens_fit, decimal_longer t (most_tokens - 1) (omega (arith, limits.tokens_fit)))
  symbol_length (known_nonterminal {A = A} known) =
      omega (arith, two_digits, decimal_length A 2 (omega arith) (omega (arith, limits.nonterminals_fit)))

  symbols_length : {form : Form} → Every (Known g) form → length (symbols_text form) ≤ length form * (2 + token_digits)
  unfolding symbols_text
  symbols_length nothing = omega arith
  symbols_length (each {x = s} {xs = form} known all) =
      omega (
        arith,
        suc-mul (length form) (2 + token_digits),
        length-append (symbol_text s) (symbols_text form),
        symbol_length known,
        symbols_length all,
      )

  line_length : {r : Production} → Held g r → length (line_text r) ≤ 6 + most_symbols * (2 + token_digits)
  unfolding line_text
  line_length {r} held =
      omega (
        arith,
        length-append (decimal r.left) (32 ∷ 58 ∷ (symbols_text r.right ++ (10 ∷ []))),
        length-append (symbols_text r.right) (10 ∷ []),
        decimal_length r.left 2 (omega arith) (omega (arith, held.left_known, limits.nonterminals_fit)),
        symbols_length held.right_known,
        mul-le-mul_right (2 + token_digits) held.length_fits,
      )

  lines_length : {ps : List Production} → Every (Held g) ps → length (lines_text ps) ≤ length ps * (6 + most_symbols * (2 + token_digits))
  unfolding lines_text
  lines_length nothing = omega arith
  lines_length (each {x = r} {xs = ps} held all) =
      omega (
        arith,
        suc-mul (length ps) (6 + most_symbols * (2 + token_digits)),
        length-append (line_text r) (lines_text ps),
        line_length held,
        lines_length all,
      )

  first_length : length (first_line (draft_of g)) ≤ length (decimal most_tokens) + 11
  unfolding first_line draft_of
  first_length =
      let fourth : List ℕ = decimal (length g.productions) ++ (10 ∷ []) in
      let third : List ℕ = decimal g.start ++ (32 ∷ fourth) in
      let second : List ℕ = decimal g.nonterminals ++ (32 ∷ third) in
      omega (
        arith,
        length-append (decimal g.tokens) (32 ∷ second),
        length-append (decimal g.nonterminals) (32 ∷ third),
        length-append (decimal g.start) (32 ∷ fourth),
        length-append (decimal (length g.productions)) (10 ∷ []),
        decimal_longer g.tokens most_tokens limits.tokens_fit,
        decimal_length g.nonterminals 2 (omega arith) (omega (arith, limits.nonterminals_fit)),
        decimal_length g.start 2 (omega arith) (omega (arith, limits.well_formed.start_known, limits.nonterminals_fit)),
        decimal_length (length g.productions) 3 (omega arith) (omega (arith, limits.productions_fit)),
      )

  -- no sheet of a book is longer
  pub longest_sheet_lem : length (sheet_of g) ≤ longest_sheet
  unfolding sheet_of draft_text draft_of longest_sheet
  longest_sheet_lem =
      omega (
        arith,
        length-append (first_line (draft_of g)) (lines_text g.productions),
        first_length,
        lines_length (limits_held g limits),
        mul-le-mul_right (6 + most_symbols * (2 + token_digits)) limits.productions_fit,
      )

-- and it is far below the cells of a lent buffer that count
pub longest_counted : longest_sheet ≤ most_cells
unfolding longest_sheet decimal last_digits digit
longest_counted = lit≤ tt

-- a grammar whose sheet is of that length
longest : Grammar
longest =
    record {
      tokens = most_tokens;
      nonterminals = most_nonterminals;
      start = most_nonterminals - 1;
      productions =
          replicate most_productions (record { left = most_nonterminals - 1; right = replicate most_symbols (Token (most_tokens - 1)) });
    }

longest_faultless : fault_in (fields_of (draft_of longest)) ≡ none
unfolding longest draft_of fields_of first_fields announced lines_fields line_fields symbols_fields symbol_field line_text symbol_text symbols_text first_line decimal last_digits digit fault_in in_range
longest_faultless = refl

-- and one has just that many bytes
pub longest_written : (g : Grammar) × Limits g × (length (sheet_of g) ≡ longest_sheet)
unfolding longest sheet_of draft_text draft_of first_line lines_text line_text symbols_text symbol_text decimal last_digits digit longest_sheet
longest_written = (longest, faultless_limits longest (none_found (fields_of (draft_of longest)) longest_faultless), refl)
