-- The cells of a table of actions and moves, read back, are exact; and there is one such table only.
use mathlib.Core.Path.{◌≡◌, refl, sym, ap, ◌∙◌, subst}
use mathlib.Core.Logic.{◌≢◌}
use mathlib.Core.List.{List, ◌∷◌}
use mathlib.Core.Option.{some, none, none-ne-some, some-injective}
use Prim.Native.Nat.{ℕ, ◌+◌, ◌*◌, ◌/◌, ◌%◌, ◌≤◌, ◌<◌}
use native.Mathlib.Decide.{dec_lt}
use native.Mathlib.Nat.{mul_comm, mul-le-mul_left}
use native.Mathlib.Omega.{arith}
use lib.Arith.{digits_lt, digits_div, digits_mod}
use lib.ListN.{length, get_or, get_or-eq_default}
use Rattle.grammar.specs.declared.Symbol.{Symbol}
use Rattle.grammar.specs.declared.Symbol.TheVariants.{Token, Nonterminal}
use Rattle.grammar.specs.Grammar.{Form, Grammar, Column, token, endmark, column, Every, each, Known, known_token, known_nonterminal, Follow, before, last, WellFormed}
use Rattle.grammar.proofs.Every.{every_right}
use Rattle.grammar.proofs.Rules.{below_rule}
use Rattle.grammar.proofs.Useful.{sentential_known}
use Rattle.numbering.proofs.Promise.{inside}
use Rattle.slr.specs.States.{columns_of, LeadsTo}
use Rattle.slr.specs.Actions.{Action, Acts, shifts, reduces, accepts, ExactActions}
use Rattle.slr.specs.Cells.{empty_cell, code_of, action_of, move_of, number_in, action_in, move_in, ActionColumn, under_token, under_end, SlrClaims, claims_action, claims_move, SlrHolds, only, unclaimed, SlrTableOf}
use Rattle.slr.proofs.Items.{along_before, advances_known}
use Rattle.slr.proofs.Codes.{below_true, below_false, Coded, coded_shift, coded_reduce, coded_accept, code_action, code_move}

module _ {g : Grammar} where
  column_inside : {c : Column} {n : ℕ} → ActionColumn g c n → n < columns_of g
  column_inside (under_token h) = omega arith
  column_inside under_end = omega arith

  -- not a nonterminal's column
  column_low : {c : Column} {n : ℕ} → ActionColumn g c n → n ≤ g.tokens
  column_low (under_token h) = omega arith
  column_low under_end = omega arith

  column_one : {c d : Column} {n m : ℕ} → ActionColumn g c n → ActionColumn g d m → n ≡ m → c ≡ d
  column_one (under_token h) (under_token k) e = ap token e
  column_one (under_token h) under_end e = absurd (omega arith)
  column_one under_end (under_token k) e = absurd (omega arith)
  column_one under_end under_end e = refl

module _ {g : Grammar} where
  token_below : {t : ℕ} → Known g (Token t) → t < g.tokens
  token_below (known_token h) = h

  nonterminal_below : {A : ℕ} → Known g (Nonterminal A) → A < g.nonterminals
  nonterminal_below (known_nonterminal h) = h

module _ {g : Grammar} (well : WellFormed g) where
  -- what leads somewhere is a symbol of the grammar
  leads_known : {paths : List Form} {s j : ℕ} {x : Symbol} → LeadsTo g paths s x j → Known g x
  leads_known {x = x} l =
      advances_known well (along_before g l.from x l.goes.item l.goes.inside).1.advances

  -- what follows a nonterminal is a token of the grammar or the end mark
  follow_column : {A : ℕ} {c : Column} → Follow g A (column c) → (n : ℕ) × ActionColumn g c n
  follow_column {A} (before {t = t} u v s) =
      (t, under_token (go (every_right u (Nonterminal A ∷ Token t ∷ v) (sentential_known well s))))
    where
      go : Every (Known g) (Nonterminal A ∷ Token t ∷ v) → t < g.tokens
      go (each a (each b rest)) = token_below b
  follow_column (last u s) = (g.tokens, under_end)

  acts_column : {paths : List Form} {s : ℕ} {c : Column} {a : Action}
      → Acts g paths s c a
      → (n : ℕ) × ActionColumn g c n
  acts_column (shifts {t = t} l) = (t, under_token (token_below (leads_known l)))
  acts_column (reduces r h f) = follow_column f
  acts_column (accepts h) = (g.tokens, under_end)

module _ {g : Grammar} {paths : List Form} where
  acts_inside : {s : ℕ} {c : Column} {a : Action} → Acts g paths s c a → s < length paths
  acts_inside {s} (shifts l) = inside paths s l.at
  acts_inside {s} (reduces r h f) = inside paths s h.at
  acts_inside {s} (accepts h) = inside paths s h.at

  module _ (few : length paths ≤ 512) (short : length g.productions ≤ 511) where
    acts_coded : {s : ℕ} {c : Column} {a : Action} → Acts g paths s c a → Coded a
    acts_coded (shifts {j = j} l) = let h : j < 512 = omega (arith, inside paths j l.there) in coded_shift h
    acts_coded (reduces {p = p} r h f) = let h : p < 511 = omega (arith, below_rule r) in coded_reduce h
    acts_coded (accepts h) = coded_accept

  -- an action or a move of state s claims the cell of its row and column
  claim_action : {s n : ℕ} {c : Column} {a : Action}
      → ActionColumn g c n
      → Acts g paths s c a
      → SlrClaims g paths (s * columns_of g + n) (code_of a)
  claim_action {s} {n} {c} {a} col acts =
      let col' : ActionColumn g c ((s * columns_of g + n) % columns_of g) = rw (digits_mod s (column_inside col)) col in
      let acts' : Acts g paths ((s * columns_of g + n) / columns_of g) c a = rw (digits_div s (column_inside col)) acts in
      claims_action col' acts'

  claim_move : {s A j : ℕ}
      → A < g.nonterminals
      → LeadsTo g paths s (Nonterminal A) j
      → SlrClaims g paths (s * columns_of g + (g.tokens + 1 + A)) j
  claim_move {s} {A} {j} h l =
      let fits : g.tokens + 1 + A < columns_of g = omega arith in
      let l' : LeadsTo g paths ((s * columns_of g + (g.tokens + 1 + A)) / columns_of g) (Nonterminal A) j =
      rw (digits_div s fits) l in
      claims_move (digits_mod s fits) l'

  module _ {table : List ℕ} (made : SlrTableOf g paths table) where
    -- a claim stands in its cell
    claimed : {i v : ℕ} → i < length table → SlrClaims g paths i v → get_or table i empty_cell ≡ v
    claimed {i} {v} h k = go (made.holds i h) refl
      where
        go : {u : ℕ} → SlrHolds g paths i u → get_or table i empty_cell ≡ u → get_or table i empty_cell ≡ v
        go (only c one) e = e ∙ sym (one v k)
        go (unclaimed none_claims) e = absurd (none_claims v k)

    -- and a cell that is not empty is a claim
    holds_claim : {i v : ℕ} → i < length table → get_or table i empty_cell ≡ v → v ≢ empty_cell → SlrClaims g paths i v
    holds_claim {i} {v} h e some_number = go (made.holds i h) e
      where
        go : {u : ℕ} → SlrHolds g paths i u → u ≡ v → SlrClaims g paths i v
        go (only c one) f = subst (SlrClaims g paths i) f c
        go (unclaimed none_claims) f = absurd (some_number (sym f))

    -- the cells of a row are cells of the table, and past the rows there are none
    cell_inside : {s n : ℕ} → s < length paths → n < columns_of g → s * columns_of g + n < length table
    cell_inside h k = omega (arith, made.sized, digits_lt h k, mul_comm (columns_of g) (length paths))

    cell_outside : (s n : ℕ) → length paths ≤ s → length table ≤ s * columns_of g + n
    cell_outside s n h = omega (arith, made.sized, mul-le-mul_left (columns_of g) h, mul_comm (columns_of g) s)

module _ (g : Grammar) (table : List ℕ) where
  action_number : (s : ℕ) {c : Column} {n : ℕ}
      → ActionColumn g c n
      → action_in g table s c ≡ action_of (number_in g table s n)
  unfolding action_in
  action_number s (under_token h) = rw (below_true h, action_in)
  action_number s under_end = refl

  action_column : (s : ℕ) (c : Column) {a : Action} → action_in g table s c ≡ some a → (n : ℕ) × ActionColumn g c n
  unfolding action_in
  action_column s (token t) {a} e = go (dec_lt t g.tokens)
    where
      go : Dec (t < g.tokens) → (n : ℕ) × ActionColumn g (token t) n
      go (yes h) = (t, under_token h)
      go (no h) =
          let past : g.tokens ≤ t = omega arith in
          let nothing : action_in g table s (token t) ≡ none = rw (below_false past, action_in) in
          absurd (none-ne-some a (sym nothing ∙ e))
  action_column s endmark e = (g.tokens, under_end)

  move_number : (s A : ℕ) → A < g.nonterminals → move_in g table s A ≡ move_of (number_in g table s (g.tokens + 1 + A))
  unfolding move_in
  move_number s A h = rw (below_true h, move_in)

  move_column : (s A : ℕ) {j : ℕ} → move_in g table s A ≡ some j → A < g.nonterminals
  unfolding move_in
  move_column s A {j} e = go (dec_lt A g.nonterminals)
    where
      go : Dec (A < g.nonterminals) → A < g.nonterminals
      go (yes h) = h
      go (no h) =
          let past : g.nonterminals ≤ A = omega arith in
          let nothing : move_in g table s A ≡ none = rw (below_false past, move_in) in
          absurd (none-ne-some j (sym nothing ∙ e))

action_filled : {v : ℕ} {a : Action} → action_of v ≡ some a → v ≢ empty_cell
unfolding action_of
action_filled {a = a} e f = none-ne-some a (rw f at e)

move_filled : {v j : ℕ} → move_of v ≡ some j → v ≢ empty_cell
unfolding move_of
move_filled {j = j} e f = none-ne-some j (rw f at e)

module _ {g : Grammar} (well : WellFormed g) {paths : List Form} (few : length paths ≤ 512)
    (short : length g.productions ≤ 511) {table : List ℕ} (made : SlrTableOf g paths table) where
  -- a cell that is filled is of a row
  row_filled : (s n : ℕ) → number_in g table s n ≢ empty_cell → s < length paths
  row_filled s n filled = go (dec_lt s (length paths))
    where
      go : Dec (s < length paths) → s < length paths
      go (yes h) = h
      go (no h) = absurd (filled (get_or-eq_default table empty_cell (cell_outside made s n (omega arith))))

  claims_acts : {s n v : ℕ} {c : Column} {a : Action}
      → ActionColumn g c n
      → SlrClaims g paths (s * columns_of g + n) v
      → action_of v ≡ some a
      → Acts g paths s c a
  claims_acts {s} {n} {c = c} {a} col (claims_action {c = d} {a = b} col' acts) e =
      let same : b ≡ a = some-injective b a (sym (code_action (acts_coded few short acts)) ∙ e) in
      let here : d ≡ c = column_one col' col (digits_mod s (column_inside col)) in
      rw (digits_div s (column_inside col), here, same) at acts
  claims_acts {s} {n} col (claims_move f l) e = absurd (omega (arith, digits_mod s (column_inside col), column_low col))

  action_acts : {s : ℕ} {c : Column} {a : Action} → action_in g table s c ≡ some a → Acts g paths s c a
  action_acts {s} {c} {a} e =
      let (n, col) = action_column g table s c e in
      let number : action_of (number_in g table s n) ≡ some a = sym (action_number g table s col) ∙ e in
      let filled : number_in g table s n ≢ empty_cell = action_filled number in
      claims_acts col
      (holds_claim made (cell_inside made (row_filled s n filled) (column_inside col)) refl filled) number

  acts_action : {s : ℕ} {c : Column} {a : Action} → Acts g paths s c a → action_in g table s c ≡ some a
  acts_action {s} {c} {a} acts =
      let (n, col) = acts_column well acts in
      let held : number_in g table s n ≡ code_of a =
      claimed made (cell_inside made (acts_inside acts) (column_inside col)) (claim_action col acts) in
      action_number g table s col ∙ ap action_of held ∙ code_action (acts_coded few short acts)

  claims_leads : {s A v j : ℕ}
      → A < g.nonterminals
      → SlrClaims g paths (s * columns_of g + (g.tokens + 1 + A)) v
      → move_of v ≡ some j
      → LeadsTo g paths s (Nonterminal A) j
  claims_leads {s} {A} h (claims_action col acts) e =
      absurd (omega (arith, digits_mod s {m = columns_of g} {r = g.tokens + 1 + A} (omega arith), column_low col))
  claims_leads {s} {A} {j = j} h (claims_move {A = B} {j = i} f l) e =
      let fits : g.tokens + 1 + A < columns_of g = omega arith in
      let left : B ≡ A = omega (arith, digits_mod s fits) in
      let low : i < 512 = omega (arith, inside paths i l.there) in
      let same : i ≡ j = some-injective i j (sym (code_move low) ∙ e) in
      rw (digits_div s fits, left, same) at l

  move_leads : {s A j : ℕ} → move_in g table s A ≡ some j → LeadsTo g paths s (Nonterminal A) j
  move_leads {s} {A} {j} e =
      let h : A < g.nonterminals = move_column g table s A e in
      let number : move_of (number_in g table s (g.tokens + 1 + A)) ≡ some j = sym (move_number g table s A h) ∙ e in
      let filled : number_in g table s (g.tokens + 1 + A) ≢ empty_cell = move_filled number in
      let fits : g.tokens + 1 + A < columns_of g = omega arith in
      claims_leads h
      (holds_claim made (cell_inside made (row_filled s (g.tokens + 1 + A) filled) fits) refl filled) number

  leads_move : {s A j : ℕ} → LeadsTo g paths s (Nonterminal A) j → move_in g table s A ≡ some j
  leads_move {s} {A} {j} l =
      let h : A < g.nonterminals = nonterminal_below (leads_known well l) in
      let fits : g.tokens + 1 + A < columns_of g = omega arith in
      let held : number_in g table s (g.tokens + 1 + A) ≡ j =
      claimed made (cell_inside made (inside paths s l.at) fits) (claim_move h l) in
      move_number g table s A h ∙ ap move_of held ∙ code_move (omega (arith, inside paths j l.there))

  -- what the table says is exact
  pub table_exact : ExactActions g paths (action_in g table) (move_in g table)
  table_exact = record { cells = λ s c a. (action_acts, acts_action); moves = λ s A j. (move_leads, leads_move) }
