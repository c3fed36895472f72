-- The cells of the table: which production claims which, by the bit of its lookahead; a conflict is some cell with two claimants;
-- and a table built without conflict has exact cells.
use mathlib.Core.Path.{◌≡◌, sym, ap, ◌∙◌, subst₂}
use mathlib.Core.Bool.{true}
use mathlib.Core.Logic.{◌↔◌}
use mathlib.Core.List.{List}
use mathlib.Core.Option.{none}
use Prim.Native.Nat.{ℕ, ◌+◌, ◌*◌, ◌%◌, ◌≤◌, ◌<◌}
use native.Mathlib.Decide.{dec_lt}
use native.Mathlib.Nat.{div-lt_iff_lt-mul}
use native.Mathlib.Omega.{arith}
use borrow.Author.Tests.{lt-ltb, le-ltb}
use lib.Arith.{digits_lt, digits_div, digits_mod}
use lib.ListN.{get_or}
use Rattle.grammar.specs.Grammar.{Form, Grammar, Column, token, endmark, column, Rule, Lookahead, Claims, Conflict, Cell, vacant}
use Rattle.grammar.specs.Machine.{Exact}
use Rattle.grammar.proofs.Leftmost.{rule_same}
use Rattle.grammar.proofs.Sets.{lookahead_not_empty}
use Rattle.sets.specs.Sets.{end_mark, member, column_place}
use Rattle.reader.specs.Book.{Limits}
use Rattle.reader.proofs.Promise.{read_limits}
use Rattle.first.specs.Numbers.{place_of, IsSet}
use Rattle.table.specs.Table.{size, column_of, row_at, column_at, ClaimsCell, held, TableOf, BuiltWithoutConflict, cell_of, ContestedCell}
use Rattle.first.proofs.Promise.{Proper, below, the_end_mark, proper_token, lookahead_proper, claims_row, claims_proper}
use Rattle.first.proofs.Promise.{Reason, at_column}

-- the number of a column: column T is the end mark
pub column_number : Grammar → Column → ℕ
column_number g (token t) = t
column_number g endmark = g.tokens

module _ (g : Grammar) where
  pub column_token : {j : ℕ} → j < g.tokens → column_of g j ≡ token j
  unfolding column_of
  column_token {j} h = rw (lt-ltb j g.tokens h, column_of)

  pub column_end : {j : ℕ} → g.tokens ≤ j → column_of g j ≡ endmark
  unfolding column_of
  column_end {j} h = rw (le-ltb j g.tokens h, column_of)

  -- the bit of a column in a lookahead's number
  pub column_place_lem : (j : ℕ) → place_of (column (column_of g j)) ≡ column_place j g.tokens
  column_place_lem j = go (dec_lt j g.tokens)
    where
      go : Dec (j < g.tokens) → place_of (column (column_of g j)) ≡ column_place j g.tokens
      go (yes h) = rw (column_token h, lt-ltb j g.tokens h)
      go (no n) = let h : g.tokens ≤ j = omega arith in rw (column_end h, le-ltb j g.tokens h)

  pub column_below : {c : Column} → Proper g c → column_number g c < g.tokens + 1
  unfolding column_number
  column_below (below h) = omega arith
  column_below the_end_mark = omega arith

  pub column_numbered : {c : Column} → Proper g c → column_of g (column_number g c) ≡ c
  unfolding column_number
  column_numbered (below h) = column_token h
  column_numbered the_end_mark = column_end (omega arith)

  -- the cell of row A and column c
  pub cell_number : ℕ → Column → ℕ
  cell_number A c = A * (g.tokens + 1) + column_number g c

  module _ (A : ℕ) {c : Column} (proper : Proper g c) where
    pub row_numbered : row_at g (cell_number A c) ≡ A
    unfolding cell_number
    row_numbered = digits_div A (column_below proper)

    pub column_at_numbered : column_at g (cell_number A c) ≡ c
    unfolding cell_number
    column_at_numbered = ap (column_of g) (digits_mod A (column_below proper)) ∙ column_numbered proper

    pub cell_inside : A < g.nonterminals → cell_number A c < size g
    unfolding cell_number
    cell_inside a = digits_lt a (column_below proper)

    pub cell_claimed : {p : ℕ} → Claims g A c p → ClaimsCell g (cell_number A c) p
    cell_claimed {p} k = subst₂ (λ (B : ℕ) (d : Column). Claims g B d p) (sym row_numbered) (sym column_at_numbered) k

  pub row_inside : {i : ℕ} → i < size g → row_at g i < g.nonterminals
  row_inside h = (div-lt_iff_lt-mul {k = g.tokens + 1} (omega arith)).1 h

module _ {g : Grammar} (limits : Limits g) where
  column_determined : {c : Column} → Proper g c → (j : ℕ) → place_of (column c) ≡ column_place j g.tokens → column_of g j ≡ c
  column_determined {c} proper j e = go proper e (dec_lt j g.tokens)
    where
      go : {c : Column} → Proper g c → place_of (column c) ≡ column_place j g.tokens → Dec (j < g.tokens) → column_of g j ≡ c
      go (below {t = t} h) e (yes l) = column_token g l ∙ ap token (sym (rw (lt-ltb j g.tokens l) at e))
      go (below {t = t} h) e (no n) = let far : g.tokens ≤ j = omega arith in let at_end : t ≡ end_mark = rw (le-ltb j g.tokens far) at e in absurd (omega (arith, limits.tokens_fit))
      go the_end_mark e (yes l) = let same : end_mark ≡ j = rw (lt-ltb j g.tokens l) at e in absurd (omega (arith, limits.tokens_fit))
      go the_end_mark e (no n) = column_end g (omega arith)

  -- a production claims a cell exactly if it is of the cell's row, and its lookahead's number has the bit of the cell's column
  pub claims_exactly : {p A : ℕ} {α : Form} {x : ℕ} → Rule g p A α → IsSet x (Lookahead g A α) → (i : ℕ)
      → ClaimsCell g i p ↔ ((A ≡ row_at g i) × (member (column_place (i % (g.tokens + 1)) g.tokens) x ≡ true))
  claims_exactly {p} {A} {α} {x} rule set i = (claimed, λ h. claims h.0 (at_column (Lookahead g A α) lookahead_not_empty (set.sound _ h.1)))
    where
      j : ℕ
      j = i % (g.tokens + 1)

      claimed : ClaimsCell g i p → (A ≡ row_at g i) × (member (column_place j g.tokens) x ≡ true)
      claimed k =
          let (row, right) = rule_same rule k.rule in
          let ahead : Lookahead g A α (column (column_at g i)) = subst₂ (λ (B : ℕ) (β : Form). Lookahead g B β (column (column_at g i))) (sym row) (sym right) k.ahead in
          (row, set.complete _ (record { member = column (column_at g i); place = column_place_lem g j; in_set = ahead }))

      claims : A ≡ row_at g i → Reason column (λ c. Lookahead g A α (column c)) (column_place j g.tokens) → ClaimsCell g i p
      claims row r =
          let same : column_at g i ≡ r.column = column_determined (lookahead_proper limits.well_formed rule r.column r.holds) j r.place in
          subst₂ (λ (B : ℕ) (c : Column). Claims g B c p) row (sym same) (record { right = α; rule = rule; ahead = r.holds })

  -- a conflict is a cell with two claimants
  pub conflict_cell : Conflict g ↔ ContestedCell g
  conflict_cell = (contested, λ k. record { row = row_at g k.cell; col = column_at g k.cell; one = k.one; other = k.other; distinct = k.distinct; claims_one = k.claims_one; claims_other = k.claims_other })
    where
      contested : Conflict g → ContestedCell g
      contested k =
          let proper : Proper g k.col = claims_proper limits.well_formed k.claims_one in
          record {
            cell = cell_number g k.row k.col;
            inside = cell_inside g k.row proper (claims_row limits.well_formed k.claims_one);
            one = k.one;
            other = k.other;
            distinct = k.distinct;
            claims_one = cell_claimed g k.row proper k.claims_one;
            claims_other = cell_claimed g k.row proper k.claims_other;
          }

  module _ (table : List ℕ) where
    -- a cell of the table, by its number
    pub cell_there : {A : ℕ} {c : Column} → A < g.nonterminals → Proper g c → cell_of g table A c ≡ held (get_or table (cell_number g A c) 255)
    unfolding cell_of cell_number column_number
    cell_there {A} a (below {t = t} h) = rw (lt-ltb A g.nonterminals a, lt-ltb t g.tokens h, cell_of)
    cell_there {A} a the_end_mark = rw (lt-ltb A g.nonterminals a, cell_of)

    cell_outside : {A : ℕ} (c : Column) → g.nonterminals ≤ A → cell_of g table A c ≡ none
    unfolding cell_of
    cell_outside {A} (token t) a = rw (le-ltb A g.nonterminals a, cell_of)
    cell_outside {A} endmark a = rw (le-ltb A g.nonterminals a, cell_of)

    cell_strange : {A t : ℕ} → A < g.nonterminals → g.tokens ≤ t → cell_of g table A (token t) ≡ none
    unfolding cell_of
    cell_strange {A} {t} a h = rw (lt-ltb A g.nonterminals a, le-ltb t g.tokens h, cell_of)

    -- the table's cells are exact, over all rows and columns
    pub table_exact : TableOf g table → Exact g (cell_of g table)
    table_exact built = record { cells = cells }
      where
        inside : (A : ℕ) {c : Column} → A < g.nonterminals → Proper g c → Cell g A c (cell_of g table A c)
        inside A {c} a proper =
            let there : Cell g (row_at g (cell_number g A c)) (column_at g (cell_number g A c)) (held (get_or table (cell_number g A c) 255)) = built.cells (cell_number g A c) (cell_inside g A proper a) in
            rw (cell_there a proper) (subst₂ (λ (B : ℕ) (d : Column). Cell g B d (held (get_or table (cell_number g A c) 255))) (row_numbered g A proper) (column_at_numbered g A proper) there)

        by_column : (A : ℕ) (c : Column) → A < g.nonterminals → Cell g A c (cell_of g table A c)
        by_column A (token t) a = known (dec_lt t g.tokens)
          where
            known : Dec (t < g.tokens) → Cell g A (token t) (cell_of g table A (token t))
            known (yes h) = inside A a (below h)
            known (no n) = rw (cell_strange {A = A} {t = t} a (omega arith)) (vacant (λ q k. n (proper_token (claims_proper limits.well_formed k))))
        by_column A endmark a = inside A a the_end_mark

        cells : (A : ℕ) (c : Column) → Cell g A c (cell_of g table A c)
        cells A c = row (dec_lt A g.nonterminals)
          where
            row : Dec (A < g.nonterminals) → Cell g A c (cell_of g table A c)
            row (yes a) = by_column A c a
            row (no n) = rw (cell_outside {A = A} c (omega arith)) (vacant (λ q k. n (claims_row limits.well_formed k)))

-- a table built without conflict gives the machine exact cells
pub built_exact : {book table : List ℕ} (b : BuiltWithoutConflict book table) → Exact b.grammar (cell_of b.grammar table)
built_exact {book} {table} b = table_exact (read_limits book b.serves.read) table b.built
