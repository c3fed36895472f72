-- The heads entered so far, and the table that they make once every production is entered.
use mathlib.Core.Path.{◌≡◌, refl, sym, ◌∙◌, ap, subst, subst₂}
use mathlib.Core.Logic.{◌≢◌}
use mathlib.Core.List.{List, ◌∷◌}
use mathlib.Core.Option.{Option, some, none}
use Prim.Native.Nat.{ℕ, ◌+◌, ◌*◌, ◌%◌, ◌^◌, ◌≤◌, ◌<◌}
use native.Mathlib.Decide.{dec_lt, ℕ_discrete}
use native.Mathlib.Nat.{div-add-mod'}
use native.Mathlib.Omega.{arith}
use borrow.Author.Tests.{lt-ltb, le-ltb}
use lib.Arith.{digits_lt, digits_div, digits_mod}
use lib.ListN.{length, get_or, set, length-set}
use lib.Seq.{get_or-set_same, get_or-set_other}
use Rattle.grammar.specs.declared.Symbol.TheVariants.{Token}
use Rattle.grammar.specs.Grammar.{Form, Grammar, Column, token, endmark, Rule, Cell, Every, each, Known, known_token}
use Rattle.grammar.specs.Plain.{Plain}
use Rattle.grammar.proofs.Leftmost.{rule_same}
use Rattle.grammar.proofs.Theorems.{plain_iff, plain_cell, plain_vacant, plain_end}
use Rattle.reader.specs.Book.{Limits}
use Rattle.book.specs.declared.columns.Outline.{Outline}
use Rattle.book.specs.Columns.{outlined}
use Rattle.book.proofs.Promise.{outlined_sized}
use Rattle.table.specs.Table.{size, column_of, row_at, column_at, held, TableOf}
use Rattle.table.specs.Vacancy.{Vacancy}
use Rattle.table.proofs.Promise.{get_d_inside, held_vacant, held_filled, row_fits}
use Rattle.profile.specs.Entering.{Enterable}
use Rattle.profile.proofs.Starts.{left_in, head_in, rule_inside, kept_token}

-- production p starts with the token of cell i, in its row
pub record StartsAt (g : Grammar) (i p : ℕ) : Type 0 where
  pub row : ℕ
  pub head : ℕ
  pub rest : Form
  pub rule : Rule g p row (Token head ∷ rest)
  pub cell : i ≡ row * (g.tokens + 1) + head

-- the byte of a cell once the productions below n are entered
pub data HeldBelow (g : Grammar) (n i : ℕ) : ℕ → Type 0 where
  entered : {p : ℕ} → p < n → StartsAt g i p → HeldBelow g n i p
  blank : ((p : ℕ) → p < n → ¬ StartsAt g i p) → HeldBelow g n i 255

pub record Entered (g : Grammar) (n : ℕ) (cells : List ℕ) : Type 0 where
  pub sized : length cells ≡ size g
  pub held_below : (i : ℕ) → i < size g → HeldBelow g n i (get_or cells i 0)

-- a production starts in one cell
starts_once : {g : Grammar} {i j p : ℕ} → StartsAt g i p → StartsAt g j p → i ≡ j
starts_once {g} a b =
    let (row, right) = rule_same a.rule b.rule in
    let head : a.head ≡ b.head = cc in
    a.cell ∙ rw (row, head, b.cell)

module _ (g : Grammar) where
  column_token : {j : ℕ} → j < g.tokens → column_of g j ≡ token j
  unfolding column_of
  column_token {j} h = rw (lt-ltb j g.tokens h, column_of)

  column_end : {j : ℕ} → g.tokens ≤ j → column_of g j ≡ endmark
  unfolding column_of
  column_end {j} h = rw (le-ltb j g.tokens h, column_of)

module _ {g : Grammar} where
  -- none is entered yet
  pub entered_none : {cells : List ℕ} → Vacancy (size g) cells → Entered g 0 cells
  entered_none {cells} vacant =
      record {
        sized = vacant.sized;
        held_below = λ i h. rw (vacant.blank i h) (blank (λ p below. absurd (omega arith)));
      }

  -- one production more
  pub entered_turn : {n i : ℕ} (cells : List ℕ) → Entered g n cells → i < size g → StartsAt g i n → Entered g (n + 1) (set cells i n)
  entered_turn {n} {i} cells so_far inside starts =
      record { sized = length-set cells i n ∙ so_far.sized; held_below = λ j h. at j h (ℕ_discrete j i) }
    where
      later : {j byte : ℕ} → j ≢ i → HeldBelow g n j byte → HeldBelow g (n + 1) j byte
      later other (entered {p = p} below s) = entered {p = p} (omega arith) s
      later {j} other (blank nothing) = blank (λ p below s. go p below s (dec_lt p n))
        where
          go : (p : ℕ) → p < n + 1 → StartsAt g j p → Dec (p < n) → ⊥
          go p below s (yes h) = nothing p h s
          go p below s (no h) = let same : p ≡ n = omega arith in other (starts_once s (subst (λ (q : ℕ). StartsAt g i q) (sym same) starts))

      at : (j : ℕ) → j < size g → Dec (j ≡ i) → HeldBelow g (n + 1) j (get_or (set cells i n) j 0)
      at j h (yes same) =
          let here : HeldBelow g (n + 1) i n = entered {p = n} (omega arith) starts in
          rw (same, get_or-set_same cells i n 0 (omega (arith, so_far.sized))) here
      at j h (no other) = rw (get_or-set_other cells i j n 0 other) (later other (so_far.held_below j h))

  module _ (plain : Plain g) (limits : Limits g) where
    head_known : {p A t : ℕ} {γ : Form} → Rule g p A (Token t ∷ γ) → t < g.tokens
    head_known rule = go (limits.well_formed.right_known rule)
      where
        first : {t : ℕ} → Known g (Token t) → t < g.tokens
        first (known_token h) = h

        go : {t : ℕ} {γ : Form} → Every (Known g) (Token t ∷ γ) → t < g.tokens
        go (each k rest) = first k

    -- the cell in which a production starts lies in the table
    pub starts_inside : {i p : ℕ} → StartsAt g i p → i < size g
    starts_inside s = rw s.cell (digits_lt (limits.well_formed.left_known s.rule) (omega (arith, head_known s.rule)))

    filled_cell : {i p : ℕ} → StartsAt g i p → Cell g (row_at g i) (column_at g i) (some p)
    filled_cell {i} {p} s =
        let low = head_known s.rule in
        let row : row_at g i ≡ s.row = rw s.cell (digits_div s.row (omega arith)) in
        let column : column_at g i ≡ token s.head = rw s.cell (ap (column_of g) (digits_mod s.row (omega arith)) ∙ column_token g low) in
        subst₂ (λ (A : ℕ) (c : Column). Cell g A c (some p)) (sym row) (sym column) (plain_cell plain s.rule)

    vacant_cell : {i : ℕ} → ((p : ℕ) → ¬ StartsAt g i p) → Cell g (row_at g i) (column_at g i) none
    vacant_cell {i} nothing = go (dec_lt (i % (g.tokens + 1)) g.tokens)
      where
        go : Dec (i % (g.tokens + 1) < g.tokens) → Cell g (row_at g i) (column_at g i) none
        go (yes h) =
            subst (λ (c : Column). Cell g (row_at g i) c none) (sym (column_token g h))
            (plain_vacant plain (λ p γ rule. nothing p (record { row = row_at g i; head = i % (g.tokens + 1); rest = γ; rule = rule; cell = sym (div-add-mod' i (g.tokens + 1)) })))
        go (no n) = subst (λ (c : Column). Cell g (row_at g i) c none) (sym (column_end g (omega arith))) (plain_end plain)

    -- all are entered
    pub entered_table : {n : ℕ} {cells : List ℕ} → n ≤ 255 → ((p A : ℕ) (β : Form) → Rule g p A β → p < n) → Entered g n cells → TableOf g cells
    entered_table {n} {cells} few numbered all =
        record {
          sized = all.sized;
          cells = λ i h. rw (get_d_inside cells i 255 0 (omega (arith, all.sized))) (cell i (all.held_below i h));
        }
      where
        cell : (i : ℕ) {byte : ℕ} → HeldBelow g n i byte → Cell g (row_at g i) (column_at g i) (held byte)
        cell i (entered {p = p} below s) =
            subst (λ (o : Option ℕ). Cell g (row_at g i) (column_at g i) o) (sym (held_filled {p = p} refl (λ e. omega arith))) (filled_cell s)
        cell i (blank nothing) =
            subst (λ (o : Option ℕ). Cell g (row_at g i) (column_at g i) o) (sym (held_vacant {p = 255} refl refl)) (vacant_cell (λ p s. nothing p (numbered p s.row (Token s.head ∷ s.rest) s.rule) s))

-- the number of a cell fits, whatever the bytes are
pub cell_small : (row tokens head : ℕ) → row < 256 → tokens < 256 → head < 256 → row * (tokens + 1) + head < 2 ^ 64
cell_small row tokens head a b c = omega (arith, row_fits row tokens a b)

-- where a production of an indexed book starts, by the bytes of its record
module _ (book places : List ℕ) (o : Outline) where
  abbrev pub cell_in : ℕ → ℕ
  cell_in p = left_in book places o p * (o.tokens + 1) + head_in book places o p

  module _ {before : List ℕ} (e : Enterable (outlined book places o) before) where
    pub head_starts : {p : ℕ} → p < o.productions → StartsAt (outlined book places o) (cell_in p) p
    head_starts {p} inside =
        let (γ, rule) = kept_token book places o inside (plain_iff.0 e.plain p) in
        record {
          row = left_in book places o p;
          head = head_in book places o p;
          rest = γ;
          rule = rule;
          cell = rw (outlined_sized book places o).tokens;
        }

    pub head_inside : {p : ℕ} {cells : List ℕ} → p < o.productions → Entered (outlined book places o) p cells → cell_in p < length cells
    head_inside inside so_far = omega (arith, so_far.sized, starts_inside e.plain e.limits (head_starts inside))

    pub head_entered : {p : ℕ} {cells : List ℕ} → p < o.productions → Entered (outlined book places o) p cells → Entered (outlined book places o) (p + 1) (set cells (cell_in p) p)
    head_entered {cells = cells} inside so_far =
        entered_turn cells so_far (starts_inside e.plain e.limits (head_starts inside)) (head_starts inside)

    pub heads_table : {n : ℕ} {cells : List ℕ} → n ≡ o.productions → n < 256 → Entered (outlined book places o) n cells → TableOf (outlined book places o) cells
    heads_table same few all =
        entered_table e.plain e.limits (omega arith) (λ p A β rule. omega (arith, rule_inside book places o rule)) all
