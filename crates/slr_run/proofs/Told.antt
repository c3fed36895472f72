-- What a checked table says, and the machine's next turn by it.
use mathlib.Core.Path.{◌≡◌, sym, ◌∙◌, ap, subst}
use mathlib.Core.Logic.{◌≢◌, ∥∥₁_elim}
use mathlib.Core.HLevel.{×_prop}
use native.Mathlib.Bridge.{le_prop}
use denote.Struct.Props.{props}
use mathlib.Core.List.{List, ◌∷◌}
use mathlib.Core.Option.{some}
use Prim.Native.Nat.{ℕ, ◌+◌, ◌-◌, ◌*◌, ◌≤◌, ◌<◌}
use native.Mathlib.Decide.{dec_lt}
use native.Mathlib.Omega.{arith}
use borrow.Author.Tests.{lt-ltb, le-ltb, ne_eqb}
use lib.Arith.{digits_lt}
use lib.ListN.{length, get_or, drop}
use Rattle.grammar.specs.Grammar.{token, endmark}
use Rattle.book.specs.declared.columns.Outline.{Outline}
use Rattle.slr.specs.Actions.{shift, reduce}
use Rattle.slr.specs.Cells.{code_of, action_of, move_of, action_in, move_in}
use Rattle.slr.proofs.Promise.{coded_shift, coded_reduce, code_action}
use Rattle.slr_run.specs.Fitting.{NumberFits, empty, shifts, reduces, accepts, moves}
use Rattle.slr_run.specs.Checking.{columns_in, rows_of}
use Rattle.slr_run.specs.Stages.{numbers_of, setting_by, column_at, number_at, held_by, Held}
use Rattle.slr_run.specs.Machines.{machine_rows, machine_setting}
use Rattle.slr_run.specs.declared.reading.Machine.{Machine}
use Rattle.slr_run.specs.Deciding.{Turns, Reduction}
use Rattle.slr_run.specs.declared.Cause.TheVariants.{FullList, FullStack, Wants}
use Rattle.slr_run.specs.declared.Ending.TheVariants.{Shift, Accept, Stop}
use Rattle.slr_run.specs.declared.Turn.TheVariants.{Reduce, Finish}
use Rattle.slr_run.specs.declared.Turn.{Turn}
use Rattle.slr_run.specs.declared.Stage.{Stage}
use Rattle.slr_run.proofs.Held.{length_held, held_none, held_more, held_top, drop_held}

-- what a machine's ghost field says, of which there is one proof at most
module _ (b : Machine) where
  sized : length b.table.now ≡ machine_rows b * columns_in b.outline
  sized = ∥∥₁_elim b.grounded (search props) (λ x. x.sized)

  pub some_row : 1 ≤ machine_rows b
  some_row = ∥∥₁_elim b.grounded (search props) (λ x. x.some)

  pub few_rows : machine_rows b ≤ 256
  few_rows = ∥∥₁_elim b.grounded (search props) (λ x. x.few)

  left_known : (p : ℕ) → p < b.outline.productions → get_or b.lefts p 0 < b.outline.nonterminals
  left_known p h = ∥∥₁_elim b.grounded (search props) (λ x. x.lefts_known p h)

  -- the column of a left side
  pub left_inside : {p : ℕ} → p < b.outline.productions → b.outline.tokens + 1 + get_or b.lefts p 0 < columns_in b.outline
  left_inside {p} known = omega (arith, left_known p known)

  -- what follows from how the number in a cell fits
  by_fit : {X : Type 0}
      → IsProp X
      → (state column : ℕ)
      → state < machine_rows b
      → column < columns_in b.outline
      → (NumberFits b.outline.tokens b.outline.productions (machine_rows b) column (number_at b.outline b.table.now state column) → X)
      → X
  by_fit one state column row col f = ∥∥₁_elim b.grounded one (λ x. f (x.fits state column row col))

  -- the cell of a row and a column lies in the table
  pub cell_inside : {state column columns : ℕ}
      → columns ≡ columns_in b.outline
      → state < machine_rows b
      → column < columns_in b.outline
      → state * columns + column < length b.table.now
  cell_inside {state} {column} wide row col =
      let inside : state * columns_in b.outline + column < machine_rows b * columns_in b.outline = digits_lt row col in rw wide (omega (arith, sized))

-- column T is the end mark, and a lower one a token
pub under_end : (T column : ℕ) → column ≡ T → column_at T column ≡ endmark
unfolding column_at
under_end T column e = rw (le-ltb column T (omega arith), column_at)

pub under_token : (T column : ℕ) → column < T → column_at T column ≡ token column
unfolding column_at
under_token T column h = rw (lt-ltb column T h, column_at)

-- the state on top is a row
pub top_row : {rows : ℕ} {at : Stage} {stack : List ℕ} → Held rows at stack → at.top < rows
top_row {at = at} held = rw held.top (held.states (at.height - 1) (omega (arith, held.some)))

module _ (b : Machine) {at : Stage} {stack : List ℕ} (held : Held (machine_rows b) at stack) where
  abbrev o : Outline
  o = b.outline

  abbrev table : List ℕ
  table = b.table.now

  abbrev below : List ℕ
  below = held_by stack (at.height - 1)

  module _ {p : ℕ} (known : p < o.productions) where
    abbrev Made : (room cells : ℕ) → Turn → Type 0
    Made room cells = Reduction (machine_setting b room cells) (rows_of o table) p at.top below at.listed

    abbrev left : ℕ
    left = get_or b.lefts p 0

    -- the states that a reduction leaves
    stays : drop (get_or b.lengths p 0) (at.top ∷ below) ≡ held_by stack (at.height - get_or b.lengths p 0)
    stays =
        ap (drop (get_or b.lengths p 0)) (held_top stack at.height held.some held.top)
        ∙ drop_held stack (get_or b.lengths p 0) at.height

    pub reduction_bare : (room cells : ℕ) → at.height ≤ get_or b.lengths p 0 → Made room cells (Finish (Stop Wants))
    unfolding setting_by
    reduction_bare room cells h =
        record { turns = λ c says. Turns.bare says (stays ∙ held_none stack (omega arith)) }

    abbrev base : ℕ
    base = at.height - 1 - get_or b.lengths p 0

    module _ (some_left : get_or b.lengths p 0 < at.height) {to : ℕ}
        (read : to ≡ number_at o table (get_or stack base 0) (o.tokens + 1 + left)) where
      uncovers : drop (get_or b.lengths p 0) (at.top ∷ below) ≡ get_or stack base 0 ∷ held_by stack base
      uncovers = stays ∙ held_more stack base (omega arith)

      moves_by : move_in (numbers_of o) table (get_or stack base 0) left ≡ move_of to
      unfolding move_in
      moves_by = rw (lt-ltb left o.nonterminals (left_known b p known), move_in, read)

      pub reduction_none : (room cells : ℕ) → to ≡ 65535 → Made room cells (Finish (Stop Wants))
      unfolding setting_by move_of
      reduction_none room cells e = record { turns = λ c says. Turns.no_move says uncovers (moves_by ∙ rw e) }

      module _ (filled : to ≢ 65535) where
        pub to_row : to < rows_of o table
        to_row =
            by_fit b (search props) (get_or stack base 0) (o.tokens + 1 + left) (held.states base (omega arith)) (left_inside b known)
            (λ x. go (subst (NumberFits o.tokens o.productions (rows_of o table) (o.tokens + 1 + left)) (sym read) x))
          where
            go : NumberFits o.tokens o.productions (rows_of o table) (o.tokens + 1 + left) to → to < rows_of o table
            go (empty e) = absurd (filled e)
            go (shifts h k) = k
            go (reduces h k e) = absurd (omega arith)
            go (accepts h e) = absurd (omega arith)
            go (moves h k) = k

        moved : move_in (numbers_of o) table (get_or stack base 0) left ≡ some to
        unfolding move_of
        moved = moves_by ∙ rw (ne_eqb to 65535 filled, move_of)

        pub reduction_list_full : (room cells : ℕ) → cells ≤ at.listed → Made room cells (Finish (Stop FullList))
        unfolding setting_by
        reduction_list_full room cells h = record { turns = λ c says. Turns.list_full says uncovers moved h }

        pub reduction_stack_full : (room cells : ℕ) → at.listed < cells → room ≤ base + 1 → Made room cells (Finish (Stop FullStack))
        unfolding setting_by
        reduction_stack_full room cells h k =
            record { turns = λ c says. Turns.stack_full says uncovers moved h (omega (arith, length_held stack base)) }

        pub reduction_made : (room cells : ℕ) → at.listed < cells → base + 1 < room → Made room cells (Reduce p to base)
        unfolding setting_by
        reduction_made room cells h k =
            record {
              turns = λ c says. Turns.reduces says uncovers moved to_row h (omega (arith, length_held stack base)) (length_held stack base);
            }

  module _ {column number : ℕ} (low : column ≤ o.tokens) (is : number ≡ number_at o table at.top column) where
    abbrev Told : (room cells : ℕ) → Turn → Type 0
    Told room cells = Turns (machine_setting b room cells) (rows_of o table) (column_at o.tokens column) at.top below at.listed

    token_says : column < o.tokens → action_in (numbers_of o) table at.top (token column) ≡ action_of number
    unfolding action_in
    token_says h = rw (lt-ltb column o.tokens h, action_in, is)

    end_says : column ≡ o.tokens → action_in (numbers_of o) table at.top endmark ≡ action_of number
    unfolding action_in
    end_says e = rw (is, e)

    says : action_in (numbers_of o) table at.top (column_at o.tokens column) ≡ action_of number
    says = go (dec_lt column o.tokens)
      where
        go : Dec (column < o.tokens) → action_in (numbers_of o) table at.top (column_at o.tokens column) ≡ action_of number
        go (yes h) = ap (action_in (numbers_of o) table at.top) (under_token o.tokens column h) ∙ token_says h
        go (no h) =
            let last : column ≡ o.tokens = omega arith in
            ap (action_in (numbers_of o) table at.top) (under_end o.tokens column last) ∙ end_says last

    abbrev Fits : Type 0
    Fits = NumberFits o.tokens o.productions (rows_of o table) column number

    by_number : {X : Type 0} → IsProp X → (Fits → X) → X
    by_number one f = by_fit b one at.top column (top_row held) (omega arith) (λ x. f (rw is x))

    pub turn_empty : (room cells : ℕ) → number ≡ 65535 → Told room cells (Finish (Stop Wants))
    unfolding setting_by action_of
    turn_empty room cells e = Turns.empty (says ∙ rw e)

    pub turn_accept : (room cells : ℕ) → number ≡ 1023 → Told room cells (Finish Accept)
    unfolding setting_by action_of
    turn_accept room cells e = Turns.accepts (says ∙ rw e) (under_end o.tokens column (by_number (search props) go))
      where
        go : Fits → column ≡ o.tokens
        go (empty f) = absurd (omega arith)
        go (shifts h k) = absurd (omega (arith, few_rows b))
        go (reduces h k f) = absurd (omega (arith, b.few_productions))
        go (accepts h f) = h
        go (moves h k) = absurd (omega arith)

    module _ (small : number < 512) where
      -- under a token, to a row
      pub shift_fits : (column < o.tokens) × (number < rows_of o table)
      shift_fits = by_number (×_prop le_prop le_prop) go
        where
          go : Fits → (column < o.tokens) × (number < rows_of o table)
          go (empty f) = absurd (omega arith)
          go (shifts h k) = (h, k)
          go (reduces h k f) = absurd (omega arith)
          go (accepts h f) = absurd (omega arith)
          go (moves h k) = absurd (omega arith)

      shift_said : action_in (numbers_of o) table at.top (column_at o.tokens column) ≡ some (shift number)
      unfolding code_of
      shift_said = says ∙ code_action (coded_shift small)

      pub turn_shift : (room cells : ℕ) → at.height < room → Told room cells (Finish (Shift number))
      unfolding setting_by
      turn_shift room cells h =
          Turns.shifts shift_said (under_token o.tokens column shift_fits.0) shift_fits.1 (omega (arith, held.some, length_held stack (at.height - 1)))

      pub turn_shift_full : (room cells : ℕ) → room ≤ at.height → Told room cells (Finish (Stop FullStack))
      unfolding setting_by
      turn_shift_full room cells h =
          Turns.shift_full shift_said (under_token o.tokens column shift_fits.0) (omega (arith, held.some, length_held stack (at.height - 1)))

    module _ (large : 512 ≤ number) (filled : number ≢ 65535) (other : number ≢ 1023) where
      pub reduce_known : number - 512 < o.productions
      reduce_known = by_number (search props) go
        where
          go : Fits → number - 512 < o.productions
          go (empty f) = absurd (filled f)
          go (shifts h k) = absurd (omega (arith, few_rows b))
          go (reduces h k f) = omega arith
          go (accepts h f) = absurd (other f)
          go (moves h k) = absurd (omega arith)

      reduce_said : action_in (numbers_of o) table at.top (column_at o.tokens column) ≡ some (reduce (number - 512))
      unfolding code_of
      reduce_said =
          let whole : 512 + (number - 512) ≡ number = omega arith in
          let fits_code : number - 512 < 511 = omega (arith, reduce_known, b.few_productions) in
          says ∙ ap action_of (sym whole) ∙ code_action (coded_reduce fits_code)

      pub turn_reduce : (room cells : ℕ) {r : Turn}
          → Reduction (machine_setting b room cells) (rows_of o table) (number - 512) at.top below at.listed r
          → Told room cells r
      unfolding setting_by
      turn_reduce room cells made = made.turns (column_at o.tokens column) (reduce_said)
