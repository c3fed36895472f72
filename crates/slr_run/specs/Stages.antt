-- Where a run stands as the code has it: its counts, the states in the stack's first cells and the list.
-- Document 02, W12. Only contracts inside the crate cite what stands here.
use Rattle.std.specs.Prelude.{Result, Ok, Err, ◌≡◌, true, false, List, [], ◌∷◌, ℕ, zero, suc, ◌+◌, ◌-◌, ◌*◌, ◌≤◌, ◌<◌, ltb, length, get_or, take}
use Rattle.grammar.specs.Grammar.{Grammar, Column, token, endmark}
use Rattle.answers.specs.Buffers.{counted}
use Rattle.book.specs.declared.columns.Outline.{Outline}
use Rattle.slr.specs.Cells.{empty_cell, most_states, action_in, move_in}
use Rattle.slr.specs.RoomMachine.{Setting, Progress, SlrReason, full_list, full_stack, wants, SlrOffered, taken}
use Rattle.slr.specs.RoomMachine.{stopped}
use Rattle.slr_run.specs.Checking.{columns_in, rows_of}
use Rattle.slr_run.specs.Fitting.{NumberFits}
use Rattle.slr_run.specs.declared.Cause.TheVariants.{FullList, FullStack, Wants}
use Rattle.slr_run.specs.declared.Cause.{Cause}
use Rattle.slr_run.specs.declared.Halt.{Halt}
use Rattle.slr_run.specs.declared.Stage.{Stage}

-- a grammar of which only T and N are told, which is all that cells and moves go by
abbrev pub numbers_of : Outline → Grammar
numbers_of o = record { tokens = o.tokens; nonterminals = o.nonterminals; start = 0; productions = [] }

-- what the machine goes by: the columns of left sides and lengths, the table, and the cells that count
unfoldable pub setting_by : Outline → (lefts lengths table : List ℕ) → (room cells : ℕ) → Setting
setting_by o lefts lengths table room cells =
    record {
      left = λ p. get_or lefts p 0;
      size = λ p. get_or lengths p 0;
      cell = action_in (numbers_of o) table;
      move = move_in (numbers_of o) table;
      room = room;
      cells = cells;
    }

-- column t is token t, and column T the end mark
unfoldable pub column_at : (T column : ℕ) → Column
column_at T column = elim (ltb column T) [ true ↦ token column | false ↦ endmark ]

-- the number in the cell of a state and a column
abbrev pub number_at : Outline → List ℕ → (state column : ℕ) → ℕ
number_at o table state column = get_or table (state * columns_in o + column) empty_cell

-- a table that was checked, and left sides that are nonterminals
pub record Grounds (o : Outline) (table lefts : List ℕ) : Type 0 where
  pub sized : length table ≡ rows_of o table * columns_in o
  pub some : 1 ≤ rows_of o table
  pub few : rows_of o table ≤ most_states
  pub fits : (state column : ℕ)
      → state < rows_of o table
      → column < columns_in o
      → NumberFits o.tokens o.productions (rows_of o table) column (number_at o table state column)
  pub lefts_known : (p : ℕ) → p < o.productions → get_or lefts p 0 < o.nonterminals

-- the states in the first cells, top first
unfoldable pub held_by : List ℕ → ℕ → List ℕ
held_by stack zero = []
held_by stack (suc height) = get_or stack height 0 ∷ held_by stack height

-- where the machine stands
unfoldable pub stage_in : Stage → (stack list : List ℕ) → Progress
stage_in at stack list =
    record {
      top = at.top;
      below = held_by stack (at.height - 1);
      listed = take at.listed list;
      matched = at.matched;
      steps = at.listed + at.matched;
      height = at.deepest;
    }

-- at least one state is held, in cells that count; each is a row; and the one on top is known
pub record Held (rows : ℕ) (at : Stage) (stack : List ℕ) : Type 0 where
  pub some : 1 ≤ at.height
  pub height : at.height ≤ counted stack
  pub top : at.top ≡ get_or stack (at.height - 1) 0
  pub states : (i : ℕ) → i < at.height → get_or stack i 0 < rows

unfoldable pub reason_in : Cause → Stage → SlrReason
reason_in FullList at = full_list
reason_in FullStack at = full_stack
reason_in Wants at = wants at.top

-- what became of a column, or of a run: where it stands, or why it stops and where
abbrev pub Reply : Type 0
Reply = Result Stage Halt

abbrev pub halted : Cause → Stage → Reply
halted cause at = Err (record { cause = cause; at = at })

unfoldable pub stage_of : Reply → Stage
stage_of (Ok at) = at
stage_of (Err h) = h.at

-- the outcome that a reply tells of
unfoldable pub outcome_in : Reply → (stack list : List ℕ) → SlrOffered
outcome_in (Ok at) stack list = taken (stage_in at stack list)
outcome_in (Err h) stack list = stopped (reason_in h.cause h.at) (stage_in h.at stack list)
