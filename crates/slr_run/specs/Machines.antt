-- What the steps go by where they carry their machine: a table, the left sides and the lengths of productions.
-- Document 02, W12. Only contracts inside the crate cite what stands here.
use Rattle.std.specs.Prelude.{ℕ}
use Rattle.slr.specs.RoomMachine.{Setting}
use Rattle.slr_run.specs.Checking.{rows_of}
use Rattle.slr_run.specs.Stages.{setting_by}
use Rattle.slr_run.specs.declared.reading.Machine.{Machine}

-- the rows of its table
abbrev pub machine_rows : Machine → ℕ
machine_rows m = rows_of m.outline m.table.now

-- what it goes by, with so many cells of stack and list that count
abbrev pub machine_setting : Machine → (room cells : ℕ) → Setting
machine_setting m room cells = setting_by m.outline m.lefts m.lengths m.table.now room cells
