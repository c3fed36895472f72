-- What crates above cite of bottom-up tables: the page of results, a step of the machine with room, what a cell says.
pub use Rattle.slr.proofs.Theorems.{slr_accepts_exactly, rightmost_unique, slr_room_accepts, slr_room_enough}
pub use Rattle.slr.proofs.Theorems.{slr_room_lacking, slr_run_spent, slr_built_formed, slr_built_exact}
pub use Rattle.slr.proofs.Theorems.{left_serves, left_numbered, left_table_lem}
pub use Rattle.slr.proofs.Held.{held_end}
pub use Rattle.slr.proofs.States.{state_zero}
pub use Rattle.slr.proofs.Codes.{coded_shift, coded_reduce, code_action}
pub use Rattle.slr.proofs.RoomSteps.{run_empty, run_bare, run_no_move, run_accepts, run_shifts, run_shift_full}
pub use Rattle.slr.proofs.RoomSteps.{run_reduces, run_list_full, run_stack_full}
