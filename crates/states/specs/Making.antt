-- What making a machine answers and leaves in the cells that were lent for it, over any start and moves of sets.
-- Document 02, W3: refusals 16, and 7 with detail 1, change nothing.
use Rattle.std.specs.Prelude.{List, ℕ, ◌*◌, ◌≤◌, ◌<◌, length, Result, Ok, Err}
use Rattle.std.proofs.Math.Option.{Option}
use Rattle.answers.specs.declared.Answer.{Answer}
use Rattle.answers.specs.Answers.{refusal}
use Rattle.answers.specs.Buffers.{over}
use Rattle.answers.specs.Limits.{most_states, row_cells}
use Rattle.answers.specs.Refusals.{room, states, machine_room}
use Rattle.numbering.specs.Numbering.{Automaton, FoundAll, TooMany}
use Rattle.states.specs.Machine.{tables, rows_of}

-- how many states the machine has, or why there is none
abbrev pub MachineMade : Type 0
MachineMade = Result ℕ Answer

pub data Made (m : Automaton ℕ) (machine : List ℕ) : MachineMade → List ℕ → Type 0 where
  too_many : TooMany m most_states → Made m machine (Err (refusal states most_states 0)) machine
  no_room : {sets : List ℕ} {cells : List (Option ℕ)} → FoundAll m sets cells → length sets ≤ most_states
      → length machine < length sets * row_cells
      → Made m machine (Err (refusal room (length sets * row_cells) machine_room)) machine
  made : {sets : List ℕ} {cells : List (Option ℕ)} → FoundAll m sets cells → length sets ≤ most_states
      → length sets * row_cells ≤ length machine
      → Made m machine (Ok (length sets)) (over (rows_of sets cells) machine)

-- by two tables
abbrev pub MadeOutcome : (readers follow machine : List ℕ) → MachineMade → List ℕ → Type 0
MadeOutcome readers follow = Made (tables readers follow)
