-- What cutting a line by patterns answers and leaves. Document 02, W3: the refusals in its order, all before the line
-- changing nothing, then along the line what the patterns' own meaning says.
use Rattle.std.specs.Prelude.{List, ℕ, ◌*◌, ◌≤◌, ◌<◌, length}
use Rattle.std.proofs.Math.Option.{Option}
use Rattle.answers.specs.declared.Answer.{Answer}
use Rattle.answers.specs.Answers.{refusal}
use Rattle.answers.specs.Buffers.{over}
use Rattle.answers.specs.Limits.{most_states, row_cells}
use Rattle.answers.specs.Refusals.{room, machine_room}
use Rattle.answers.specs.Refusals as refusals
use Rattle.numbering.specs.Numbering.{FoundAll, TooMany}
use Rattle.pattern.specs.Pattern.{Expression, Pattern}
use Rattle.patterns.specs.Calls.{Accepted, RefusesPatterns}
use Rattle.states.specs.Machine.{rows_of}
use Rattle.pieces.specs.Cut.{Ending}
use Rattle.pieces.specs.Cut.{Piece, numbers_of, Cut, answer_of}
use Rattle.cut.specs.Patterns.{point_states}

pub data CutOutcome (patterns lengths line machine tokens : List ℕ) : Answer → List ℕ → List ℕ → Type 0 where
  -- too many patterns, a bad one, too many positions
  refused : {a : Answer}
      → RefusesPatterns patterns lengths a
      → CutOutcome patterns lengths line machine tokens a machine tokens
  too_many : {rs : List Expression}
      → Accepted patterns lengths rs
      → TooMany (point_states rs) most_states
      → CutOutcome patterns lengths line machine tokens (refusal refusals.states most_states 0) machine tokens
  no_cells : {rs : List Expression} {sets : List ℕ} {cells : List (Option ℕ)}
      → Accepted patterns lengths rs
      → FoundAll (point_states rs) sets cells
      → length sets ≤ most_states
      → length machine < length sets * row_cells
      → CutOutcome patterns lengths line machine tokens
      (refusal room (length sets * row_cells) machine_room) machine tokens
  -- the machine, and the line cut by the patterns' own meaning
  cut : {rs : List Expression} {sets : List ℕ} {cells : List (Option ℕ)} {pieces : List Piece} {ending : Ending}
      → Accepted patterns lengths rs
      → FoundAll (point_states rs) sets cells
      → length sets ≤ most_states
      → length sets * row_cells ≤ length machine
      → Cut (Pattern rs) (length tokens) 0 line pieces ending
      → CutOutcome patterns lengths line machine tokens
      (answer_of ending (length pieces)) (over (rows_of sets cells) machine) (over (numbers_of pieces) tokens)

-- what a call of cut leaves: the answer, the machine and the tokens
abbrev pub CutResult : Type 0
CutResult = Answer × List ℕ × List ℕ
