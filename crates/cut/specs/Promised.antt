-- What crates above learn of a cut: the lowest pattern that matches, how far a call came, and cells that cut so again.
use Rattle.std.specs.Prelude.{◌≡◌, List, ℕ, ◌*◌, ◌≤◌, ◌<◌, length}
use Rattle.std.proofs.Math.Option.{Option}
use Rattle.answers.specs.declared.Answer.{Answer}
use Rattle.answers.specs.Buffers.{over}
use Rattle.answers.specs.Limits.{most_states, row_cells}
use Rattle.answers.specs.Refusals.{served, limit, room, pattern, no_token, machine_room, token_room}
use Rattle.answers.specs.Refusals as refusals
use Rattle.numbering.specs.Numbering.{FoundAll}
use Rattle.pattern.specs.Pattern.{Expression, Pattern}
use Rattle.pattern.specs.Text.{Bytes}
use Rattle.patterns.specs.Calls.{Accepted}
use Rattle.states.specs.Machine.{rows_of}
use Rattle.pieces.specs.Calls.{CutWithOutcome}
use Rattle.pieces.specs.Cut.{Ending}
use Rattle.pieces.specs.Cut.{Piece, numbers_of, Cut, answer_of}
use Rattle.cut.specs.Patterns.{point_states}
use Rattle.cut.specs.Calls.{CutOutcome}

-- pattern k matches u, and no lower one does
pub record LowestMatch (rs : List Expression) (k : ℕ) (u : List ℕ) : Type 0 where
  pub matches : Pattern rs k u
  pub lowest : (j : ℕ) → j < k → Pattern rs j u → ⊥

-- refused before the line was looked at: 4, 14, 16, or 7 with detail 1
pub data RefusedEarly (a : Answer) : Type 0 where
  by_limit : a.number ≡ limit → RefusedEarly a
  by_pattern : a.number ≡ pattern → RefusedEarly a
  by_states : a.number ≡ refusals.states → RefusedEarly a
  by_room : a.number ≡ room → a.detail ≡ machine_room → RefusedEarly a

-- the line was cut, to its end or not: 0, 15, or 7 with detail 2
pub data ReachedLine (a : Answer) : Type 0 where
  whole : a.number ≡ served → ReachedLine a
  without_token : a.number ≡ no_token → ReachedLine a
  without_room : a.number ≡ room → a.detail ≡ token_room → ReachedLine a

-- the line was cut: what the patterns mean, the machine's states and cells, the pieces of the line, and what is left
pub record WasCut (patterns lengths line machine tokens : List ℕ) (a : Answer) (machine' tokens' : List ℕ)
    : Type 0 where
  pub meanings : List Expression
  pub accepted : Accepted patterns lengths meanings
  pub sets : List ℕ
  pub cells : List (Option ℕ)
  pub found : FoundAll (point_states meanings) sets cells
  pub few : length sets ≤ most_states
  pub fits : length sets * row_cells ≤ length machine
  pub pieces : List Piece
  pub ending : Ending
  pub along : Cut (Pattern meanings) (length tokens) 0 line pieces ending
  pub answered : a ≡ answer_of ending (length pieces)
  pub rows : machine' ≡ over (rows_of sets cells) machine
  pub numbers : tokens' ≡ over (numbers_of pieces) tokens

-- with these cells `cut_with` answers and writes to the tokens, for every line of bytes, what `cut` with the patterns
-- does when it is lent enough machine cells
pub record CutsAs (patterns lengths cells : List ℕ) : Type 0 where
  pub same : {line tokens ends tokens' ends' machine machine' tokens'' : List ℕ} {a b : Answer}
      → Bytes line
      → CutWithOutcome cells line tokens ends a tokens' ends'
      → CutOutcome patterns lengths line machine tokens b machine' tokens''
      → ReachedLine b
      → (a ≡ b) × (tokens' ≡ tokens'')
