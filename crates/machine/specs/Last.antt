-- The state in which the machine is offered the last column of a run: the state it begins in, or the one right after
-- the last match.
-- Request W2, "The hint of a syntax refusal is exact".
use Rattle.std.specs.Prelude.{List, [], ◌∷◌, ℕ, ◌-◌, length}
use Rattle.std.proofs.Math.Option.{Option}
use Rattle.grammar.specs.Grammar.{Form, Grammar, Column, token}
use Rattle.machine.specs.Machine.{State, taken, stopped, begun, offer}
use Rattle.machine.specs.Room.{right_of}

-- tokens are offered as in a run, as long as they are taken
module _ (right : ℕ → Form) (cell : ℕ → Column → Option ℕ) (room cells : ℕ) where
  unfoldable pub last_from : List ℕ → State → State
  last_from [] s = s
  last_from (t ∷ w) s =
      elim (offer right cell room cells (cells - length s.listed) (token t) s)
      [ taken s' ↦ last_from w s' | stopped r s' ↦ s ]

-- of the run of a grammar's machine from its start
abbrev pub last_of : Grammar → (ℕ → Column → Option ℕ) → ℕ → ℕ → List ℕ → State
last_of g cell room cells w = last_from (right_of g) cell room cells w (begun g.start)
