-- The machine of patterns, before a line is cut by it. Working definitions, which only contracts inside the crate cite.
use Rattle.std.specs.Prelude.{List, ℕ, Err}
use Rattle.answers.specs.declared.Answer.{Answer}
use Rattle.pattern.specs.Pattern.{Expression}
use Rattle.patterns.specs.Calls.{Accepted, RefusesPatterns}
use Rattle.states.specs.Making.{MachineMade, Made}
use Rattle.cut.specs.Patterns.{point_states}

-- the patterns are refused, or their machine is made as the patterns' own relations say
pub data Prepared (patterns lengths machine : List ℕ) : MachineMade → List ℕ → Type 0 where
  refused : {a : Answer}
      → RefusesPatterns patterns lengths a
      → Prepared patterns lengths machine (Err a) machine
  made : {rs : List Expression} {r : MachineMade} {machine' : List ℕ}
      → Accepted patterns lengths rs
      → Made (point_states rs) machine r machine'
      → Prepared patterns lengths machine r machine'
