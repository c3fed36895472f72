-- What a run shows beside its answer: the part of the tokens not yet matched, as the caller's own memory.
-- Document 01, "Running and expanding".
use Rattle.std.specs.Prelude.{◌≡◌, List, ℕ, ◌+◌, ◌-◌, length}
use Rattle.run.specs.Running.{BesideOutcome}

-- the part lies in the tokens' memory, from where the matched ones end
pub record Shown (book table tokens stack list words part stack' list' : List ℕ) (memory shown : ℕ × ℕ) : Type 0 where
  pub outcome : BesideOutcome book table tokens stack list words part stack' list'
  pub own : shown.0 ≡ memory.0
  pub after : shown.1 ≡ memory.1 + (length tokens - length part)
