-- How deep a call went: the depth that it tells is the greatest height of the definition's machine, and 0 where steps
-- do not begin.
-- Document 02, W7.
use Rattle.std.specs.Prelude.{◌≡◌, List, ℕ, ◌≤◌, length}
use Rattle.grammar.specs.Grammar.{Grammar}
use Rattle.answers.specs.Buffers.{counted}
use Rattle.answers.specs.Limits.{longest_list}
use Rattle.book.specs.Judging.{Serves}
use Rattle.machine.specs.Machine.{final}
use Rattle.offer.specs.Strings.{ran}
use Rattle.run.specs.Running.{Admits}
use Rattle.demands.specs.Demands.{Ran, Expanded, expanded}

-- the start symbol is held, so that where steps begin it is 1 at least; it is never more than the cells that count
pub record RunDepth (book table tokens stack list : List ℕ) (r : Ran) : Type 0 where
  pub held : {g : Grammar}
      → Serves book g
      → Admits g table tokens stack
      → r.answer.depth ≡ (final (ran g table tokens stack list)).height
  pub within : {g : Grammar}
      → Serves book g
      → Admits g table tokens stack
      → (1 ≤ r.answer.depth) × (r.answer.depth ≤ counted stack)
  pub none : ((g : Grammar) → Serves book g → ¬ Admits g table tokens stack) → r.answer.depth ≡ 0

pub record ExpandDepth (book list stack output : List ℕ) (r : Expanded) : Type 0 where
  pub held : {g : Grammar}
      → Serves book g
      → length list ≤ longest_list
      → 1 ≤ length stack
      → r.answer.depth ≡ (expanded g list stack output).progress.height
  pub within : {g : Grammar}
      → Serves book g
      → length list ≤ longest_list
      → 1 ≤ length stack
      → (1 ≤ r.answer.depth) × (r.answer.depth ≤ counted stack)
  pub none : ((g : Grammar) → Serves book g → length list ≤ longest_list → 1 ≤ length stack → ⊥) → r.answer.depth ≡ 0
