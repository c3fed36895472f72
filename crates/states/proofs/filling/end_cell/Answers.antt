-- `states::filling::end_cell` meets its contract.
use borrow.Author.Tests.{lt-ltb, le-ltb}
use Rattle.answers.specs.Limits.{most_patterns}
use Rattle.states.specs.Filling.{end_cell}
use Rattle.states.proofs.filling.end_cell.Goals as goal

pub returns-then-end-lt-MOST_PATTERNS : goal.returns-then-end-lt-MOST_PATTERNS
unfolding end_cell
returns-then-end-lt-MOST_PATTERNS c = rw (lt-ltb c.args.end most_patterns c.if-end-lt-MOST_PATTERNS.true)

pub returns-else-end-lt-MOST_PATTERNS : goal.returns-else-end-lt-MOST_PATTERNS
unfolding end_cell
returns-else-end-lt-MOST_PATTERNS c = rw (le-ltb c.args.end most_patterns c.if-end-lt-MOST_PATTERNS.false)
