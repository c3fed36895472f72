-- `parts::joins::through` meets its contract.
use borrow.Author.Rules.{rules}
use Rattle.parts.proofs.PositionSets.{through_passed}
use Rattle.parts.proofs.joins.through.Goals as goal

pub returns-then-passes : goal.returns-then-passes
returns-then-passes c = rw c.if-passes.true (through_passed (search rules) c.unite.ensures)
