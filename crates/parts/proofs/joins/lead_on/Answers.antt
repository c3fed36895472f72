-- `parts::joins::lead_on` meets its contract.
use borrow.Author.Rules.{rules}
use native.Mathlib.Omega.{arith}
use Rattle.parts.proofs.PositionSets.{led_positions}
use Rattle.parts.proofs.joins.lead_on.Goals as goal

pub returns-then-count-le-MOST_POSITIONS : goal.returns-then-count-le-MOST_POSITIONS
returns-then-count-le-MOST_POSITIONS c =
    let args = c.args in
    λ few. led_positions args.last.now args.first.now (search rules) c.lead.ensures

pub returns-else-count-le-MOST_POSITIONS : goal.returns-else-count-le-MOST_POSITIONS
returns-else-count-le-MOST_POSITIONS c = λ few. absurd (omega arith)
