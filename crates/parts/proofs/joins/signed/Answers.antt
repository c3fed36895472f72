-- `parts::joins::signed` meets its contract.
use mathlib.Core.Path.{sym, ◌∙◌}
use native.Mathlib.Omega.{arith}
use lib.ListN.{get_or}
use Rattle.pattern.specs.Kinds.{signs}
use Rattle.parts.specs.Joins.{no_sign, question_read, plus_read, star_read}
use Rattle.parts.proofs.Marks.{not_among}
use Rattle.parts.proofs.joins.signed.Goals as goal

pub returns-in-63 : goal.returns-in-63
returns-in-63 c = rw c.behind.ensures (question_read (sym c.byte_at.ensures ∙ c.in-63.is))

pub returns-in-43 : goal.returns-in-43
returns-in-43 c = rw c.behind-in-43.ensures (plus_read (sym c.byte_at.ensures ∙ c.in-43.is) c.lead_on.ensures)

pub returns-in-42 : goal.returns-in-42
returns-in-42 c =
    rw c.behind-in-42.ensures (star_read (sym c.byte_at.ensures ∙ c.in-42.is) c.lead_on-in-42.ensures)

pub returns-in_default : goal.returns-in_default
returns-in_default c =
    no_sign (not_among (get_or c.args.pattern.now c.args.item.at 0) signs (omega (arith, c.byte_at.ensures)))
