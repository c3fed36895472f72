-- `push` says the rest where the right side fits; otherwise nothing changes.
use mathlib.Core.Path.{sym, ap, ◌∙◌}
use lib.ListN.{length, length-set}
use lib.Seq.{length-sets}
use Rattle.stack.proofs.Replacing.{replacing_fits, replacing_no_cell, replacing_no_room}
use Rattle.stack.proofs.replace.Goals as goal

pub shape_of-stack : goal.shape_of-stack
shape_of-stack c = ap length c.push.ensures ∙ simp (length-sets, length-set)

pub returns-then-top-stack : goal.returns-then-top-stack
returns-then-top-stack c = c.push.ensures ∙ sym (replacing_fits _ _ _ _ _ c.if-below-stack.true c.if-top-stack.true)

pub returns-else-top-stack : goal.returns-else-top-stack
returns-else-top-stack c = sym (replacing_no_room _ _ _ _ _ c.if-top-stack.false)

pub returns-else-below-stack : goal.returns-else-below-stack
returns-else-below-stack c = sym (replacing_no_cell _ _ _ _ _ c.if-below-stack.false)
