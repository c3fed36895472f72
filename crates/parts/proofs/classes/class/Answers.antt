use mathlib.Core.Path.{sym, ◌∙◌}
use borrow.Author.Rules.{rules}
use Rattle.parts.proofs.ClassParts.{class_first, class_more, class_stops, class_end}
use Rattle.parts.proofs.classes.class.Goals as goal

pub loop-readers-init : goal.loop-readers-init
loop-readers-init c = (c.element.auto.readers, class_first c.in_ok-next.ensures)

pub returns-in_err-next-2 : goal.returns-in_err-next-2
returns-in_err-next-2 c = search (rules, class_stops)

pub loop-readers-preserved : goal.loop-readers-preserved
loop-readers-preserved c = (
  c.element-in-loop-readers.auto.readers ∙ c.loop-readers.invariant.0,
  class_more c.loop-readers.invariant.1 c.in_ok-next-2.ensures,
)

pub returns : goal.returns
returns c = class_end c.loop-readers.invariant.1 (sym c.byte_at.ensures ∙ c.loop-readers-test.false)
