-- `parts::classes::element` meets its contract.
use Rattle.parts.proofs.ClassParts.{element_read}
use Rattle.parts.proofs.classes.element.Goals as goal

pub returns : goal.returns
returns c = element_read c.in_ok-span.ensures c.spread.ensures
