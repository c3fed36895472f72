-- A vacant cell differs by the row's claims, a filled one by the lookahead of its production.
use mathlib.Core.Path.{◌∙◌, ap}
use Rattle.sets.specs.Sets.{member}
use Rattle.checker.proofs.Compared.{vacant_differs, filled_differs}
use Rattle.checker.proofs.differences.differs.Goals as goal

pub returns-then-byte-eq-VACANT : goal.returns-then-byte-eq-VACANT
returns-then-byte-eq-VACANT c = vacant_differs _ _ _ c.if-byte-eq-VACANT.true c.has.ensures

pub returns-else-byte-eq-VACANT : goal.returns-else-byte-eq-VACANT
returns-else-byte-eq-VACANT c = filled_differs _ _ _ c.if-byte-eq-VACANT.false (c.has-else-byte-eq-VACANT.ensures ∙ ap (member _) c.load.ensures.loaded)
