use mathlib.Core.Path.{sym, ◌∙◌}
use native.Mathlib.Nat.{le_antisymm}
use borrow.Author.Rules.{rules}
use Rattle.book.proofs.Filling.{keeping_none, keeping_next}
use Rattle.book.proofs.useful.keep_productive.Goals as goal

pub loop-p-init : goal.loop-p-init
loop-p-init c = (search rules, keeping_none c.requires.1)

pub loop-p-preserved : goal.loop-p-preserved
loop-p-preserved c = (
  search rules,
  keeping_next (search rules) c.loop-p.invariant.1 c.load.ensures.loaded c.kept.ensures c.store.ensures,
)

pub shape_of-names : goal.shape_of-names
shape_of-names c = c.loop-p.invariant.1.filled.size ∙ sym c.requires.1

pub returns : goal.returns
returns c = rw (le_antisymm c.loop-p.invariant.0 c.loop-p-test.false) at c.loop-p.invariant.1.filled
