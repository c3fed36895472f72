use native.Mathlib.Nat.{le_antisymm}
use native.Mathlib.Omega.{arith}
use borrow.Author.Rules.{rules}
use Rattle.reader.specs.Fields.{symbol_at}
use Rattle.book.proofs.Filling.{none_exactly, named_next}
use Rattle.book.proofs.useful.names_at.Goals as goal

pub loop-i-init : goal.loop-i-init
loop-i-init c = (search rules, none_exactly c.none-names.ensures (λ k named. omega (arith, named.inside)))

pub loop-i-preserved : goal.loop-i-preserved
unfolding symbol_at
loop-i-preserved c = (search rules, named_next _ c.symbol_of.ensures c.loop-i.invariant.1 c.with_symbol-names.ensures)

pub returns : goal.returns
returns c = rw (le_antisymm c.loop-i.invariant.0 c.loop-i-test.false) at c.loop-i.invariant.1
