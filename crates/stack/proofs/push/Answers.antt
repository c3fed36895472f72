use mathlib.Core.Path.{sym, ◌∙◌}
use borrow.Author.Rules.{rules}
use Rattle.stack.proofs.Stacked.{push_turn, push_over}
use Rattle.stack.proofs.push.Goals as goal

pub loop-i-preserved : goal.loop-i-preserved
loop-i-preserved c =
    (search rules, push_turn _ _ _ _ _ _ c.loop-i-test.true c.symbol_byte.ensures ∙ c.loop-i.invariant.1)

pub returns : goal.returns
returns c = sym (push_over _ _ _ _ _ _ c.loop-i-test.false) ∙ c.loop-i.invariant.1
