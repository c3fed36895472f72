-- Nothing is done without a stack cell; otherwise the steps, and the cleared stack.
use native.Mathlib.Omega.{arith}
use Rattle.offer.specs.Strings.{no_stack}
use Rattle.offer.proofs.Steps.{stepped_cleared}
use Rattle.offer.proofs.strings.offer_string.Goals as goal

pub returns-then-stack-eq0 : goal.returns-then-stack-eq0
returns-then-stack-eq0 c = no_stack c.if-stack-eq0.true

pub offer_all-reply-requires : goal.offer_all-reply-requires
offer_all-reply-requires c = omega (arith, c.if-stack-eq0.false)

pub returns : goal.returns
returns c =
    stepped_cleared (omega (arith, c.if-stack-eq0.false)) (rw (c.new-rules.ensures.book, c.new-rules.ensures.places, c.new-rules.ensures.outline) at c.offer_all-reply.ensures) c.clear.ensures
