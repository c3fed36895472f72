use native.Mathlib.Omega.{arith}
use borrow.Author.Rules.{rules}
use Rattle.sets.proofs.Promise.{decides_true, decides_false}
use Rattle.book.proofs.Passes.{round_first, round_next, round_grows, round_last}
use Rattle.book.proofs.closure.closure.Goals as goal

pub loop-reached-init : goal.loop-reached-init
loop-reached-init c = round_first (search rules) c.pass-after.ensures

pub loop-reached-smaller : goal.loop-reached-smaller
loop-reached-smaller c = omega (arith, round_grows c.loop-reached.invariant (decides_false _ c.same.result c.same.ensures c.loop-reached-test.true), c.loop-reached.invariant.passed.fits)

pub loop-reached-preserved : goal.loop-reached-preserved
loop-reached-preserved c = round_next c.loop-reached.invariant c.pass-after-in-loop-reached.ensures

pub returns : goal.returns
returns c = round_last c.loop-reached.invariant (decides_true _ c.same.result c.same.ensures c.loop-reached-test.false)
