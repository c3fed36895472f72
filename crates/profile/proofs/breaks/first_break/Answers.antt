use native.Mathlib.Omega.{arith}
use borrow.Author.Count.{below_more}
use Rattle.sets.proofs.Promise.{decides_true, decides_false}
use Rattle.profile.proofs.breaks.first_break.Goals as goal

pub returns-then-breaks : goal.returns-then-breaks
returns-then-breaks c =
    let decides = c.breaks.ensures.decides _ _ c.gather_lefts-lefts.ensures c.gather_lengths-lengths.ensures c.gather_heads-heads.ensures
    c.loop-p-test.true c.loop-p.invariant in
    record {
      inside = c.loop-p-test.true;
      holds = decides_true _ c.breaks.result decides c.if-breaks.true;
      earlier = c.loop-p.invariant;
    }

pub loop-p-preserved : goal.loop-p-preserved
loop-p-preserved c =
    let decides = c.breaks.ensures.decides _ _ c.gather_lefts-lefts.ensures c.gather_lengths-lengths.ensures c.gather_heads-heads.ensures
    c.loop-p-test.true c.loop-p.invariant in
    below_more _ _ c.loop-p.invariant (decides_false _ c.breaks.result decides c.if-breaks.false)

pub returns : goal.returns
returns c k below = c.loop-p.invariant k (omega arith)
