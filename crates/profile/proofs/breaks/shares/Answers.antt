use native.Mathlib.Omega.{arith}
use Rattle.sets.proofs.Promise.{decides_true}
use Rattle.profile.proofs.breaks.shares.Goals as goal

pub returns-then-alike : goal.returns-then-alike
returns-then-alike c =
    record {
      lower = c.loop-q.q;
      below = c.loop-q-test.true;
      alike = decides_true _ c.alike.result c.alike.ensures c.if-alike.true;
    }

pub returns : goal.returns
returns c shared = c.loop-q.invariant shared.lower (omega (arith, shared.below)) shared.alike
