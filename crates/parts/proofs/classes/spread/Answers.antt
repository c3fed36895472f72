use mathlib.Core.Path.{refl, ◌∙◌}
use native.Mathlib.Omega.{arith}
use Rattle.points.proofs.Promise.{put_length}
use Rattle.parts.proofs.Spreading.{spread_none, spread_more, spread_all}
use Rattle.parts.proofs.classes.spread.Goals as goal

pub loop-byte-init : goal.loop-byte-init
loop-byte-init c =
    let args = c.args in
    (omega arith, refl, spread_none args.low args.position args.readers.now)

pub loop-byte-preserved : goal.loop-byte-preserved
loop-byte-preserved c =
    let put = c.put in
    let inv = c.loop-byte.invariant in
    (omega arith, put_length put.ensures ∙ inv.1, spread_more c.loop-byte.auto.byte inv.2 put.ensures)

pub shape_of-readers : goal.shape_of-readers
shape_of-readers c = c.loop-byte.invariant.1

pub returns : goal.returns
returns c = spread_all (omega arith) c.loop-byte.invariant.0 c.loop-byte.invariant.2
