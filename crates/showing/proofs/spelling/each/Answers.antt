use Prim.Native.Nat.{◌+◌}
use lib.ListN.{drop}
use Rattle.text.proofs.Promise.{completes_start, completes_more, completes_all, put_length}
use Rattle.showing.specs.Words.{spaced, each}
use Rattle.showing.proofs.Parts.{each_next, each_past}
use Rattle.showing.proofs.spelling.each.Goals as goal

pub loop-item-init : goal.loop-item-init
loop-item-init g c = completes_start _ _ _

pub loop-item-preserved : goal.loop-item-preserved
loop-item-preserved g c =
    let text = spaced g.S.Spelling.spelled in
    let items = c.args.items.now in
    let i = c.loop-item.item-index in
    completes_more (text c.item-item.result) (each text (drop (i + 1) items))
    (rw (each_next text items i c.item-item.result c.loop-item-test.true c.item-item.is) at c.loop-item.invariant)
    c.spaced-place.ensures

pub returns : goal.returns
returns g c =
    completes_all
    (rw (each_past (spaced g.S.Spelling.spelled) c.args.items.now c.loop-item.item-index c.loop-item-test.false) at
    c.loop-item.invariant)

pub shape_of-out : goal.shape_of-out
shape_of-out g c = put_length (returns g c)
