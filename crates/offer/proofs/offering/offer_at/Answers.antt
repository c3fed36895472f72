use Rattle.std.specs.Prelude.{Ok}
use mathlib.Core.Path.{◌∙◌, ap}
use native.Mathlib.Omega.{arith}
use lib.ListN.{length, length-set}
use Rattle.offer.proofs.Holding.{accepting, stopping}
use Rattle.offer.proofs.Turning.{turning_start, use_fits, turning_use, turning_finish, turning_match, match_some}
use Rattle.offer.proofs.offering.offer_at.Goals as goal

pub loop-next-init : goal.loop-next-init
loop-next-init c = turning_start _ _ _ _ _ _ _ _ c.requires c.counts-cells.ensures

pub choose-choice-requires : goal.choose-choice-requires
choose-choice-requires c = omega (arith, c.loop-next.invariant.height_fits, c.loop-next.invariant.stack_length)

pub overflow_sub-below : goal.overflow_sub-below
overflow_sub-below c =
    (use_fits _ _ _ _ _ _ _ _ c.loop-next.invariant c.choose-choice.ensures (c.in-Ok.is ∙ ap Ok c.in-Use.is) c.length-count.ensures).some_symbol

pub bounds-list-listed : goal.bounds-list-listed
bounds-list-listed c =
    let fits = use_fits _ _ _ _ _ _ _ _ c.loop-next.invariant c.choose-choice.ensures (c.in-Ok.is ∙ ap Ok c.in-Use.is) c.length-count.ensures in
    omega (arith, fits.list_left, c.loop-next.invariant.list_length)

pub overflow_add-listed : goal.overflow_add-listed
overflow_add-listed c =
    omega (arith, (use_fits _ _ _ _ _ _ _ _ c.loop-next.invariant c.choose-choice.ensures (c.in-Ok.is ∙ ap Ok c.in-Use.is) c.length-count.ensures).list_left)

pub overflow_add-height : goal.overflow_add-height
overflow_add-height c =
    omega (arith, (use_fits _ _ _ _ _ _ _ _ c.loop-next.invariant c.choose-choice.ensures (c.in-Ok.is ∙ ap Ok c.in-Use.is) c.length-count.ensures).stack_left)

pub loop-next-smaller : goal.loop-next-smaller
loop-next-smaller c =
    omega (arith, (use_fits _ _ _ _ _ _ _ _ c.loop-next.invariant c.choose-choice.ensures (c.in-Ok.is ∙ ap Ok c.in-Use.is) c.length-count.ensures).list_left)

pub loop-next-preserved : goal.loop-next-preserved
loop-next-preserved c =
    turning_use _ _ _ _ _ _ _ _ c.loop-next.invariant c.choose-choice.ensures (c.in-Ok.is ∙ ap Ok c.in-Use.is) c.length-count.ensures c.apply.ensures c.max-deepest.ensures

pub pop-requires : goal.pop-requires
pop-requires c =
    (match_some _ _ _ _ _ _ _ _ c.loop-next.invariant c.choose-choice.ensures (c.in-Ok.is ∙ ap Ok c.in-Match.is), omega (arith, c.loop-next.invariant.height_fits, c.loop-next.invariant.stack_length), c.requires.matched)

pub shape_of-stack-in-Match : goal.shape_of-stack-in-Match
shape_of-stack-in-Match c = ap length c.pop.ensures.1 ∙ simp length-set c.loop-next.invariant.stack_length

pub returns-in-Match : goal.returns-in-Match
returns-in-Match c =
    turning_match _ _ _ _ _ _ _ _ c.loop-next.invariant c.choose-choice.ensures (c.in-Ok.is ∙ ap Ok c.in-Match.is) c.pop.ensures.0 c.pop.ensures.1

pub returns-in-Accept : goal.returns-in-Accept
returns-in-Accept c =
    turning_finish _ _ _ _ _ _ _ _ c.loop-next.invariant c.choose-choice.ensures (rw (c.in-Ok.is, c.in-Accept.is) accepting)

pub returns-in-Err : goal.returns-in-Err
returns-in-Err c =
    turning_finish _ _ _ _ _ _ _ _ c.loop-next.invariant c.choose-choice.ensures (rw c.in-Err.is stopping)
