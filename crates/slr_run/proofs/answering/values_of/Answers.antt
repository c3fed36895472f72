-- The values of each kind of reply.
use mathlib.Core.Path.{refl}
use Prim.Native.Nat.{◌+◌, ◌^◌, ◌<◌}
use borrow.Author.Rules.{rules}
use Rattle.slr_run.proofs.Expected.{values_done, values_full_list, values_full_stack, values_wants}
use Rattle.slr_run.proofs.answering.values_of.Goals as goal

pub overflow_add-steps : goal.overflow_add-steps
overflow_add-steps c =
    let small : c.stage_of-at.result.listed + c.stage_of-at.result.matched < 2 ^ 64 = rw c.stage_of-at.ensures c.requires in search rules

pub returns-in-Ok : goal.returns-in-Ok
returns-in-Ok c = values_done _ c.stage_of-at.ensures refl c.in-Ok.is c.done.ensures

pub returns-in-FullList : goal.returns-in-FullList
returns-in-FullList c =
    values_full_list _ c.stage_of-at.ensures refl c.in-Err.is refl c.in-FullList.is c.none.ensures (rw c.detail.ensures at c.stop.ensures)

pub returns-in-FullStack : goal.returns-in-FullStack
returns-in-FullStack c =
    values_full_stack _ c.stage_of-at.ensures refl c.in-Err.is refl c.in-FullStack.is c.none-in-FullStack.ensures (rw c.detail-in-FullStack.ensures at c.stop-in-FullStack.ensures)

pub returns-in-Wants : goal.returns-in-Wants
returns-in-Wants c =
    values_wants _ c.stage_of-at.ensures refl c.in-Err.is refl c.in-Wants.is c.expects.ensures c.stop-in-Wants.ensures
