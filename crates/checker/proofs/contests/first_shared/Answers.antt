use mathlib.Core.Path.{subst}
use Prim.Native.Nat.{ℕ}
use native.Mathlib.Omega.{arith}
use Rattle.sets.specs.Calls.{number}
use Rattle.sets.proofs.Promise.{decides_true, decides_false}
use Rattle.answers.proofs.Promise.{search_begun, search_next, search_some, search_none}
use Rattle.checker.specs.Checking.{Both}
use Rattle.checker.proofs.contests.first_shared.Goals as goal

pub loop-column-init : goal.loop-column-init
loop-column-init c = search_begun

pub returns-then-both_have : goal.returns-then-both_have
returns-then-both_have c =
    let both = decides_true _ c.both_have.result c.both_have.ensures c.if-both_have.true in
    search_some c.loop-column.invariant (omega (arith, c.loop-column-test.true))
    (subst (λ (b : ℕ). Both (number c.args.x) (number c.args.y) b) c.column_bit.ensures both)

pub loop-column-preserved : goal.loop-column-preserved
loop-column-preserved c =
    let not_both = decides_false _ c.both_have.result c.both_have.ensures c.if-both_have.false in
    search_next c.loop-column.invariant (omega (arith, c.loop-column-test.true))
    (subst (λ (b : ℕ). ¬ Both (number c.args.x) (number c.args.y) b) c.column_bit.ensures not_both)

pub returns : goal.returns
returns c = search_none c.loop-column.invariant (omega (arith, c.loop-column-test.false))
