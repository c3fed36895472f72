-- One case of `Turns` for each answer.
use native.Mathlib.Omega.{arith}
use borrow.Author.Rules.{rules}
use Rattle.slr_run.proofs.Told.{few_rows, top_row, turn_empty, turn_accept, shift_fits, turn_shift, turn_shift_full, reduce_known, turn_reduce}
use Rattle.slr_run.proofs.deciding.decide.Goals as goal

pub number-number-requires : goal.number-number-requires
number-number-requires c = (top_row c.requires.0, omega (arith, c.requires.1))

pub returns-then-counts-at : goal.returns-then-counts-at
returns-then-counts-at c =
    turn_shift_full c.args.machine.now c.requires.0 c.requires.1 c.number-number.ensures c.if-number-lt-REDUCE.true _ _ (omega (arith, c.if-counts-at.true, c.counts.ensures))

pub overflow_cast-result : goal.overflow_cast-result
overflow_cast-result c =
    omega (arith, few_rows c.args.machine.now, (shift_fits c.args.machine.now c.requires.0 c.requires.1 c.number-number.ensures c.if-number-lt-REDUCE.true).1)

pub returns-then-number-lt-REDUCE : goal.returns-then-number-lt-REDUCE
returns-then-number-lt-REDUCE c =
    turn_shift c.args.machine.now c.requires.0 c.requires.1 c.number-number.ensures c.if-number-lt-REDUCE.true _ _ (omega (arith, c.if-counts-at.false, c.counts.ensures))

pub returns-then-number : goal.returns-then-number
returns-then-number c =
    turn_empty c.args.machine.now c.requires.0 c.requires.1 c.number-number.ensures _ _ c.if-number.true

pub returns-then-number-eq-ACCEPT : goal.returns-then-number-eq-ACCEPT
returns-then-number-eq-ACCEPT c =
    turn_accept c.args.machine.now c.requires.0 c.requires.1 c.number-number.ensures _ _ c.if-number-eq-ACCEPT.true

pub overflow_cast-p : goal.overflow_cast-p
overflow_cast-p c =
    let known = reduce_known c.args.machine.now c.requires.0 c.requires.1 c.number-number.ensures c.if-number-lt-REDUCE.false c.if-number.false c.if-number-eq-ACCEPT.false in
    let few = c.args.machine.now.few_productions in search rules

pub reduction-requires : goal.reduction-requires
reduction-requires c =
    (c.requires.0, reduce_known c.args.machine.now c.requires.0 c.requires.1 c.number-number.ensures c.if-number-lt-REDUCE.false c.if-number.false c.if-number-eq-ACCEPT.false)

pub returns : goal.returns
returns c =
    turn_reduce c.args.machine.now c.requires.0 c.requires.1 c.number-number.ensures c.if-number-lt-REDUCE.false c.if-number.false c.if-number-eq-ACCEPT.false _ _ c.reduction.ensures
