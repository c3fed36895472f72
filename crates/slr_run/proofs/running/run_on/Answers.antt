-- Barred, or the steps and the cleared stack.
use Rattle.slr_run.proofs.Served.{ran_barred, ran_admits, admitted_known, admitted_grounds, ended_countable, ran_ended}
use Rattle.slr_run.proofs.running.run_on.Goals as goal

pub returns-in-Err : goal.returns-in-Err
returns-in-Err c =
    ran_barred c.args.book.now c.args.index.now.places c.args.index.now.outline c.args.table.now c.args.tokens.now c.args.stack.now c.in-Err.ensures

pub new-machine-requires : goal.new-machine-requires
new-machine-requires c =
    let admits = ran_admits c.args.book.now c.args.index.now.places c.args.index.now.outline c.args.table.now c.args.tokens.now c.args.stack.now c.in_default.ensures in
    admitted_grounds c.args.book.now c.args.index.now.places c.args.index.now.outline c.args.table.now c.args.tokens.now c.args.stack.now c.requires c.gather_lefts-lefts.ensures admits

pub run_all-reply-requires : goal.run_all-reply-requires
run_all-reply-requires c =
    let admits = ran_admits c.args.book.now c.args.index.now.places c.args.index.now.outline c.args.table.now c.args.tokens.now c.args.stack.now c.in_default.ensures in
    (admits.stacked, rw c.new-machine.ensures.outline (admitted_known c.args.book.now c.args.index.now.places c.args.index.now.outline c.args.table.now c.args.tokens.now c.args.stack.now admits))

pub answer_of-requires : goal.answer_of-requires
answer_of-requires c =
    let admits = ran_admits c.args.book.now c.args.index.now.places c.args.index.now.outline c.args.table.now c.args.tokens.now c.args.stack.now c.in_default.ensures in
    ended_countable c.args.book.now c.args.index.now.places c.args.index.now.outline c.args.table.now c.args.tokens.now c.args.stack.now c.gather_lefts-lefts.ensures c.gather_lengths-lengths.ensures c.args.list.now (rw c.new-machine.ensures.setting at c.run_all-reply.ensures) admits

pub returns : goal.returns
returns c =
    let admits = ran_admits c.args.book.now c.args.index.now.places c.args.index.now.outline c.args.table.now c.args.tokens.now c.args.stack.now c.in_default.ensures in
    ran_ended c.args.book.now c.args.index.now.places c.args.index.now.outline c.args.table.now c.args.tokens.now c.args.stack.now c.gather_lefts-lefts.ensures c.gather_lengths-lengths.ensures c.args.list.now (rw c.new-machine.ensures.setting at c.run_all-reply.ensures) admits c.clear.ensures c.answer_of.ensures
