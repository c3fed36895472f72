-- Sets that are apart share no column; else the first that they share is that of the row's first cell.
use Rattle.sets.proofs.Promise.{decides_true}
use Rattle.checker.proofs.Rivalry.{apart_shared}
use Rattle.checker.proofs.contests.contest_row.Goals as goal

pub returns-then-apart : goal.returns-then-apart
returns-then-apart c = apart_shared c.args.bound (decides_true _ c.apart.result c.apart.ensures c.if-apart.true)
