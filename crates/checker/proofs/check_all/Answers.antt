-- The book's refusal, then the misfit, then what the two passes find.
use Rattle.std.proofs.lemmas.Result.{MatchResult-at_ok, MatchResult-at_err}
use Rattle.checker.specs.Calls.{refused}
use Rattle.checker.proofs.Answering.{check_misfit, check_comparable, check_served}
use Rattle.checker.proofs.check_all.Goals as goal

pub returns-in-Err : goal.returns-in-Err
returns-in-Err c =
    let why = MatchResult-at_err _ _ _ c.in-Err.is c.work_out-found.ensures in
    rw why.1 (refused why.0)

pub compare-requires : goal.compare-requires
compare-requires c =
    check_comparable (MatchResult-at_ok _ _ _ c.in-Ok.is c.work_out-found.ensures) _ c.in-Ok-check_table.ensures

pub returns-in-Ok-check_table : goal.returns-in-Ok-check_table
returns-in-Ok-check_table c =
    check_served (MatchResult-at_ok _ _ _ c.in-Ok.is c.work_out-found.ensures) _ c.compare.ensures

pub returns-in-Err-check_table : goal.returns-in-Err-check_table
returns-in-Err-check_table c =
    rw c.refusal.ensures
    (check_misfit (MatchResult-at_ok _ _ _ c.in-Ok.is c.work_out-found.ensures) _ c.in-Err-check_table.ensures)
