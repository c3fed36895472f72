-- One case for each answer.
use mathlib.Core.Path.{sym}
use Rattle.std.proofs.lemmas.Result.{err_from_is_err_and}
use Rattle.book.proofs.Promise.{outlined_sized}
use Rattle.run.specs.Running.{bad_table}
use Rattle.run.proofs.Checks.{tokens_barred, check_no_stack, check_done}
use Rattle.run.proofs.checking.check.Goals as goal

pub returns-in-Err : goal.returns-in-Err
returns-in-Err c = rw c.refusal.ensures (record { checked = λ stack all. bad_table c.in-Err.ensures })

pub returns-in_err-check_tokens : goal.returns-in_err-check_tokens
returns-in_err-check_tokens c =
    let p = err_from_is_err_and c.from_residual.result c.from_residual.ensures.1 in
    rw (p.1, p.2) (record { checked = λ stack all. tokens_barred (sym (outlined_sized _ _ _).tokens) c.in_default.ensures c.in_err-check_tokens.ensures })

pub returns-then-cells-eq0 : goal.returns-then-cells-eq0
returns-then-cells-eq0 c =
    rw (c.refusal-then-cells-eq0.ensures, c.detail.ensures) (check_no_stack c.in_default.ensures (outlined_sized _ _ _) c.in_ok-check_tokens.ensures c.if-cells-eq0.true)

pub returns : goal.returns
returns c = check_done c.in_default.ensures (outlined_sized _ _ _) c.in_ok-check_tokens.ensures c.if-cells-eq0.false
