use mathlib.Core.Path.{sym, ◌∙◌}
use native.Mathlib.Nat.{sub-zero}
use Rattle.std.proofs.lemmas.Result.{err_from_is_err_and}
use Rattle.reader.specs.Positional.{records_from}
use Rattle.reader.proofs.Turns.{records_over}
use Rattle.reader.proofs.Guards.{records_go, records_stop}
use Rattle.reader.proofs.spelling.records.Goals as goal

pub loop-init : goal.loop-init
loop-init c = rw sub-zero

pub returns-in_err-at : goal.returns-in_err-at
unfolding records_from
returns-in_err-at c =
    let p = err_from_is_err_and c.from_residual.result c.from_residual.ensures.1 in
    rw (p.1, p.2, ← c.byte_at-t.ensures, ← c.byte_at-n.ensures, ← c.byte_at-end.ensures)
    (sym (records_stop _ _ _ _ _ _ c.loop-test.true c.record.ensures c.in_err-at.was) ∙ c.loop.invariant)

pub loop-preserved : goal.loop-preserved
loop-preserved c = sym (records_go _ _ _ _ _ _ c.loop-test.true c.record.ensures c.in_ok-at.was) ∙ c.loop.invariant

pub returns : goal.returns
unfolding records_from
returns c =
    rw (← c.byte_at-t.ensures, ← c.byte_at-n.ensures, ← c.byte_at-end.ensures)
    (sym (records_over _ _ _ _ _ _ c.loop-test.false) ∙ c.loop.invariant)
