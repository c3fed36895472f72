use mathlib.Core.Path.{◌≡◌, sym, ◌∙◌}
use Rattle.std.proofs.lemmas.Result.{err_from_is_err_and}
use Rattle.sheet.proofs.Stepping.{reached_start, reached_more, reached_stuck, reached_form, reached_short}
use Rattle.sheet.proofs.form.first_break.Goals as goal

pub loop-at-init : goal.loop-at-init
loop-at-init c = reached_start _

pub returns-in_err-phase : goal.returns-in_err-phase
returns-in_err-phase c =
    let p = err_from_is_err_and c.from_residual.result c.from_residual.ensures.1 in
    let stuck = c.in_err-phase.ensures.ok_part in
    let place = rw stuck at c.in_err-phase.ensures.value in
    let same : c.loop-at.at ≡ c.in_err-phase.field-0.0 = cc in
    rw (p.1, p.2, ← same) (reached_stuck c.loop-at.invariant c.loop-at-test.true (sym c.step.ensures ∙ stuck))

pub loop-at-preserved : goal.loop-at-preserved
loop-at-preserved c =
    reached_more c.loop-at.invariant c.loop-at-test.true (sym c.step.ensures ∙ c.in_ok-phase.ensures.ok_part)

pub returns-in-Line : goal.returns-in-Line
returns-in-Line c = reached_form c.loop-at.invariant c.loop-at-test.false c.in-Line.is

pub returns-in_default : goal.returns-in_default
returns-in_default c = reached_short c.loop-at.invariant c.loop-at-test.false c.in_default.not-Line
