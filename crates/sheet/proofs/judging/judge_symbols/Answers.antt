use mathlib.Core.Path.{sym, ◌∙◌}
use Rattle.std.proofs.lemmas.Result.{err_from_is_err_and}
use Rattle.sheet.proofs.Turning.{symbols_go, symbols_stop, symbols_over, symbols_closed}
use Rattle.sheet.proofs.judging.judge_symbols.Goals as goal

pub returns-then-not-is_space : goal.returns-then-not-is_space
returns-then-not-is_space c =
    sym (symbols_over _ _ _ _ _ _ c.loop-test.true (sym c.is_space.ensures ∙ c.if-not-is_space.true))
    ∙ c.loop.invariant

pub returns-in_err-place : goal.returns-in_err-place
returns-in_err-place c =
    let p = err_from_is_err_and c.from_residual.result c.from_residual.ensures.1 in
    rw (p.1, p.2)
    (sym (symbols_stop _ _ _ _ _ _ c.loop-test.true (sym c.is_space.ensures ∙ c.if-not-is_space.false) c.judge_symbol.ensures c.in_err-place.was)
    ∙ c.loop.invariant)

pub loop-preserved : goal.loop-preserved
loop-preserved c =
    sym (symbols_go _ _ _ _ _ _ c.loop-test.true (sym c.is_space.ensures ∙ c.if-not-is_space.false) c.judge_symbol.ensures c.in_ok-place.was)
    ∙ c.loop.invariant

pub returns : goal.returns
returns c = c.closed.ensures ∙ sym (symbols_closed _ _ _ _ _ _ c.loop-test.false) ∙ c.loop.invariant
