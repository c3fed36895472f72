use Rattle.std.proofs.lemmas.Result.{err_from_is_err_and}
use mathlib.Core.Path.{refl}
use native.Mathlib.Omega.{arith}
use Rattle.offer.proofs.Steps.{front_token, front_end, running_start, running_stopped, running_over, running_next, stepped_from}
use Rattle.offer.proofs.strings.offer_all.Goals as goal

pub loop-token-init : goal.loop-token-init
loop-token-init c = (running_start _ _ _ _ _ _ c.args.stack.now c.requires c.put_start.ensures, refl)

pub returns-in_err-at : goal.returns-in_err-at
returns-in_err-at c =
    let p = err_from_is_err_and c.from_residual.result c.from_residual.ensures.1 in
    rw (p.1, p.2) (stepped_from c.args.stack.now _ c.put_start.ensures (running_stopped _ _ _ _ _ _ c.loop-token.invariant.0 (front_token _ c.loop-token-test.true c.loop-token.invariant.1) c.offer_at.ensures c.in_err-at.was))

pub loop-token-preserved : goal.loop-token-preserved
loop-token-preserved c =
    let matched = c.loop-token.invariant.1 in
    let on = running_next _ _ _ _ _ _ c.loop-token.invariant.0 (front_token _ c.loop-token-test.true matched) c.offer_at.ensures c.in_ok-at.was (omega (arith, c.loop-token-test.true)) in
    (on.0, omega (arith, on.1, matched))

pub returns : goal.returns
returns c =
    let matched = c.loop-token.invariant.1 in
    stepped_from c.args.stack.now _ c.put_start.ensures (running_over _ _ _ _ _ _ c.loop-token.invariant.0 (front_end _ c.loop-token-test.false matched) c.offer_at-2.ensures (omega (arith, c.loop-token-test.false)))
