use native.Mathlib.Omega.{arith}
use Rattle.sets.proofs.Promise.{decides_true, decides_false}
use Rattle.answers.proofs.Promise.{search_begun, search_next, search_some, search_none}
use Rattle.first.proofs.checks.stranger.Goals as goal

pub loop-i-init : goal.loop-i-init
loop-i-init c = search_begun

pub returns-then-not-is_symbol : goal.returns-then-not-is_symbol
returns-then-not-is_symbol c =
    search_some c.loop-i.invariant (omega arith)
    (decides_false _ c.is_symbol.result c.is_symbol.ensures c.if-not-is_symbol.true)

pub loop-i-preserved : goal.loop-i-preserved
loop-i-preserved c =
    let symbol = decides_true _ c.is_symbol.result c.is_symbol.ensures c.if-not-is_symbol.false in
    search_next c.loop-i.invariant (omega arith) (λ fails. fails symbol)

pub returns : goal.returns
returns c = search_none c.loop-i.invariant (omega arith)
