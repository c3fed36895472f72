use Rattle.first.proofs.Rounds.{round_next, round_nearer, round_last}
use Rattle.first.proofs.Found.{first_refines, first_begun, first_found}
use Rattle.first.proofs.first.firsts.Goals as goal

pub loop-init : goal.loop-init
loop-init c = rw c.requires.1 (first_begun _ _ _)

pub loop-smaller : goal.loop-smaller
loop-smaller c =
    let loop = c.loop in
    round_nearer (first_refines _ _ _) loop.invariant c.first_pass.ensures c.loop-test.true

pub loop-preserved : goal.loop-preserved
loop-preserved c =
    let loop = c.loop in
    round_next (first_refines _ _ _) loop.invariant c.first_pass.ensures

pub returns : goal.returns
returns c =
    let loop = c.loop in
    first_found _ _ _ (round_next (first_refines _ _ _) loop.invariant c.first_pass.ensures)
    (round_last c.first_pass.ensures c.loop-test.false)
