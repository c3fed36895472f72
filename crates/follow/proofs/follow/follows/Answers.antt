use native.Mathlib.Omega.{arith}
use lib.ListN.{replicate}
use Rattle.answers.specs.Limits.{most_productions}
use Rattle.first.proofs.Promise.{no_member, round_next, round_nearer}
use Rattle.follow.proofs.Halting.{single_end}
use Rattle.follow.proofs.Following.{whole_walkable, tails_walkable, follow_refines, follow_begun_round, follow_settled}
use Rattle.follow.proofs.follow.follows.Goals as goal

pub follow_pass-requires : goal.follow_pass-requires
follow_pass-requires c =
    whole_walkable c.requires.0 c.requires.1

pub loop-from-init : goal.loop-from-init
loop-from-init c =
    follow_begun_round _ _ _ _ _ (record { each = λ A. (c.type_inv.first A).fits }) (replicate most_productions 0) (no_member most_productions)
    (rw (c.requires.2, single_end c.single.ensures) at c.store.ensures) c.follow_pass.ensures.made

pub follow_pass-requires-in-loop-from : goal.follow_pass-requires-in-loop-from
follow_pass-requires-in-loop-from c =
    tails_walkable c.requires.0 (omega (arith, c.find_tails.auto.tails, c.requires.1)) c.find_tails.ensures

pub loop-from-smaller : goal.loop-from-smaller
loop-from-smaller c =
    round_nearer (follow_refines _ _ _ _ _ c.find_tails.new.tails (record { each = λ A. (c.type_inv.first A).fits })) c.loop-from.invariant c.follow_pass-in-loop-from.ensures c.loop-from-test.true

pub loop-from-preserved : goal.loop-from-preserved
loop-from-preserved c =
    round_next (follow_refines _ _ _ _ _ c.find_tails.new.tails (record { each = λ A. (c.type_inv.first A).fits })) c.loop-from.invariant c.follow_pass-in-loop-from.ensures

pub returns : goal.returns
returns c =
    follow_settled _ _ _ _ _ (record { each = λ A. (c.type_inv.first A).fits })
    c.find_tails.ensures c.loop-from.invariant c.follow_pass-in-loop-from.ensures c.loop-from-test.false
