use mathlib.Core.Path.{◌≡◌}
use Prim.Native.Nat.{◌<◌}
use native.Mathlib.Omega.{arith}
use lib.Seq.{get_or-take, length-take-le}
use Rattle.follow.proofs.Lookaheads.{ahead_none, ahead_next}
use Rattle.follow.proofs.ahead.fill_ahead.Goals as goal

pub loop-p-init : goal.loop-p-init
loop-p-init c = rw c.requires.2 ahead_none

pub lookahead_at-looked-requires : goal.lookahead_at-looked-requires
lookahead_at-looked-requires c =
    let below : c.loop-p.p < c.args.index.now.outline.productions = omega (arith, length-take-le c.args.index.now.outline.productions c.args.index.now.places c.requires.0.listed) in
    rw (get_or-take c.args.index.now.outline.productions c.args.index.now.places c.loop-p.p 0 below) (c.requires.0.each _ below)

pub loop-p-preserved : goal.loop-p-preserved
loop-p-preserved c =
    let below : c.loop-p.p < c.args.index.now.outline.productions = omega (arith, length-take-le c.args.index.now.outline.productions c.args.index.now.places c.requires.0.listed) in
    let same = get_or-take c.args.index.now.outline.productions c.args.index.now.places c.loop-p.p 0 below in
    ahead_next (omega (arith, c.requires.1)) c.loop-p.invariant c.word.ensures (rw same at c.lookahead_at-looked.ensures.holds)

pub returns : goal.returns
returns c =
    let all : c.loop-p.p ≡ c.args.index.now.outline.productions = omega (arith, length-take-le c.args.index.now.outline.productions c.args.index.now.places c.requires.0.listed) in
    rw all at c.loop-p.invariant
