use mathlib.Core.Path.{◌≡◌, refl}
use Prim.Native.Nat.{◌<◌}
use native.Mathlib.Omega.{arith}
use lib.ListN.{length-set}
use lib.Seq.{get_or-take, length-take-le}
use Rattle.follow.proofs.Following.{tails_next}
use Rattle.follow.proofs.tails.find_tails.Goals as goal

pub loop-p-init : goal.loop-p-init
loop-p-init c = (refl, record { each = λ p none. absurd (omega arith) })

pub tail_at-requires : goal.tail_at-requires
tail_at-requires c =
    let below : c.loop-p.p < c.args.index.now.outline.productions = omega (arith, length-take-le c.args.index.now.outline.productions c.args.index.now.places c.requires.0.listed) in
    rw (get_or-take c.args.index.now.outline.productions c.args.index.now.places c.loop-p.p 0 below) (c.requires.0.each _ below)

pub bounds-tails-p : goal.bounds-tails-p
bounds-tails-p c =
    omega (arith, c.loop-p.invariant.0, c.requires.1, length-take-le c.args.index.now.outline.productions c.args.index.now.places c.requires.0.listed)

pub loop-p-preserved : goal.loop-p-preserved
loop-p-preserved c =
    let below : c.loop-p.p < c.args.index.now.outline.productions = omega (arith, length-take-le c.args.index.now.outline.productions c.args.index.now.places c.requires.0.listed) in
    let same = get_or-take c.args.index.now.outline.productions c.args.index.now.places c.loop-p.p 0 below in (
      rw length-set c.loop-p.invariant.0,
      tails_next (omega (arith, c.loop-p.invariant.0, c.requires.1)) c.loop-p.invariant.1 (rw same at c.tail_at.ensures),
    )

pub shape_of-tails : goal.shape_of-tails
shape_of-tails c = c.loop-p.invariant.0

pub returns : goal.returns
returns c =
    let all : c.loop-p.p ≡ c.args.index.now.outline.productions = omega (arith, length-take-le c.args.index.now.outline.productions c.args.index.now.places c.requires.0.listed) in
    rw all at c.loop-p.invariant.1
