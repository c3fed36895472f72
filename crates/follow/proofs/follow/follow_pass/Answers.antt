use mathlib.Core.Path.{◌≡◌, refl}
use Prim.Native.Nat.{◌<◌}
use native.Mathlib.Omega.{arith}
use lib.Seq.{get_or-take, length-take-le}
use Rattle.first.specs.Steps.{passed}
use Rattle.first.proofs.Promise.{made_next}
use Rattle.follow.proofs.Following.{follow_expands}
use Rattle.follow.proofs.follow.follow_pass.Goals as goal

pub loop-p-init : goal.loop-p-init
unfolding passed
loop-p-init c = (refl, record { made = refl; same = refl })

pub bounds-from-p : goal.bounds-from-p
bounds-from-p c =
    omega (arith, c.requires.listed, length-take-le c.args.index.now.outline.productions c.args.index.now.places c.requires.walkable.readable.listed)

pub follow_step-settled-requires : goal.follow_step-settled-requires
follow_step-settled-requires c =
    let below : c.loop-p.p < c.args.index.now.outline.productions = omega (arith, length-take-le c.args.index.now.outline.productions c.args.index.now.places c.requires.walkable.readable.listed) in
    rw (get_or-take c.args.index.now.outline.productions c.args.index.now.places c.loop-p.p 0 below)
    (c.requires.walkable.readable.each _ below, c.requires.walkable.narrow _ below, c.requires.inside _ below)

pub loop-p-preserved : goal.loop-p-preserved
loop-p-preserved c =
    let below : c.loop-p.p < c.args.index.now.outline.productions = omega (arith, length-take-le c.args.index.now.outline.productions c.args.index.now.places c.requires.walkable.readable.listed) in
    let same = get_or-take c.args.index.now.outline.productions c.args.index.now.places c.loop-p.p 0 below in (
      omega (arith, c.follow_step-settled.auto.follow, c.loop-p.invariant.0),
      made_next (follow_expands _ c.args.index.now.places _ c.args.from.now) c.loop-p.p _ _ c.loop-p.invariant.1 (rw same at c.follow_step-settled.ensures),
    )

pub returns : goal.returns
returns c =
    let all : c.loop-p.p ≡ c.args.index.now.outline.productions = omega (arith, length-take-le c.args.index.now.outline.productions c.args.index.now.places c.requires.walkable.readable.listed) in
    rw all at c.loop-p.invariant.1
