use mathlib.Core.Path.{◌≡◌, refl}
use Prim.Native.Nat.{◌<◌}
use native.Mathlib.Omega.{arith}
use lib.Seq.{get_or-take, length-take-le}
use Rattle.first.specs.Steps.{passed}
use Rattle.first.proofs.Growth.{made_next}
use Rattle.first.proofs.Found.{first_expands}
use Rattle.first.proofs.first.first_pass.Goals as goal

pub loop-place-init : goal.loop-place-init
unfolding passed
loop-place-init c = (refl, record { made = refl; same = refl })

pub loop-place-preserved : goal.loop-place-preserved
loop-place-preserved c =
    let below : c.loop-place.place-index < c.args.index.now.outline.productions = omega (arith, length-take-le c.args.index.now.outline.productions c.args.index.now.places c.requires.listed) in
    let same = get_or-take c.args.index.now.outline.productions c.args.index.now.places c.loop-place.place-index 0 below in (
      omega (arith, c.first_step-settled.auto.first),
      made_next (first_expands _ c.args.index.now.places) c.loop-place.place-index _ _ c.loop-place.invariant.1 (rw same at c.first_step-settled.ensures),
    )

pub first_step-settled-requires : goal.first_step-settled-requires
first_step-settled-requires c =
    let below : c.loop-place.place-index < c.args.index.now.outline.productions = omega (arith, length-take-le c.args.index.now.outline.productions c.args.index.now.places c.requires.listed) in
    rw (get_or-take c.args.index.now.outline.productions c.args.index.now.places c.loop-place.place-index 0 below) (c.requires.each _ below)

pub returns : goal.returns
returns c =
    let all : c.loop-place.place-index ≡ c.args.index.now.outline.productions = omega (arith, length-take-le c.args.index.now.outline.productions c.args.index.now.places c.requires.listed) in
    rw all at c.loop-place.invariant.1
