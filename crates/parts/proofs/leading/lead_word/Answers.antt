use mathlib.Core.Path.{refl, ◌∙◌}
use Prim.Native.Nat.{◌<◌}
use native.Mathlib.Omega.{arith}
use Rattle.sets.specs.Words.{word_width}
use Rattle.sets.proofs.Promise.{shifted_one}
use Rattle.points.proofs.Promise.{unite_length, lowest_none, without, without_keeps, without_falls}
use Rattle.parts.proofs.LeadingOn.{led_none, led_more, led_all}
use Rattle.parts.proofs.leading.lead_word.Goals as goal

pub loop-place-init : goal.loop-place-init
loop-place-init c =
    let args = c.args in
    (refl, c.ranges.word.fits, λ k m. m, led_none args.base args.word args.next.now args.follow.now)

pub loop-place-smaller : goal.loop-place-smaller
unfolding without
loop-place-smaller c =
    let lowest = c.in-Some.ensures in
    rw (shifted_one word_width c.in-Some.place lowest.inside)
    (without_falls c.loop-place.rest c.in-Some.place lowest.holds)

pub loop-place-preserved : goal.loop-place-preserved
unfolding without
loop-place-preserved c =
    let loop = c.loop-place in
    let place = c.in-Some.place in
    let lowest = c.in-Some.ensures in
    let unite = c.unite.ensures in
    let falls : without place loop.rest < loop.rest = without_falls loop.rest place lowest.holds in
    let args = c.args in
    rw (shifted_one word_width place lowest.inside) (
      unite_length unite ∙ loop.invariant.0,
      omega (arith, loop.invariant.1),
      λ k m. loop.invariant.2 k (without_keeps loop.rest place lowest.holds k m),
      led_more args.base args.word args.next.now loop.rest place loop.invariant.2 lowest.holds loop.invariant.3 unite,
    )

pub shape_of-follow : goal.shape_of-follow
shape_of-follow c = c.loop-place.invariant.0

pub returns : goal.returns
returns c =
    let args = c.args in
    let rest = lowest_none c.loop-place.rest c.in_default.ensures c.loop-place.invariant.1 in
    led_all args.base args.word args.next.now (rw rest at c.loop-place.invariant.3)
