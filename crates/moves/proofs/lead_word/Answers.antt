use Rattle.sets.specs.Words.{word_width}
use Rattle.sets.proofs.Promise.{shifted_one}
use Rattle.points.proofs.Promise.{lowest_none, without, without_keeps, without_falls}
use Rattle.moves.proofs.Leading.{led_more, led_all}
use Rattle.moves.proofs.lead_word.Goals as goal

pub loop-place-smaller : goal.loop-place-smaller
unfolding without
loop-place-smaller c =
    let found = c.in-Some.ensures in
    rw (shifted_one word_width c.in-Some.place found.inside) (without_falls c.loop-place.rest c.in-Some.place found.holds)

pub loop-place-preserved : goal.loop-place-preserved
unfolding without
loop-place-preserved c =
    let args = c.args in
    let loop = c.loop-place in
    let place = c.in-Some.place in
    let found = c.in-Some.ensures in
    rw (shifted_one word_width place found.inside) (
      λ k m. loop.invariant.0 k (without_keeps loop.rest place found.holds k m),
      led_more args.base args.word args.follow.now loop.rest place loop.invariant.0 found.holds loop.invariant.1 c.unite.ensures,
    )

pub returns : goal.returns
returns c =
    let args = c.args in
    let empty = lowest_none c.loop-place.rest c.in_default.ensures c.loop-place.auto.rest-fits.fits in
    led_all args.base args.word args.follow.now (rw empty at c.loop-place.invariant.1)
