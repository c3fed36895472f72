-- `patterns::fill` meets its contract.
use mathlib.Core.Path.{sym}
use native.Mathlib.Omega.{arith}
use lib.Seq.{length-take-le}
use Rattle.std.proofs.lemmas.Result.{MatchResult-weaker}
use Rattle.patterns.specs.Calls.{readers_length, follow_length}
use Rattle.patterns.proofs.Outcomes.{fill_refused, filled}
use Rattle.patterns.proofs.fill.Goals as goal

pub slice_bounds-gather-end-2 : goal.slice_bounds-gather-end-2
slice_bounds-gather-end-2 c =
    sym (length-take-le readers_length c.fill.new.self (omega (arith, c.fill.ensures.len, c.requires.readers_fit)))

pub slice_bounds-gather-end-4 : goal.slice_bounds-gather-end-4
slice_bounds-gather-end-4 c =
    sym (length-take-le follow_length c.fill-2.new.self (omega (arith, c.fill-2.ensures.len, c.requires.follow_fit)))

pub returns : goal.returns
returns c =
    let r = c.fill.ensures.after (λ y e. e) in
    let f = c.fill-2.ensures.after (λ y e. e) in
    MatchResult-weaker c.gather.result c.gather.ensures
    (λ _ g.
    filled _ _ _ _ _ _ _ _ r f c.gather.auto.readers c.gather.auto.follow c.requires
    (record { fits = λ i. (c.type_inv.readers i).fits }) (record { fits = λ i. (c.type_inv.follow i).fits }) g)
    (λ a refuses. fill_refused _ _ _ _ _ _ _ _ r f c.gather.auto.readers c.gather.auto.follow refuses)
