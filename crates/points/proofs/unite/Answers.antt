use mathlib.Core.Path.{refl, sym, ◌∙◌}
use Prim.Native.Nat.{◌-◌, ◌≤◌, min}
use native.Mathlib.Nat.{add-zero, sub-zero}
use native.Mathlib.Omega.{arith}
use lib.ListN.{length, length-set}
use Rattle.sets.specs.Sets.{united}
use Rattle.sets.specs.Words.{AreWords}
use Rattle.points.proofs.Union.{united_whole, united_next, united_all}
use Rattle.points.proofs.unite.Goals as goal
use Rattle.points.proofs.unite.Goals.{After-held-end}

pub loop-i-init : goal.loop-i-init
loop-i-init c = (refl, simp (add-zero, sub-zero))

pub loop-i-preserved : goal.loop-i-preserved
unfolding united
loop-i-preserved c =
    let args = c.args in
    let sets = c.loop-i.sets in
    let i = c.loop-i.i in (
      simp length-set c.loop-i.invariant.0,
      rw c.word.ensures
          (united_next sets args.at args.words i args.other.now args.from (omega arith) ∙ c.loop-i.invariant.1),
    )

pub shape_of-sets : goal.shape_of-sets
shape_of-sets c = c.loop-i.invariant.0

pub returns : goal.returns
returns c =
    let loop = c.loop-i in
    let held = c.held in
    let held2 = c.held-end in
    let args = c.args in
    let before = args.sets.now in
    let other = args.other.now in
    let words : AreWords before = record { fits = λ i. ((goal.at.returns c).After-held-end.type_inv.sets i).fits } in
    let other_words : AreWords other = record { fits = λ i. (c.type_inv.other i).fits } in
    let ended : min (min args.words (length loop.sets - args.at)) (length other - args.from) ≤ loop.i =
    rw (loop.invariant.0, ← held.ensures, ← held2.ensures) c.loop-i-test.false in
    record {
      words = words;
      other_words = other_words;
      content =
          sym (united_all loop.sets args.at args.words loop.i other args.from ended)
          ∙ loop.invariant.1
          ∙ united_whole before args.at args.words other args.from words other_words;
    }
