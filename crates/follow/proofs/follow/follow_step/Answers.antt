use mathlib.Core.Path.{refl}
use Prim.Native.Nat.{◌+◌}
use native.Mathlib.Omega.{arith}
use Rattle.reader.proofs.Promise.{every_in}
use Rattle.follow.proofs.Following.{walking_begun, walking_next, walking_over}
use Rattle.follow.proofs.follow.follow_step.Goals as goal

pub bounds-book-at : goal.bounds-book-at
bounds-book-at c = omega (arith, c.requires.0.inside)

pub overflow_cast-book : goal.overflow_cast-book
overflow_cast-book c = record { fits = omega (arith, (c.type_inv.book (c.args.place + 2)).fits) }

pub bounds-book-at-2 : goal.bounds-book-at-2
bounds-book-at-2 c = omega (arith, c.requires.0.inside)

pub loop-j-init : goal.loop-j-init
loop-j-init c = walking_begun refl c.requires.2

pub bounds-book-at-in-loop-j : goal.bounds-book-at-in-loop-j
bounds-book-at-in-loop-j c = omega (arith, c.requires.0.inside)

pub pass_over-passed-requires : goal.pass_over-passed-requires
pass_over-passed-requires c =
    every_in _ _ _ c.requires.1 _ (omega (arith, c.loop-j.auto.j, c.loop-j-test.true))

pub loop-j-preserved : goal.loop-j-preserved
loop-j-preserved c =
    walking_next c.loop-j.invariant c.loop-j-test.true c.pass_over-passed.auto.follow c.pass_over-passed.ensures

pub shape_of-follow : goal.shape_of-follow
shape_of-follow c = c.loop-j.invariant.sized

pub returns : goal.returns
returns c =
    walking_over c.loop-j.invariant c.loop-j-test.false c.load.ensures.loaded
