-- What is united is the trail of the right side.
use Prim.Native.Nat.{◌+◌}
use native.Mathlib.Omega.{arith}
use Rattle.first.specs.Steps.{first_step}
use Rattle.first.proofs.Trail.{single_empty}
use Rattle.first.proofs.Spelled.{right_part}
use Rattle.first.proofs.first.first_step.Goals as goal

pub overflow_cast-book : goal.overflow_cast-book
overflow_cast-book c = record { fits = omega (arith, (c.type_inv.book (c.args.place + 2)).fits) }

pub returns : goal.returns
unfolding first_step
returns c =
    let pre = c.requires in
    let single = c.single in
    let trail_of = c.trail_of-begun in
    let unite = c.unite in
    record {
      made = rw (unite.ensures.made, trail_of.ensures.holds, single_empty single.ensures, right_part _ _ pre);
      same = unite.ensures.same;
    }
