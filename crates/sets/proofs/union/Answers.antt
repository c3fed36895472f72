-- `sets::union` meets its contract: the members of `|` are those of either word.
use Prim.Native.Nat.{◌^◌, ◌<◌}
use borrow.Author.Rules.{rules}
use lib.Bits.{bit_or, or_lt}
use Rattle.sets.specs.declared.Set.{Set}
use Rattle.sets.specs.Sets.{width}
use Rattle.sets.specs.Calls.{number, Union}
use Rattle.sets.proofs.Members.{member_or}
use Rattle.sets.proofs.union.Goals as goal

made : (x y : Set) → number x < 2 ^ width → number y < 2 ^ width
    → Union x y (record { word = bit_or (number x) (number y) })
made x y hx hy =
    record {
      fits = or_lt width (number x) (number y) hx hy;
      members = λ k. member_or k (number x) (number y);
    }

pub returns : goal.returns
returns c = made c.args.x c.args.y (search rules) (search rules)
