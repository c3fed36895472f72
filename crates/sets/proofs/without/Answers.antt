-- `sets::without` meets its contract: a place below the width is masked out, and a set has no member at any other.
use mathlib.Core.Path.{sym}
use Prim.Native.Nat.{ℕ, ◌-◌, ◌*◌, ◌%◌, ◌^◌, ◌<◌}
use borrow.Author.Rules.{rules}
use lib.Bits.{bit_and, and_lt}
use lib.Pow.{ones_sub-lt}
use Rattle.sets.specs.declared.Set.{Set}
use Rattle.sets.specs.Sets.{width}
use Rattle.sets.specs.Calls.{number, Without}
use Rattle.sets.proofs.Members.{shifted_one, member_cleared, member_past}
use Rattle.sets.proofs.Operations.{removed_absent}
use Rattle.sets.proofs.without.Goals as goal

made : (s : Set) (bit : ℕ) → bit < width → number s < 2 ^ width
    → Without s bit (record { word = bit_and (number s) ((2 ^ width - 1) - (1 * 2 ^ bit) % 2 ^ width) })
made s bit below h =
    record {
      fits = and_lt width (number s) ((2 ^ width - 1) - (1 * 2 ^ bit) % 2 ^ width) h (ones_sub-lt width ((1 * 2 ^ bit) % 2 ^ width));
      members = λ k. rw (shifted_one width bit below) (member_cleared width k bit (number s) h below);
    }

pub returns-then-bit-lt-WIDTH : goal.returns-then-bit-lt-WIDTH
returns-then-bit-lt-WIDTH c = made c.args.s c.args.bit c.if-bit-lt-WIDTH.true (search rules)

pub returns-else-bit-lt-WIDTH : goal.returns-else-bit-lt-WIDTH
returns-else-bit-lt-WIDTH c =
    let s = number c.args.s in
    let bit = c.args.bit in
    record {
      fits = search rules;
      members = λ k. sym (removed_absent k bit s (member_past {w = width} bit s (search rules) c.if-bit-lt-WIDTH.false));
    }
