-- `sets::with` meets its contract: a place below the width is shifted there whole, and any other changes nothing.
use mathlib.Core.Path.{◌≡◌, ap}
use mathlib.Core.Bool.{and-true, and-false, or-false}
use Prim.Native.Nat.{ℕ, ◌*◌, ◌%◌, ◌^◌, ◌<◌}
use borrow.Author.Rules.{rules}
use borrow.Author.Tests.{lt-ltb, le-ltb}
use lib.Bits.{bit_or}
use Rattle.sets.specs.declared.Set.{Set}
use Rattle.sets.specs.Sets.{width, only, united, added}
use Rattle.sets.specs.Calls.{number, With}
use Rattle.sets.proofs.Members.{shifted_one}
use Rattle.sets.proofs.Operations.{member_added}
use Rattle.sets.proofs.Order.{added_fits}
use Rattle.sets.proofs.with.Goals as goal

word_is : (k x : ℕ) → k < width → bit_or x ((1 * 2 ^ k) % 2 ^ width) ≡ added k x
unfolding added united only
word_is k x below = ap (bit_or x) (shifted_one width k below)

made : (s : Set) (bit : ℕ) → bit < width → number s < 2 ^ width
    → With s bit (record { word = bit_or (number s) ((1 * 2 ^ bit) % 2 ^ width) })
made s bit below h =
    record {
      fits = rw (word_is bit (number s) below) (added_fits width bit (number s) below h);
      members = λ k.
          rw (word_is bit (number s) below, lt-ltb bit width below, and-true) (member_added k bit (number s));
    }

pub returns-then-bit-lt-WIDTH : goal.returns-then-bit-lt-WIDTH
returns-then-bit-lt-WIDTH c = made c.args.s c.args.bit c.if-bit-lt-WIDTH.true (search rules)

pub returns-else-bit-lt-WIDTH : goal.returns-else-bit-lt-WIDTH
returns-else-bit-lt-WIDTH c =
    record {
      fits = search rules;
      members = λ k. simp (le-ltb c.args.bit width c.if-bit-lt-WIDTH.false, and-false, or-false);
    }
