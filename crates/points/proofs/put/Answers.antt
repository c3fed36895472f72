-- `points::put` meets its contract: the place is added in its word, and one that the slice has no word for is dropped.
use mathlib.Core.Path.{◌≡◌, sym, ap, ◌∙◌}
use Prim.Native.Nat.{ℕ, ◌+◌, ◌*◌, ◌/◌, ◌%◌, ◌^◌, ◌<◌}
use native.Mathlib.Omega.{arith}
use lib.Bits.{bit_or}
use lib.ListN.{get_or, set}
use Rattle.sets.specs.Sets.{only, united, added}
use Rattle.sets.specs.Words.{word_width, AreWords}
use Rattle.sets.proofs.Promise.{shifted_one}
use Rattle.points.proofs.Stored.{stored_at_added, stored_at_lacking}
use Rattle.points.proofs.put.Goals as goal
use Rattle.points.proofs.put.Goals.{After-held}

words : (c : After-held) → AreWords c.args.sets.now
words c = record { fits = λ i. (c.type_inv.sets i).fits }

word_is : (k x : ℕ) → k < word_width → bit_or x ((1 * 2 ^ k) % 2 ^ word_width) ≡ added k x
unfolding added united only
word_is k x below = ap (bit_or x) (shifted_one word_width k below)

pub returns-then-i-held : goal.returns-then-i-held
returns-then-i-held c =
    let args = c.args in
    let before = args.sets.now in
    let at = args.at in
    let place = args.place in
    let target = at + place / word_width in
    record {
      words = words (goal.at.returns-then-i-held c).After-held;
      content =
          ap (set before target) (word_is (place % word_width) (get_or before target 0) (omega arith))
          ∙ sym (stored_at_added before at args.words place (words (goal.at.returns-then-i-held c).After-held) (omega arith));
    }

pub returns-else-i-held : goal.returns-else-i-held
returns-else-i-held c =
    let args = c.args in
    let before = words (goal.at.returns-else-i-held c).After-held in
    record {
      words = before;
      content = sym (stored_at_lacking args.sets.now args.at args.words args.place before (omega arith));
    }
