-- `parts::leading::lead_word` meets its contract. The loop's invariant: the members gone from the word lead on.
use mathlib.Core.Path.{◌≡◌}
use Prim.Native.Nat.{◌^◌, ◌<◌}
use lib.ListN.{length}
use Rattle.sets.specs.Sets.{Subset}
use Rattle.sets.specs.Words.{word_width}
use Rattle.answers.specs.Limits.{point_words}
use Rattle.parts.specs.Rows.{Rows}
use Rattle.parts.specs.Leading.{points_in}
use Rattle.parts.proofs.LeadingOn.{Gone}
use Rattle.parts.proofs.leading.lead_word.Given as goal

abbrev pub invariant-loop-place : goal.invariant-loop-place
invariant-loop-place l =
    (length l.follow ≡ length l.initial.follow)
    × (l.rest < 2 ^ word_width)
    × Subset l.rest l.word
    × Rows point_words l.initial.follow l.follow (Gone l.base l.word l.rest (points_in l.next))

abbrev pub decreases-loop-place : goal.decreases-loop-place
decreases-loop-place l = l.rest
