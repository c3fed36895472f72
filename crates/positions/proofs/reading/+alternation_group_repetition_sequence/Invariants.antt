-- The cycle of calls {alternation, group, repetition, sequence}. Groups that may still open fall from call to call; among calls
-- at one depth, so does the sort of the part. Both loops' invariant: the part up to here was read; the measure is the bytes left.
use Rattle.std.proofs.Common.{◌≡◌, ◌+◌, ◌-◌, ◌*◌, length}
use Rattle.parts.specs.Reading.{RepetitionsMeant, AlternativesMeant}
use Rattle.positions.proofs.reading.+alternation_group_repetition_sequence.Given as goal

abbrev pub decreases-alternation : goal.decreases-alternation
decreases-alternation l = 4 * l.depth + 3

abbrev pub decreases-group : goal.decreases-group
decreases-group l = 4 * l.depth

abbrev pub decreases-repetition : goal.decreases-repetition
decreases-repetition l = 4 * l.depth + 1

abbrev pub decreases-sequence : goal.decreases-sequence
decreases-sequence l = 4 * l.depth + 2

abbrev pub invariant-alternation-loop-readers : goal.invariant-alternation-loop-readers
invariant-alternation-loop-readers l =
    (length l.readers ≡ length l.fn.readers)
    × (length l.follow ≡ length l.fn.follow)
    × AlternativesMeant l.pattern l.depth l.at l.count l.fn.readers l.fn.follow l.whole l.readers l.follow

abbrev pub decreases-alternation-loop-readers : goal.decreases-alternation-loop-readers
decreases-alternation-loop-readers l = length l.pattern - l.whole.at

abbrev pub invariant-sequence-loop-readers : goal.invariant-sequence-loop-readers
invariant-sequence-loop-readers l =
    (length l.readers ≡ length l.fn.readers)
    × (length l.follow ≡ length l.fn.follow)
    × RepetitionsMeant l.pattern l.depth l.at l.count l.fn.readers l.fn.follow l.whole l.readers l.follow

abbrev pub decreases-sequence-loop-readers : goal.decreases-sequence-loop-readers
decreases-sequence-loop-readers l = length l.pattern - l.whole.at
