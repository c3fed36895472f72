-- `moves::lead_word` meets its contract. The loop's invariant: the members gone from the word lead on.
use Rattle.sets.specs.Sets.{Subset}
use Rattle.moves.specs.Growing.{Grown}
use Rattle.moves.proofs.Leading.{Gone}
use Rattle.moves.proofs.lead_word.Given as goal

abbrev pub invariant-loop-place : goal.invariant-loop-place
invariant-loop-place l = Subset l.rest l.word × Grown l.initial.next l.next (Gone l.base l.word l.rest l.follow)

abbrev pub decreases-loop-place : goal.decreases-loop-place
decreases-loop-place l = l.rest
