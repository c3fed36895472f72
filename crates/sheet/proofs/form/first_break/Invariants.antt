-- The bytes read so far have come to the phase.
use Rattle.sheet.proofs.Stepping.{Reached}
use Rattle.sheet.proofs.form.first_break.Given as goal

abbrev pub invariant-loop-at : goal.invariant-loop-at
invariant-loop-at l = Reached l.sheet l.phase l.at
