-- The invariant is `Surveying`: the sets of the records gone through are filled in, and their places are written.
use Rattle.book.proofs.Surveying.{Surveying}
use Rattle.book.proofs.useful.survey.Given as goal

abbrev pub invariant-loop-p : goal.invariant-loop-p
invariant-loop-p l =
    Surveying l.book l.count l.initial.places l.p l.place l.places l.names l.lefts
