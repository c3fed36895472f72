-- `states::found::States::token` meets its contract. The loop's invariant: no end in the words gone through.
use Rattle.states.proofs.Ends.{NoEnd}
use Rattle.states.proofs.found.States.token.Given as goal

abbrev pub invariant-loop-i : goal.invariant-loop-i
invariant-loop-i l = NoEnd l.self.sets l.state l.i
