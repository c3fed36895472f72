-- The invariant: 64 sets that are sound so far.
use Prim.Native.Nat.{◌-◌, ◌*◌, ◌^◌}
use Rattle.sets.specs.Sets.{width}
use Rattle.answers.specs.Limits.{most_nonterminals}
use Rattle.first.proofs.Growth.{total}
use Rattle.first.proofs.Rounds.{Round}
use Rattle.first.proofs.Found.{FirstSoFar}
use Rattle.first.proofs.first.firsts.Given as goal

abbrev pub invariant-loop : goal.invariant-loop
invariant-loop l = Round (FirstSoFar l.book l.index.places l.index.outline.productions) l.first

abbrev pub decreases-loop : goal.decreases-loop
decreases-loop l = most_nonterminals * 2 ^ width - total l.first
