-- The invariant: 64 sets that are sound so far and have the end mark behind the start symbol.
use Prim.Native.Nat.{◌-◌, ◌*◌, ◌^◌}
use Rattle.sets.specs.Sets.{width}
use Rattle.answers.specs.Limits.{most_nonterminals}
use Rattle.first.proofs.Promise.{total, Round}
use Rattle.follow.proofs.Following.{FollowSoFar}
use Rattle.follow.proofs.follow.follows.Given as goal

abbrev pub invariant-loop-from : goal.invariant-loop-from
invariant-loop-from l = Round (FollowSoFar l.book l.index.places l.index.outline.productions l.index.outline.start l.first) l.follow

abbrev pub decreases-loop-from : goal.decreases-loop-from
decreases-loop-from l = most_nonterminals * 2 ^ width - total l.follow
