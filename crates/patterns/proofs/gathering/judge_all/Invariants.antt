-- The invariant: the patterns before the next one are good, and the tables have what they add.
use mathlib.Core.Path.{◌≡◌}
use lib.ListN.{length}
use Rattle.patterns.specs.Gathering.{GoodSoFar}
use Rattle.patterns.proofs.gathering.judge_all.Given as goal

abbrev pub invariant-loop-number : goal.invariant-loop-number
invariant-loop-number l =
    (length l.readers ≡ length l.fn.readers)
    × (length l.follow ≡ length l.fn.follow)
    × GoodSoFar l.patterns l.lengths l.fn.readers l.fn.follow l.number l.start l.count l.readers l.follow
