-- `parts::leading::lead` meets its contract. The loop's invariant: the positions of the words gone through lead on.
use mathlib.Core.Path.{◌≡◌}
use lib.ListN.{length}
use Rattle.answers.specs.Limits.{point_words}
use Rattle.parts.specs.Rows.{Rows}
use Rattle.parts.specs.Leading.{points_in}
use Rattle.parts.proofs.LeadingOn.{Below}
use Rattle.parts.proofs.leading.lead.Given as goal

abbrev pub invariant-loop-i : goal.invariant-loop-i
invariant-loop-i l =
    (length l.follow ≡ length l.initial.follow)
    × Rows point_words l.initial.follow l.follow (Below l.last (points_in l.next) l.i)
