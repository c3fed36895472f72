-- `points::has` meets its contract: the place is asked for in its word, and a word that the slice lacks has no member.
use mathlib.Core.Path.{sym}
use Prim.Native.Nat.{◌/◌}
use native.Mathlib.Omega.{arith}
use borrow.Author.Tests.{le-ltb}
use Rattle.sets.specs.Sets.{member}
use Rattle.sets.specs.Words.{word_width, AreWords}
use Rattle.points.proofs.Stored.{member_points, member_lacking}
use Rattle.points.proofs.has.Goals as goal
use Rattle.points.proofs.has.Goals.{After-held}

words : (c : After-held) → AreWords c.args.sets.now
words c = record { fits = λ i. (c.type_inv.sets i).fits }

pub returns-then-i-held : goal.returns-then-i-held
unfolding member
returns-then-i-held c =
    let args = c.args in
    rw c.word.ensures
    (sym (member_points args.sets.now args.at args.words args.place (words (goal.at.returns-then-i-held c).After-held) (omega arith)))

pub returns-else-i-held : goal.returns-else-i-held
returns-else-i-held c =
    let args = c.args in
    rw (le-ltb (args.place / word_width) c.held.result c.if-i-held.false)
    (sym (member_lacking args.sets.now args.at args.words args.place (words (goal.at.returns-else-i-held c).After-held) (omega arith)))
