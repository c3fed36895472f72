-- The steps, their answer, and the cleared stack.
use native.Mathlib.Omega.{arith}
use borrow.Author.Rules.{rules}
use Rattle.expand.proofs.ExpandAnswers.{unfolds_countable, unfolds_answered}
use Rattle.expand.proofs.expand_on.Goals as goal

pub unfold_all-u-requires : goal.unfold_all-u-requires
unfold_all-u-requires c =
    (search rules, rw (c.new-rules.ensures.book, c.new-rules.ensures.places, c.new-rules.ensures.outline) c.gather_lefts-lefts.ensures)

pub answer_to-requires : goal.answer_to-requires
answer_to-requires c =
    unfolds_countable c.unfold_all-u.ensures (omega (arith, c.well_formed))

pub returns : goal.returns
returns c =
    unfolds_answered (rw (c.new-rules.ensures.book, c.new-rules.ensures.places, c.new-rules.ensures.outline) at c.unfold_all-u.ensures) c.answer_to.ensures c.clear.ensures
