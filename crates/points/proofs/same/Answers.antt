use mathlib.Core.Path.{sym, ◌∙◌}
use native.Mathlib.Omega.{arith}
use borrow.Author.Count.{below_more}
use Rattle.sets.specs.Words.{AreWords}
use Rattle.points.proofs.Compared.{points_same, first_decides, second_decides}
use Rattle.points.proofs.same.Goals as goal
use Rattle.points.proofs.same.Goals.{At-loop-i}

-- both slices hold words
words : (c : At-loop-i) → AreWords c.args.sets.now
words c = record { fits = λ i. (c.type_inv.sets i).fits }

other_words_lem : (c : At-loop-i) → AreWords c.args.other.now
other_words_lem c = record { fits = λ i. (c.type_inv.other i).fits }

pub returns-then-word : goal.returns-then-word
returns-then-word c same =
    let args = c.args in
    c.if-word.true
    (c.word.ensures
    ∙ (points_same args.sets.now args.at args.other.now args.from args.words
    (words (goal.at.returns-then-word c).At-loop-i) (other_words_lem (goal.at.returns-then-word c).At-loop-i)).1 same c.loop-i.i (omega arith)
    ∙ sym c.word-in-loop-i.ensures)

pub loop-i-preserved : goal.loop-i-preserved
loop-i-preserved c =
    let alike = sym c.word.ensures ∙ c.if-word.false ∙ c.word-in-loop-i.ensures in
    below_more _ _ c.loop-i.invariant alike

pub returns-then-none : goal.returns-then-none
returns-then-none c =
    let args = c.args in
    let none = c.none in
    second_decides args.sets.now args.at args.other.now args.from args.words c.held-count.result
    (words (goal.at.returns-then-none c).At-loop-i) (other_words_lem (goal.at.returns-then-none c).At-loop-i) (λ j below. c.loop-i.invariant j (omega arith)) (omega arith)
    none.result c.none-then-none.result none.ensures c.if-none.true c.none-then-none.ensures

pub returns-else-none : goal.returns-else-none
returns-else-none c =
    let args = c.args in
    let none = c.none in
    first_decides args.sets.now args.at args.other.now args.from args.words c.held-count.result
    (words (goal.at.returns-else-none c).At-loop-i) (other_words_lem (goal.at.returns-else-none c).At-loop-i) (λ j below. c.loop-i.invariant j (omega arith)) (omega arith)
    none.result none.ensures c.if-none.false
