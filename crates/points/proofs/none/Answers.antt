use mathlib.Core.Path.{sym, ◌∙◌}
use native.Mathlib.Omega.{arith}
use borrow.Author.Count.{below_more}
use Rattle.points.proofs.Compared.{points_none, none_held}
use Rattle.points.proofs.none.Goals as goal

pub returns-then-word-ne0 : goal.returns-then-word-ne0
returns-then-word-ne0 c none =
    let args = c.args in
    c.if-word-ne0.true
    (c.word.ensures
    ∙ (points_none args.sets.now args.at args.words).1 none c.loop-i.i (omega arith))

pub loop-i-preserved : goal.loop-i-preserved
loop-i-preserved c = below_more _ _ c.loop-i.invariant (sym c.word.ensures ∙ c.if-word-ne0.false)

pub returns : goal.returns
returns c =
    let args = c.args in
    none_held args.sets.now args.at args.words c.loop-i.i (omega arith) c.loop-i.invariant
