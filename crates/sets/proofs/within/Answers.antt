-- `sets::within` meets its contract: a union with y is y exactly if it adds nothing.
use lib.Dec.{eqb}
use borrow.Author.Tests.{eqb-true, eq-eqb}
use Rattle.sets.specs.Sets.{united}
use Rattle.sets.proofs.Equality.{united_subset, subset_united}
use Rattle.sets.proofs.Answers.{decided}
use Rattle.sets.proofs.within.Goals as goal

pub returns : goal.returns
unfolding united
returns c =
    let x = c.args.x.word in
    let y = c.args.y.word in
    decided (eqb (united x y) y) (λ e. subset_united x y (eqb-true (united x y) y e)) (λ sub. eq-eqb (united x y) y (united_subset x y sub))
