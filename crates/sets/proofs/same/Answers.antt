-- `sets::same` meets its contract, by its test.
use lib.Dec.{eqb}
use borrow.Author.Tests.{eqb-true, eq-eqb}
use Rattle.sets.proofs.Answers.{decided}
use Rattle.sets.proofs.same.Goals as goal

pub returns : goal.returns
returns c =
    let x = c.args.x.word in
    let y = c.args.y.word in
    decided (eqb x y) (eqb-true x y) (eq-eqb x y)
