-- `sets::apart` meets its contract: the digits that both have make 0 exactly if there is none.
use lib.Bits.{bit_and}
use lib.Dec.{eqb}
use borrow.Author.Tests.{eqb-true, eq-eqb}
use Rattle.sets.proofs.Equality.{and_disjoint, disjoint_and}
use Rattle.sets.proofs.Answers.{decided}
use Rattle.sets.proofs.apart.Goals as goal

pub returns : goal.returns
returns c =
    let x = c.args.x.word in
    let y = c.args.y.word in
    decided (eqb (bit_and x y) 0) (λ e. and_disjoint x y (eqb-true (bit_and x y) 0 e)) (λ d. eq-eqb (bit_and x y) 0 (disjoint_and x y d))
