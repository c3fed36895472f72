-- The first closure is the productive nonterminals, the second the useful ones.
use mathlib.Core.Path.{sym, ◌∙◌}
use Rattle.sets.proofs.Promise.{none_is}
use Rattle.book.proofs.Filling.{single_exactly}
use Rattle.book.proofs.Usefulness.{tells_lowest, tells_all}
use Rattle.book.proofs.useful.first_useless.Goals as goal
use Rattle.book.proofs.useful.first_useless.Goals.{then-has, else-has}

pub returns : goal.returns
returns c =
    let closed = rw (none_is c.none.ensures) at c.closure-productive.ensures in
    let missing = c.lowest_missing.ensures in
    elim c.if-has.branch [
      | then-has w ↦
          tells_lowest closed _ (sym c.has.ensures ∙ w.if-has.true) w.keep_productive.ensures (single_exactly w.single.ensures)
          w.closure-used.ensures (rw w.used-is at missing)
      | else-has w ↦
          tells_all closed _ w.none-used.ensures (sym c.has.ensures ∙ w.if-has.false) (rw w.used-is at missing)
    ]
