-- FIRST, its number and its answer are written, or a buffer is too short.
use mathlib.Core.Logic.{⊎_elim}
use borrow.Author.Tests.{ltb-true, ltb-false}
use native.Mathlib.Omega.{arith}
use Rattle.desk.specs.Desk.{short}
use Rattle.desk.proofs.AnswerBytes.{answer_size_is}
use Rattle.desk.proofs.Calls.{set_call}
use Rattle.desk.proofs.desk_first_of.Goals as goal

pub returns-then-set-lt1 : goal.returns-then-set-lt1
returns-then-set-lt1 c =
    rw c.number.ensures
    (record {
      call =
          short (λ lent.
          ⊎_elim (λ w. omega (arith, lent.cell))
          (⊎_elim (λ w. omega (arith, lent.count, ltb-true)) (λ w. omega (arith, answer_size_is, lent.bytes, ltb-true)))
          c.then-set-lt1.either);
    })

pub tell_trail-requires : goal.tell_trail-requires
tell_trail-requires c =
    record { cell = omega arith; count = omega (arith, ltb-false); bytes = omega (arith, answer_size_is, ltb-false) }

pub returns : goal.returns
returns c =
    record { call = set_call c.first_of-begun.result (record { cell = omega arith; count = omega (arith, ltb-false); bytes = omega (arith, answer_size_is, ltb-false) }) c.first_of-begun.ensures c.tell_trail.ensures }
