-- What is found, or what it is refused with.
use mathlib.Core.Path.{refl}
use Rattle.desk.specs.Desk.{answer_in, set_in, vanishing_in}
use Rattle.desk.proofs.words.tell_trail.Goals as goal

pub returns-in-Ok : goal.returns-in-Ok
unfolding answer_in set_in vanishing_in
returns-in-Ok c =
    rw c.in-Ok.is
    (record {
      number = rw c.done.ensures at c.tell.ensures.number;
      written = rw c.word.ensures;
      counted = refl;
      bytes = rw c.done.ensures at c.tell.ensures.bytes;
    })

pub returns-in-Err : goal.returns-in-Err
unfolding answer_in set_in vanishing_in
returns-in-Err c =
    rw c.in-Err.is
    (record { number = c.tell-in-Err.ensures.number; written = refl; counted = refl; bytes = c.tell-in-Err.ensures.bytes })
