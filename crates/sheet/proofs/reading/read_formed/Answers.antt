-- A verdict that goes on means that the sheet is a book's.
use mathlib.Core.Path.{sym, ◌∙◌}
use Rattle.sheet.proofs.Answering.{judged_refused}
use Rattle.sheet.proofs.reading.read_formed.Goals as goal

pub read_good-requires : goal.read_good-requires
read_good-requires c =
    (c.requires, (_, sym (rw c.head_in.ensures at c.judge.ensures) ∙ c.in-Ok.is))

pub returns-in-Err : goal.returns-in-Err
returns-in-Err c =
    rw c.from.ensures
    (judged_refused _ c.requires (rw c.head_in.ensures at c.judge.ensures) c.in-Err.is)
