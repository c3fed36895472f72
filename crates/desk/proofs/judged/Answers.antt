-- A book is served or refused.
use mathlib.Core.List.{List}
use Prim.Native.Nat.{ℕ}
use Rattle.std.specs.Prelude.{Result, Ok, Err}
use Rattle.answers.specs.declared.Answer.{Answer}
use Rattle.answers.specs.Answers.{told}
use Rattle.book.specs.declared.Index.{Index}
use Rattle.book.specs.Judging.{Judged}
use Rattle.desk.specs.Desk.{JudgeOutcome, refused, served}
use Rattle.desk.proofs.judged.Goals as goal

outcome : {book : List ℕ} (r : Result Index Answer) → Judged book r → JudgeOutcome book (told r)
outcome (Ok index) serves = served serves
outcome (Err a) refuses = refused refuses

pub returns : goal.returns
returns c = rw c.told.ensures (outcome _ c.judge.ensures)
