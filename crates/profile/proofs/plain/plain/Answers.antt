-- What judging refuses, or the profile of what it gives.
use mathlib.Core.List.{List}
use Prim.Native.Nat.{ℕ}
use Rattle.std.specs.Prelude.{Result, Ok, Err, ⊤}
use Rattle.answers.specs.declared.Answer.{Answer}
use Rattle.answers.specs.Answers.{told}
use Rattle.book.specs.declared.Index.{Index}
use Rattle.profile.specs.Plain.{PlainOutcome, refused}
use Rattle.profile.specs.Breaking.{Profiled}
use Rattle.profile.proofs.Breaking.{refused_plain, plain_fits}
use Rattle.profile.proofs.plain.plain.Goals as goal

profiled : {book : List ℕ} (i : Index) (r : Result ⊤ Answer) → Profiled book i r → PlainOutcome book (told r)
profiled i (Ok done) fits = plain_fits fits
profiled i (Err a) unfit = refused_plain unfit

pub returns-in-Ok : goal.returns-in-Ok
returns-in-Ok c = rw c.told.ensures (profiled _ _ c.profile_of.ensures)

pub returns-in-Err : goal.returns-in-Err
returns-in-Err c = refused (rw c.in-Err.is at c.judge-judged.ensures)
