-- `patterns::judge` meets its contract.
use mathlib.Core.List.{List}
use Prim.Native.Nat.{ℕ}
use Rattle.std.specs.Prelude.{Result, Ok, Err, ⊤}
use Rattle.answers.specs.declared.Answer.{Answer}
use Rattle.answers.specs.Answers.{told}
use Rattle.patterns.specs.Calls.{JudgePatterns, refused, accepted}
use Rattle.patterns.specs.Gathering.{GatherOutcome}
use Rattle.patterns.proofs.judge.Goals as goal

judged : {patterns lengths : List ℕ} (readers follow xs ys : List ℕ) (r : Result ⊤ Answer)
    → GatherOutcome patterns lengths readers follow xs ys r
    → JudgePatterns patterns lengths (told r)
judged readers follow xs ys (Ok _) gathered = accepted gathered.accepted
judged readers follow xs ys (Err a) refuses = refused refuses

pub returns : goal.returns
returns c = rw c.told.ensures (judged _ _ _ _ _ c.gather.ensures)
