-- The answer to each way in which an expansion ends, and what its number says of that.
use Rattle.std.specs.Prelude.{⊤, Result, Ok, Err}
use mathlib.Core.Path.{◌≡◌, refl}
use mathlib.Core.Logic.{◌⊎◌, inl, inr, ◌≢◌}
use native.Mathlib.Omega.{arith}
use Rattle.answers.specs.declared.Answer.{Answer}
use Rattle.answers.specs.Answers.{done, stop, no_set, at_depth}
use Rattle.answers.specs.Refusals.{room, production, stack_room, output_room}
use Rattle.machine.specs.Expansion.{Course, Expansion, WithRoom, completes, misfits}
use Rattle.machine.specs.declared.Obstacle.{Obstacle}
use Rattle.machine.specs.declared.Obstacle.TheVariants.{Unfit, FullStack, FullOutput}
use Rattle.expand.specs.Expanding.{closing, answered_by, expand_answer}

-- how an expansion ended, and its answer, the depth included
pub data ToldBy (s : Course) : Result ⊤ Obstacle → Answer → Type 0 where
  finished : ToldBy s (Ok tt) (at_depth s.height (done s.moves))
  misfitting : ToldBy s (Err Unfit) (at_depth s.height (stop production s.used 0 s.moves no_set))
  out_of_stack : ToldBy s (Err FullStack) (at_depth s.height (stop room s.used stack_room s.moves no_set))
  out_of_output : ToldBy s (Err FullOutput) (at_depth s.height (stop room s.used output_room s.moves no_set))

pub told_by : (x : Expansion) → ToldBy x.progress x.ending (expand_answer x)
unfolding expand_answer answered_by closing
told_by x = go x.ending
  where
    go : (e : Result ⊤ Obstacle) → ToldBy x.progress e (expand_answer (record { ending = e; progress = x.progress }))
    go (Ok tt) = finished
    go (Err Unfit) = misfitting
    go (Err FullStack) = out_of_stack
    go (Err FullOutput) = out_of_output

pub complete_done : (x : Expansion) → x.ending ≡ Ok tt → expand_answer x ≡ at_depth x.progress.height (done x.progress.moves)
unfolding expand_answer answered_by closing
complete_done x h = rw (h, expand_answer, answered_by)

pub unfit_refused : (x : Expansion) → x.ending ≡ Err Unfit → expand_answer x ≡ at_depth x.progress.height (stop production x.progress.used 0 x.progress.moves no_set)
unfolding expand_answer answered_by closing
unfit_refused x h = rw (h, expand_answer, answered_by)

module _ {s : Course} where
  pub told_complete : {e : Result ⊤ Obstacle} {a : Answer} → ToldBy s e a → a.number ≡ 0 → e ≡ Ok tt
  unfolding stop at_depth
  told_complete finished h = refl
  told_complete misfitting h = absurd (omega arith)
  told_complete out_of_stack h = absurd (omega arith)
  told_complete out_of_output h = absurd (omega arith)

  pub told_unfit : {e : Result ⊤ Obstacle} {a : Answer} → ToldBy s e a → a.number ≡ production → (e ≡ Err Unfit) × (a.place ≡ s.used)
  unfolding done stop at_depth
  told_unfit finished h = absurd (omega arith)
  told_unfit misfitting h = (refl, refl)
  told_unfit out_of_stack h = absurd (omega arith)
  told_unfit out_of_output h = absurd (omega arith)

  pub told_with_room : {e : Result ⊤ Obstacle} {a : Answer} → ToldBy s e a → a.number ≢ room → WithRoom e
  unfolding stop at_depth
  told_with_room finished n = completes
  told_with_room misfitting n = misfits
  told_with_room out_of_stack n = absurd (n refl)
  told_with_room out_of_output n = absurd (n refl)

  pub told_moves : {e : Result ⊤ Obstacle} {a : Answer} → ToldBy s e a → a.steps ≡ s.moves
  unfolding done stop at_depth
  told_moves finished = refl
  told_moves misfitting = refl
  told_moves out_of_stack = refl
  told_moves out_of_output = refl

  pub told_height : {e : Result ⊤ Obstacle} {a : Answer} → ToldBy s e a → a.depth ≡ s.height
  unfolding at_depth
  told_height finished = refl
  told_height misfitting = refl
  told_height out_of_stack = refl
  told_height out_of_output = refl

  pub told_kinds : {e : Result ⊤ Obstacle} {a : Answer} → ToldBy s e a → (a.number ≡ 0) ⊎ ((a.number ≡ room) ⊎ (a.number ≡ production))
  unfolding done stop at_depth
  told_kinds finished = inl refl
  told_kinds misfitting = inr (inr refl)
  told_kinds out_of_stack = inr (inl refl)
  told_kinds out_of_output = inr (inl refl)
