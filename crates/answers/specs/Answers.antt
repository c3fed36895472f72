-- The answers of document 01, "Refusals and their numbers": number, place, detail, steps, expected set; and the depth
-- of document 02, W7. Fields not named are 0.
use Rattle.std.specs.Prelude.{ℕ, Result, Ok, Err}
use Rattle.sets.specs.declared.Set.{Set}
pub use Rattle.sets.specs.Calls.{no_set}
use Rattle.answers.specs.declared.Answer.{Answer}
use Rattle.answers.specs.Refusals.{served}

-- served, after so many steps
unfoldable pub done : ℕ → Answer
done steps = record { number = served; place = 0; detail = 0; steps = steps; expected = no_set; depth = 0 }

-- refused before any step
unfoldable pub refusal : (number place detail : ℕ) → Answer
refusal number place detail =
    record { number = number; place = place; detail = detail; steps = 0; expected = no_set; depth = 0 }

-- refused in steps
unfoldable pub stop : (number place detail steps : ℕ) → Set → Answer
stop number place detail steps expected =
    record { number = number; place = place; detail = detail; steps = steps; expected = expected; depth = 0 }

-- what comes to something is done, or it is refused with its answer
abbrev pub told : {A : Type 0} → Result A Answer → Answer
told (Ok _) = done 0
told (Err a) = a

-- the same answer, with the most stack cells held at any moment
unfoldable pub at_depth : ℕ → Answer → Answer
at_depth depth a =
    record {
      number = a.number;
      place = a.place;
      detail = a.detail;
      steps = a.steps;
      expected = a.expected;
      depth = depth;
    }
