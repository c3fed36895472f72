-- One column offered to a run, and a whole token string, as the code has it: what becomes of counts and buffers.
-- Document 02, W12. Only contracts inside the crate cite what stands here.
use Rattle.std.specs.Prelude.{Ok, Err, ◌≡◌, ◌≢◌, List, [], ◌∷◌, ℕ, ◌+◌, ◌≤◌, max, length, drop, set}
use Rattle.grammar.specs.Grammar.{Column, endmark}
use Rattle.grammar.specs.Machine.{front}
use Rattle.answers.specs.Buffers.{over, counted}
use Rattle.slr.specs.RoomMachine.{Setting, Progress, SlrOffered, taken, stopped, slr_run_from, slr_run}
use Rattle.slr.specs.Ends.{slr_final}
use Rattle.slr_run.specs.Stages.{Reply, halted, Held, stage_in, stage_of, reason_in, outcome_in}
use Rattle.slr_run.specs.declared.Ending.TheVariants.{Shift, Accept, Stop}
use Rattle.slr_run.specs.declared.Ending.{Ending}
use Rattle.slr_run.specs.declared.Stage.{Stage}

-- the counts after a reduction that keeps the states up to cell `base` and pushes a state
unfoldable pub reduced_to : (state base : ℕ) → Stage → Stage
reduced_to state base at =
    record {
      top = state;
      height = base + 2;
      listed = at.listed + 1;
      matched = at.matched;
      deepest = max at.deepest (base + 2);
    }

-- the counts after a token is matched and a state pushed
unfoldable pub shifted_to : ℕ → Stage → Stage
shifted_to state at =
    record {
      top = state;
      height = at.height + 1;
      listed = at.listed;
      matched = at.matched + 1;
      deepest = max at.deepest (at.height + 1);
    }

-- what the reply is, and what the stack holds then
unfoldable pub finished : Ending → Stage → Reply
finished (Shift state) at = Ok (shifted_to state at)
finished Accept at = Ok at
finished (Stop cause) at = halted cause at

unfoldable pub finished_stack : Ending → Stage → List ℕ → List ℕ
finished_stack (Shift state) at stack = set stack at.height state
finished_stack Accept at stack = stack
finished_stack (Stop cause) at stack = stack

-- how the run of w goes on when its first column is taken: after the end mark it is over
unfoldable pub goes_on : Setting → List ℕ → Progress → SlrOffered
goes_on m [] s = taken s
goes_on m (t ∷ w) s = slr_run_from m w s

unfoldable pub continued : Setting → List ℕ → Reply → (stack list : List ℕ) → SlrOffered
continued m w (Ok at) stack list = goes_on m w (stage_in at stack list)
continued m w (Err h) stack list = stopped (reason_in h.cause h.at) (stage_in h.at stack list)

-- the list beyond what is listed is as it was, and no buffer has another length
pub record Kept (at : Stage) (stack₀ list₀ stack list : List ℕ) : Type 0 where
  pub beyond : drop at.listed list ≡ drop at.listed list₀
  pub stack_length : length stack ≡ length stack₀
  pub list_length : length list ≡ length list₀

-- a column is offered: whatever string begins with it goes on from here as it went from where the run stood before
pub record Offered (m : Setting) (rows : ℕ) (c : Column) (at₀ : Stage) (stack₀ list₀ : List ℕ)
    (r : Reply) (stack list : List ℕ) : Type 0 where
  pub goes : (w : List ℕ)
      → front w ≡ c
      → slr_run_from m w (stage_in at₀ stack₀ list₀) ≡ continued m w r stack list
  pub held : Held rows (stage_of r) stack
  pub listed : (stage_of r).listed ≤ counted list
  pub further : at₀.listed ≤ (stage_of r).listed
  pub kept : Kept (stage_of r) stack₀ list₀ stack list
  pub gains : (at : Stage) → r ≡ Ok at → c ≢ endmark → at.matched ≡ at₀.matched + 1
  pub few : (stage_of r).matched ≤ at₀.matched + 1

-- the whole string is offered, before the stack is cleared
pub record Ended (m : Setting) (tokens stack₀ list₀ : List ℕ) (r : Reply) (stack list : List ℕ) : Type 0 where
  pub ends : slr_run m tokens ≡ outcome_in r stack list
  pub lists : list ≡ over (slr_final (slr_run m tokens)).listed list₀
  pub listed : (stage_of r).listed ≤ counted list₀
  pub few : (stage_of r).matched ≤ length tokens + 1
  pub stack_length : length stack ≡ length stack₀
  pub list_length : length list ≡ length list₀
