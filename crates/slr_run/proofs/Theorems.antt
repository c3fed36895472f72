-- What is promised of bottom-up runs, one page: a call that keeps its promise meets the demands, each theorem under the
-- sentence that it proves.
use mathlib.Core.Path.{◌≡◌}
use mathlib.Core.Logic.{◌⊎◌}
use mathlib.Core.List.{List}
use Prim.Native.Nat.{ℕ}
use Rattle.grammar.specs.Grammar.{Grammar}
use Rattle.answers.specs.Refusals.{room, syntax}
use Rattle.book.specs.Judging.{Serves}
use Rattle.slr_run.specs.Running.{SlrAdmits}
use Rattle.slr_run.specs.Demands.{SlrLeaves, MaySlrRun, SlrMeets3, SlrStepsAdd, SlrDepth}
use Rattle.slr_run.proofs.Kept.{slr_ends, slr_begins, before_steps}
use Rattle.slr_run.proofs.Meets.{accepted_derived, one_derivation, served_or_short, room_exactly}
use Rattle.slr_run.proofs.Meets.{ends_numbers, ends_steps, ends_depth, ends_within}
-- a run allows one outcome
pub use Rattle.slr_run.proofs.Unique.{slr_run_outcome_unique}
-- a table that was built passes refusal 9
pub use Rattle.slr_run.proofs.BuiltFits.{built_fits}

module _ (book table tokens stack list : List ℕ) (r : SlrLeaves) (o : MaySlrRun book table tokens stack list r) where
  -- demand 3, of tables built without conflict
  pub slr_run_meets3 : SlrMeets3 book table tokens stack list r
  slr_run_meets3 =
      record {
        accepts = λ h n. accepted_derived h stack list (slr_begins book table tokens stack list r o h) n;
        only_one = λ h {ps} {qs} d e. one_derivation h d e;
        served_or_room = λ h {ps} d. served_or_short h stack list d (slr_begins book table tokens stack list r o h);
        room_iff = λ h {ps} d. room_exactly h stack list d (slr_begins book table tokens stack list r o h);
      }

  -- steps = productions listed + tokens matched, in every answer: where steps do not begin, none is counted
  pub slr_run_steps_add : SlrStepsAdd book table tokens stack list r
  slr_run_steps_add =
      record {
        sum = λ {g} s a. ends_steps (slr_ends book table tokens stack list r o s a);
        listed = λ {g} s a. (slr_ends book table tokens stack list r o s a).written;
        none = λ n. (before_steps n o).0.steps;
      }

  -- the depth is the most states held
  pub slr_run_depth : SlrDepth book table tokens stack list r
  slr_run_depth =
      record {
        held = λ {g} s a. ends_depth (slr_ends book table tokens stack list r o s a);
        within = λ {g} s a. ends_within (slr_ends book table tokens stack list r o s a) a.stacked;
        none = λ n. (before_steps n o).0.depth;
      }

  -- where steps do not begin, nothing is changed
  pub slr_run_before_steps : ((g : Grammar) → Serves book g → ¬ SlrAdmits g table tokens stack)
      → (r.stack ≡ stack) × (r.list ≡ list)
  slr_run_before_steps n = let (early, stacked, listed) = before_steps n o in (stacked, listed)

  -- on any table that passes refusal 9 the run is done, or refuses for room or for syntax
  pub slr_run_any_ends : {g : Grammar}
      → Serves book g
      → SlrAdmits g table tokens stack
      → (r.answer.number ≡ 0) ⊎ ((r.answer.number ≡ room) ⊎ (r.answer.number ≡ syntax))
  slr_run_any_ends s a = ends_numbers (slr_ends book table tokens stack list r o s a)
