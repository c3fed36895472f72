-- What a bottom-up run that keeps its promise answers and leaves: steps begin, or they do not.
use mathlib.Core.Path.{◌≡◌, refl, ap}
use mathlib.Core.Logic.{◌⊎◌, inl, inr}
use mathlib.Core.List.{List}
use Prim.Native.Nat.{ℕ, ◌≤◌, ◌<◌}
use native.Mathlib.Decide.{dec_lt}
use native.Mathlib.Omega.{arith}
use lib.ListN.{length}
use Rattle.grammar.specs.Grammar.{Grammar}
use Rattle.answers.specs.declared.Answer.{Answer}
use Rattle.answers.specs.Answers.{done, refusal, stop, at_depth}
use Rattle.answers.specs.Refusals.{number_of}
use Rattle.answers.specs.Refusals.{room, syntax}
use Rattle.answers.specs.Buffers.{over, cleared}
use Rattle.book.specs.Judging.{Refuses, misread, useless_one, Serves}
use Rattle.run.proofs.Promise.{Result}
use Rattle.slr.specs.RoomMachine.{Progress, SlrReason, full_list, full_stack, wants, SlrOffered, taken, stopped}
use Rattle.slr.specs.Ends.{slr_final, EndsForRoom, WantsRoom, wants_list, wants_stack}
use Rattle.slr_run.specs.Running.{slr_ran, slr_values, slr_answered, SlrBarred, bad_table, too_long, strange, SlrAdmits, SlrRunOutcome}
use Rattle.slr_run.specs.Running as running
use Rattle.slr_run.specs.Demands.{SlrLeaves, MaySlrRun, SlrPremises}
use Rattle.slr_run.proofs.BuiltFits.{built_fits}
use Rattle.slr_run.proofs.Unique.{slr_run_outcome_unique}

-- a run that ended in steps: the machine's answer, a cleared stack, and the productions listed over the list
pub record EndsSlrRun (g : Grammar) (table tokens stack list : List ℕ) (r : SlrLeaves) : Type 0 where
  pub answer : r.answer ≡ slr_answered g table (slr_ran g table tokens stack list)
  pub cleared : r.stack ≡ cleared stack
  pub written : r.list ≡ over (slr_final (slr_ran g table tokens stack list)).listed list

-- steps begin, or there is no stack cell
pub data SlrBegins (g : Grammar) (table tokens stack list : List ℕ) (r : SlrLeaves) : Type 0 where
  stackless : length stack ≡ 0 → r.answer.number ≡ room → SlrBegins g table tokens stack list r
  begins : 1 ≤ length stack → EndsSlrRun g table tokens stack list r → SlrBegins g table tokens stack list r

module _ (g : Grammar) (table : List ℕ) where
  -- the number says how the machine ended
  pub number_done : (o : SlrOffered) → (slr_answered g table o).number ≡ 0 → (s : Progress) × (o ≡ taken s)
  unfolding slr_answered slr_values stop at_depth
  number_done (taken s) e = (s, refl)
  number_done (stopped full_list s) e = absurd (omega arith)
  number_done (stopped full_stack s) e = absurd (omega arith)
  number_done (stopped (wants k) s) e = absurd (omega arith)

  pub taken_done : {o : SlrOffered} {s : Progress} → o ≡ taken s → (slr_answered g table o).number ≡ 0
  unfolding slr_answered slr_values done at_depth
  taken_done e = rw e

  pub room_number : {o : SlrOffered} → EndsForRoom o → (slr_answered g table o).number ≡ room
  unfolding slr_answered slr_values stop at_depth
  room_number e = rw e.ends (go e.last e.room)
    where
      go : {r : SlrReason} (s : Progress) → WantsRoom r → (slr_answered g table (stopped r s)).number ≡ room
      go s wants_list = refl
      go s wants_stack = refl

  pub numbers : (o : SlrOffered)
      → ((slr_answered g table o).number ≡ 0) ⊎ (((slr_answered g table o).number ≡ room) ⊎ ((slr_answered g table o).number ≡ syntax))
  unfolding slr_answered slr_values done stop at_depth
  numbers (taken s) = inl refl
  numbers (stopped full_list s) = inr (inl refl)
  numbers (stopped full_stack s) = inr (inl refl)
  numbers (stopped (wants k) s) = inr (inr refl)

  pub answer_steps : (o : SlrOffered) → (slr_answered g table o).steps ≡ (slr_final o).steps
  unfolding slr_answered slr_values slr_final done stop at_depth
  answer_steps (taken s) = refl
  answer_steps (stopped full_list s) = refl
  answer_steps (stopped full_stack s) = refl
  answer_steps (stopped (wants k) s) = refl

  pub answer_depth : (o : SlrOffered) → (slr_answered g table o).depth ≡ (slr_final o).height
  unfolding slr_answered at_depth
  answer_depth o = refl

module _ (book table tokens stack list : List ℕ) (r : SlrLeaves) (o : MaySlrRun book table tokens stack list r) where
  -- steps begin on every table that passes refusal 9
  pub slr_ends : {g : Grammar} → Serves book g → SlrAdmits g table tokens stack → EndsSlrRun g table tokens stack list r
  slr_ends s a =
      let same = slr_run_outcome_unique book table tokens stack list o (running.ended s a) in
      record { answer = ap (λ (x : Result). x.0) same; cleared = ap (λ (x : Result). x.1) same; written = ap (λ (x : Result). x.2) same }

  pub slr_begins : (h : SlrPremises book table tokens) → SlrBegins h.built.grammar table tokens stack list r
  unfolding refusal
  slr_begins h = go (dec_lt 0 (length stack))
    where
      go : Dec (0 < length stack) → SlrBegins h.built.grammar table tokens stack list r
      go (yes k) =
          begins (omega arith)
          (slr_ends h.built.serves (record { fits = built_fits h.built; short = h.short; known = h.known; stacked = omega arith }))
      go (no n) =
          let none : length stack ≡ 0 = omega arith in
          let same = slr_run_outcome_unique book table tokens stack list o
          (running.barred h.built.serves (running.no_stack (built_fits h.built) h.short h.known none)) in
          stackless none (ap (λ (x : Result). x.0.number) same)

-- an answer before steps: none is counted, no cell is held
pub record Early (a : Answer) : Type 0 where
  pub steps : a.steps ≡ 0
  pub depth : a.depth ≡ 0

refusal_early : (n place detail : ℕ) → Early (refusal n place detail)
unfolding refusal
refusal_early n place detail = record { steps = refl; depth = refl }

refuses_early : {book : List ℕ} {a : Answer} → Refuses book a → Early a
refuses_early (misread {why = w} {place = k} e) = refusal_early (number_of w) k 0
refuses_early (useless_one {A = A} e l) = refusal_early 6 A 0

barred_early : {g : Grammar} {table tokens stack : List ℕ} {a : Answer} → SlrBarred g table tokens stack a → Early a
barred_early (bad_table {k = k} m) = refusal_early 9 k 0
barred_early (too_long f h) = refusal_early 4 4096 0
barred_early (strange {i = i} f h s) = refusal_early 10 i 0
barred_early (SlrBarred.no_stack f h k e) = refusal_early 7 0 1

-- where steps do not begin, the answer is one before steps, and nothing is changed
pub before_steps : {book table tokens stack list : List ℕ}
    → ((g : Grammar) → Serves book g → ¬ SlrAdmits g table tokens stack)
    → {a : Answer} {s l : List ℕ}
    → SlrRunOutcome book table tokens stack list a s l
    → Early a × (s ≡ stack) × (l ≡ list)
before_steps n (running.refused r) = (refuses_early r, refl, refl)
before_steps n (running.barred s b) = (barred_early b, refl, refl)
before_steps n (running.ended {g = g} s a) = absurd (n g s a)
