-- Where no right side of the book is empty, a run keeps within N × n list cells and 1 + 15 × N × n stack cells, and with those it never
-- lacks room.
use mathlib.Core.Path.{◌≡◌, ap, subst, ◌∙◌}
use mathlib.Core.Logic.{◌⊎◌, inl, inr}
use mathlib.Core.List.{List}
use Prim.Native.Nat.{ℕ, ◌+◌, ◌-◌, ◌≤◌}
use native.Mathlib.Omega.{arith}
use lib.ListN.{length, drop}
use lib.Seq.{drop-append-add, drop-drop}
use Rattle.grammar.specs.Filled.{NoEmptyRight}
use Rattle.grammar.specs.Grammar.{Form, Rule}
use Rattle.answers.specs.declared.Answer.{Answer}
use Rattle.answers.specs.Answers.{refusal}
use Rattle.answers.specs.Buffers.{counted, over}
use Rattle.answers.specs.Refusals.{room, syntax}
use Rattle.book.proofs.Promise.{serves_limits, serves_well_formed}
use Rattle.machine.specs.Machine.{State, Offered, stopped, final}
use Rattle.machine.specs.declared.Reason.{Reason}
use Rattle.machine.specs.Room.{list_cells, stack_cells}
use Rattle.machine.specs.Stopping.{Short, short_list, short_stack, Decided, refused}
use Rattle.machine.proofs.Promise.{run_lists_few, run_stays_low, run_always_enough}
use Rattle.offer.specs.Strings.{ran}
use Rattle.offer.proofs.Promise.{told_room, told_numbers, told_depth}
use Rattle.demands.specs.Demands.{Ran, MayRun, Premises}
use Rattle.demands.specs.Formula.{RunWithinFormula}
use Rattle.demands.proofs.AnyTable.{ends_told, ends_steps}
use Rattle.demands.proofs.Kept.{premises_exact, RunBegins, stackless, begins, run_begins}

-- what stops for room is not decided
pub short_undecided : {r : Reason} {s : State} → Short r → ¬ Decided (stopped r s)
short_undecided short_list (refused q) = elim q [ ]
short_undecided short_stack (refused q) = elim q [ ]

-- what is written over a buffer leaves its cells from n on, if it has no more than n cells
drop_over : (n : ℕ) (cells buffer : List ℕ) → length cells ≤ n → drop n (over cells buffer) ≡ drop n buffer
drop_over n cells buffer few =
    let split : n ≡ length cells + (n - length cells) = omega arith in
    rw split (drop-append-add cells (drop (length cells) buffer) (n - length cells) ∙ drop-drop (n - length cells) (length cells) buffer)

module _ {book table tokens : List ℕ} (h : Premises book table tokens) (full : NoEmptyRight h.built.grammar) (stack list : List ℕ) where
  sides_short : (p A : ℕ) (β : Form) → Rule h.built.grammar p A β → length β ≤ 16
  sides_short p A β rule = (serves_limits h.built.serves).lengths_fit rule

  lists_within : length (final (ran h.built.grammar table tokens stack list)).listed ≤ list_cells h.built.grammar (length tokens)
  unfolding ran
  lists_within = run_lists_few (premises_exact h) (serves_well_formed h.built.serves) full (counted stack) (counted list) tokens

  holds_within : (final (ran h.built.grammar table tokens stack list)).height ≤ stack_cells h.built.grammar (length tokens)
  unfolding ran
  holds_within =
      run_stays_low (premises_exact h) (serves_well_formed h.built.serves) full (counted stack) (counted list) tokens sides_short

  steps_within : {r : Ran} → RunBegins h.built.grammar table tokens stack list r
      → r.answer.steps ≤ list_cells h.built.grammar (length tokens) + (final (ran h.built.grammar table tokens stack list)).matched
  unfolding refusal
  steps_within (stackless e a b c) = omega (arith, ap (λ (x : Answer). x.steps) a)
  steps_within (begins k e) = omega (arith, ends_steps e, lists_within)

  depth_within : {r : Ran} → RunBegins h.built.grammar table tokens stack list r
      → r.answer.depth ≤ stack_cells h.built.grammar (length tokens)
  unfolding refusal
  depth_within (stackless e a b c) = omega (arith, ap (λ (x : Answer). x.depth) a)
  depth_within (begins k e) = omega (arith, told_depth (ends_told e), holds_within)

  keeps_behind : {r : Ran} → RunBegins h.built.grammar table tokens stack list r
      → drop (list_cells h.built.grammar (length tokens)) r.list ≡ drop (list_cells h.built.grammar (length tokens)) list
  keeps_behind (stackless e a b c) = ap (λ (l : List ℕ). drop (list_cells h.built.grammar (length tokens)) l) c
  keeps_behind (begins k e) = ap (λ (l : List ℕ). drop (list_cells h.built.grammar (length tokens)) l) e.written
      ∙ drop_over (list_cells h.built.grammar (length tokens)) (final (ran h.built.grammar table tokens stack list)).listed list lists_within

  never_short : {r : Ran} → list_cells h.built.grammar (length tokens) ≤ counted list → stack_cells h.built.grammar (length tokens) ≤ counted stack
      → RunBegins h.built.grammar table tokens stack list r → (r.answer.number ≡ 0) ⊎ (r.answer.number ≡ syntax)
  unfolding ran
  never_short l k (stackless e a b c) = absurd (omega arith)
  never_short {r} l k (begins m e) = sort (told_numbers (ends_told e))
    where
      sort : (r.answer.number ≡ 0) ⊎ ((r.answer.number ≡ room) ⊎ (r.answer.number ≡ syntax)) → (r.answer.number ≡ 0) ⊎ (r.answer.number ≡ syntax)
      sort (inl z) = inl z
      sort (inr (inr z)) = inr z
      sort (inr (inl n)) =
          let (reason, s, why, stopped_at) = told_room (ends_told e) n in
          let decided = run_always_enough (premises_exact h) (serves_well_formed h.built.serves) full (counted stack) (counted list) tokens sides_short l k in
          absurd (short_undecided why (subst (λ (o : Offered). Decided o) stopped_at decided))

-- a run that keeps its promise keeps within the formula
pub keeps_formula : (book table tokens stack list : List ℕ) (r : Ran)
    → MayRun book table tokens stack list r
    → RunWithinFormula book table tokens stack list r
keeps_formula book table tokens stack list r o =
    record {
      listed = λ h full. (lists_within h full stack list, steps_within h full stack list (run_begins book table tokens stack list r o h));
      kept = λ h full. keeps_behind h full stack list (run_begins book table tokens stack list r o h);
      held = λ h full. (holds_within h full stack list, depth_within h full stack list (run_begins book table tokens stack list r o h));
      never_room = λ h full l k. never_short h full stack list l k (run_begins book table tokens stack list r o h);
    }
