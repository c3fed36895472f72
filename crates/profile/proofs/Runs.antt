-- What a run on a plain book lists and holds, and what can come where it stops.
use mathlib.Core.Path.{◌≡◌, refl, sym, ap, subst, subst₂}
use mathlib.Core.Logic.{◌≢◌}
use mathlib.Core.List.{List}
use Prim.Native.Nat.{ℕ, ◌+◌, ◌*◌, ◌≤◌}
use native.Mathlib.Omega.{arith}
use lib.ListN.{length, take}
use Rattle.grammar.specs.Grammar.{Form, Grammar, Rule}
use Rattle.grammar.specs.Machine.{Continues}
use Rattle.grammar.specs.Plain.{Plain}
use Rattle.sets.specs.Calls.{number}
use Rattle.sets.specs.declared.Set.{Set}
use Rattle.answers.specs.declared.Answer.{Answer}
use Rattle.answers.specs.Answers.{done, refusal, stop, at_depth}
use Rattle.answers.specs.Buffers.{over, counted}
use Rattle.answers.specs.Refusals.{room, syntax}
use Rattle.book.proofs.Promise.{serves_limits, serves_well_formed, serves_unique, refuses_number}
use Rattle.first.specs.Numbers.{IsSet}
use Rattle.table.specs.Table.{BuiltWithoutConflict}
use Rattle.table.proofs.Promise.{built_exact}
use Rattle.machine.specs.Machine.{State, Offered, stopped, final}
use Rattle.machine.specs.declared.Reason.{Reason}
use Rattle.machine.specs.Stopping.{Syntax, Decided}
use Rattle.machine.proofs.Promise.{run_plain_few, run_plain_enough, run_plain_next, run_next_some}
use Rattle.offer.specs.Stops.{expected, run_answer}
use Rattle.offer.specs.Strings.{ran}
use Rattle.offer.proofs.Promise.{Told, told, served, short_of_list, short_of_stack, blocked, told_room}
use Rattle.run.specs.Running.{Admits, Barred, RunOutcome}
use Rattle.run.specs.Running as running
use Rattle.demands.specs.Demands.{Ran, Premises}
use Rattle.demands.proofs.Promise.{premises_exact, RunBegins, stackless, begins, ends_told, ends_steps, short_undecided}
use Rattle.profile.specs.Plain.{PlainRunOutcome, refused, unfit, runs}
use Rattle.profile.proofs.Hints.{hint_is}

-- the reason of a syntax stop, and its expected set
told_reason : {e : Reason → Set} {o : Offered} {a : Answer} → Told e o a → a.number ≡ syntax
    → (r : Reason) × (s : State) × Syntax r × (o ≡ stopped r s) × (a.place ≡ s.matched) × (a.expected ≡ e r)
unfolding done stop at_depth
told_reason (served s) h = absurd (omega arith)
told_reason (short_of_list s) h = absurd (omega arith)
told_reason (short_of_stack s) h = absurd (omega arith)
told_reason (blocked {r = r} s k) h = (r, s, k, refl, refl, refl)

module _ {book table tokens : List ℕ} (h : Premises book table tokens) (plain : Plain h.built.grammar) (stack list : List ℕ) {r : Ran}
    (begun : RunBegins h.built.grammar table tokens stack list r) where
  -- once steps begin, no more productions are listed than there are tokens
  pub lists_few : 1 ≤ length stack
      → (ps : List ℕ) × (length ps ≤ length tokens) × (r.list ≡ over ps list)
      × (r.answer.steps ≡ length ps + (final (ran h.built.grammar table tokens stack list)).matched)
  unfolding ran
  lists_few some_cell = go begun
    where
      go : RunBegins h.built.grammar table tokens stack list r
          → (ps : List ℕ) × (length ps ≤ length tokens) × (r.list ≡ over ps list)
          × (r.answer.steps ≡ length ps + (final (ran h.built.grammar table tokens stack list)).matched)
      go (stackless e a b c) = absurd (omega arith)
      go (begins k e) =
          ((final (ran h.built.grammar table tokens stack list)).listed, run_plain_few (premises_exact h) plain (counted stack) (counted list) tokens, e.written, ends_steps e)

  -- where it stops by syntax, the expected set is what can come after the tokens matched
  pub stop_hints : r.answer.number ≡ syntax
      → IsSet (number r.answer.expected) (Continues h.built.grammar (take r.answer.place tokens))
  unfolding ran refusal
  stop_hints n = go begun
    where
      go : RunBegins h.built.grammar table tokens stack list r
          → IsSet (number r.answer.expected) (Continues h.built.grammar (take r.answer.place tokens))
      go (stackless e a b c) = absurd (omega (arith, ap (λ (x : Answer). x.number) a))
      go (begins k e) =
          let (reason, s, why, stopped_at, place, set) = told_reason (ends_told e) n in
          let well = serves_well_formed h.built.serves in
          let useful = h.built.serves.useful.useful in
          subst₂ (λ (x : Set) (k : ℕ). IsSet (number x) (Continues h.built.grammar (take k tokens))) (sym set) (sym place)
          (hint_is (serves_limits h.built.serves).tokens_fit well table (take s.matched tokens) why
          (run_plain_next (premises_exact h) well useful plain (counted stack) (counted list) tokens stopped_at why)
          (run_next_some (premises_exact h) well useful (counted stack) (counted list) tokens stopped_at why))

-- with a list cell for each token and 1 + 15 stack cells a token no run is refused for room
barred_roomy : {g : Grammar} {table tokens stack : List ℕ} {a : Answer} → 1 ≤ length stack → Barred g table tokens stack a → a.number ≢ room
unfolding refusal
barred_roomy some_cell (running.bad_table m) e = omega arith
barred_roomy some_cell (running.too_long f h) e = omega arith
barred_roomy some_cell (running.strange f h s) e = omega arith
barred_roomy some_cell (running.no_stack f h k none) e = omega arith

module _ {book table : List ℕ} (b : BuiltWithoutConflict book table) (plain : Plain b.grammar) where
  sides_short : (p A : ℕ) (β : Form) → Rule b.grammar p A β → length β ≤ 16
  sides_short p A β rule = (serves_limits b.serves).lengths_fit rule

  module _ (tokens stack list : List ℕ) (listed : length tokens ≤ length list) (stacked : 1 + 15 * length tokens ≤ length stack) where
    ended_roomy : {g : Grammar} → g ≡ b.grammar → Admits g table tokens stack → (run_answer g table (ran g table tokens stack list)).number ≢ room
    unfolding ran run_answer
    ended_roomy {g} same admits n =
        let (reason, s, why, stopped_at) = told_room (told (expected g table) (ran g table tokens stack list)) n in
        let decided = run_plain_enough (built_exact b) plain (counted stack) (counted list) tokens sides_short (omega (arith, admits.short)) (omega (arith, admits.short)) in
        let here : Decided (ran g table tokens stack list) = subst (λ (x : Grammar). Decided (ran x table tokens stack list)) (sym same) decided in
        short_undecided why (subst (λ (o : Offered). Decided o) stopped_at here)

    pub run_roomy : {a : Answer} {s l : List ℕ} → RunOutcome book table tokens stack list a s l → a.number ≢ room
    run_roomy (running.refused r) e = omega (arith, (refuses_number r).1)
    run_roomy (running.barred s x) e = barred_roomy (omega arith) x e
    run_roomy (running.ended s admits) e = ended_roomy (serves_unique s b.serves) admits e

pub plain_run_roomy : {book tokens stack list : List ℕ} {a : Answer} {s l : List ℕ}
    → PlainRunOutcome book tokens stack list a s l
    → length tokens ≤ length list
    → 1 + 15 * length tokens ≤ length stack
    → a.number ≢ room
unfolding refusal
plain_run_roomy (refused r) listed stacked e = omega (arith, (refuses_number r).1)
plain_run_roomy (unfit s l) listed stacked e = omega arith
plain_run_roomy {tokens = tokens} {stack = stack} {list = list} (runs b p o) listed stacked e = run_roomy b p tokens stack list listed stacked o e
