-- What a call that keeps its promise answers and leaves, where the book serves: steps begin, or there is no stack cell.
use mathlib.Core.Path.{◌≡◌, refl, ap}
use mathlib.Core.List.{List}
use Prim.Native.Nat.{ℕ, ◌≤◌, ◌<◌}
use native.Mathlib.Decide.{dec_lt}
use native.Mathlib.Omega.{arith}
use lib.ListN.{length}
use Rattle.grammar.specs.Grammar.{Grammar}
use Rattle.grammar.specs.Machine.{Exact}
use Rattle.answers.specs.declared.Answer.{Answer}
use Rattle.answers.specs.Answers.{refusal}
use Rattle.answers.specs.Refusals.{number_of, room, stack_room}
use Rattle.answers.specs.Buffers.{over, counted, cleared}
use Rattle.reader.proofs.Promise.{refused_number}
use Rattle.book.specs.Judging.{Refuses, misread, useless_one, Serves}
use Rattle.table.specs.Table.{cell_of}
use Rattle.table.proofs.Promise.{built_exact, table_fits}
use Rattle.machine.specs.Expansion.{expansion}
use Rattle.machine.specs.Machine.{final}
use Rattle.offer.specs.Strings.{ran}
use Rattle.offer.specs.Stops.{run_answer}
use Rattle.run.specs.Running.{Barred, Admits, RunOutcome}
use Rattle.run.specs.Running as running
use Rattle.run.proofs.Promise.{Result, run_outcome_unique}
use Rattle.expand.specs.Expanding.{ExpandOutcome, expand_answer}
use Rattle.expand.specs.Expanding as expanding
use Rattle.expand.proofs.Promise.{expand_outcome_unique}
use Rattle.demands.specs.Demands.{Ran, Expanded, Premises}

module _ {book table tokens : List ℕ} (h : Premises book table tokens) where
  -- the premises of demand 3 let steps begin wherever there is a stack cell
  pub premises_admit : (stack : List ℕ) → 1 ≤ length stack → Admits h.built.grammar table tokens stack
  premises_admit stack k = record { fits = table_fits h.built.built; short = h.short; known = h.known; stacked = k }

  -- and the machine's cells are the textbook's
  pub premises_exact : Exact h.built.grammar (cell_of h.built.grammar table)
  premises_exact = built_exact h.built

-- a run that ended in steps: the machine's answer, a cleared stack, and the productions listed over the list
pub record EndsRun (g : Grammar) (table tokens stack list : List ℕ) (r : Ran) : Type 0 where
  pub answer : r.answer ≡ run_answer g table (ran g table tokens stack list)
  pub cleared : r.stack ≡ cleared stack
  pub written : r.list ≡ over (final (ran g table tokens stack list)).listed list

-- an expansion that ended in steps
pub record EndsExpansion (g : Grammar) (list stack output : List ℕ) (r : Expanded) : Type 0 where
  pub answer : r.answer ≡ expand_answer (expansion g (counted stack) (counted output) list)
  pub cleared : r.stack ≡ cleared stack
  pub written : r.output ≡ over (expansion g (counted stack) (counted output) list).progress.written output

-- steps begin, or there is no stack cell
pub data RunBegins (g : Grammar) (table tokens stack list : List ℕ) (r : Ran) : Type 0 where
  stackless : length stack ≡ 0 → r.answer ≡ refusal room 0 stack_room → r.stack ≡ stack → r.list ≡ list → RunBegins g table tokens stack list r
  begins : 1 ≤ length stack → EndsRun g table tokens stack list r → RunBegins g table tokens stack list r

pub data ExpansionBegins (g : Grammar) (list stack output : List ℕ) (r : Expanded) : Type 0 where
  stackless : length stack ≡ 0 → r.answer ≡ refusal room 0 stack_room → r.stack ≡ stack → r.output ≡ output → ExpansionBegins g list stack output r
  begins : 1 ≤ length stack → EndsExpansion g list stack output r → ExpansionBegins g list stack output r

module _ (book table tokens stack list : List ℕ) (r : Ran) (o : RunOutcome book table tokens stack list r.answer r.stack r.list) where
  -- steps begin on every table that passes refusal 9
  pub run_ends : {g : Grammar} → Serves book g → Admits g table tokens stack → EndsRun g table tokens stack list r
  run_ends s a =
      let same = run_outcome_unique book table tokens stack list o (running.ended s a) in
      record { answer = ap (λ (x : Result). x.0) same; cleared = ap (λ (x : Result). x.1) same; written = ap (λ (x : Result). x.2) same }

  pub run_begins : (h : Premises book table tokens) → RunBegins h.built.grammar table tokens stack list r
  run_begins h = go (dec_lt 0 (length stack))
    where
      go : Dec (0 < length stack) → RunBegins h.built.grammar table tokens stack list r
      go (yes k) = begins (omega arith) (run_ends h.built.serves (premises_admit h stack (omega arith)))
      go (no n) =
          let none : length stack ≡ 0 = omega arith in
          let same = run_outcome_unique book table tokens stack list o (running.barred h.built.serves (running.no_stack (table_fits h.built.built) h.short h.known none)) in
          stackless none (ap (λ (x : Result). x.0) same) (ap (λ (x : Result). x.1) same) (ap (λ (x : Result). x.2) same)

-- an answer before steps: none is counted, no cell is held, and the number is one of 1 to 10
pub record Early (a : Answer) : Type 0 where
  pub steps : a.steps ≡ 0
  pub depth : a.depth ≡ 0
  pub number : (1 ≤ a.number) × (a.number ≤ 10)

pub refusal_early : (n place detail : ℕ) → (1 ≤ n) × (n ≤ 10) → Early (refusal n place detail)
unfolding refusal
refusal_early n place detail number = record { steps = refl; depth = refl; number = number }

pub refuses_early : {book : List ℕ} {a : Answer} → Refuses book a → Early a
refuses_early {book} (misread {why = why} {place = k} e) =
    let number = refused_number book e in
    refusal_early (number_of why) k 0 (number.0, omega (arith, number.1))
refuses_early (useless_one {A = A} e l) = refusal_early 6 A 0 (omega arith)

pub barred_early : {g : Grammar} {table tokens stack : List ℕ} {a : Answer} → Barred g table tokens stack a → Early a
barred_early (running.bad_table {k = k} m) = refusal_early 9 k 0 (omega arith)
barred_early (running.too_long f h) = refusal_early 4 4096 0 (omega arith)
barred_early (running.strange {i = i} f h s) = refusal_early 10 i 0 (omega arith)
barred_early (running.no_stack f h k e) = refusal_early 7 0 1 (omega arith)

-- where steps do not begin, the answer is one before steps, and nothing is changed
pub before_steps : {book table tokens stack list : List ℕ} → ((g : Grammar) → Serves book g → ¬ Admits g table tokens stack) → {a : Answer} {s l : List ℕ} → RunOutcome book table tokens stack list a s l → Early a × (s ≡ stack) × (l ≡ list)
before_steps n (running.refused r) = (refuses_early r, refl, refl)
before_steps n (running.barred s b) = (barred_early b, refl, refl)
before_steps n (running.ended {g = g} s a) = absurd (n g s a)

module _ (book list stack output : List ℕ) (r : Expanded) (o : ExpandOutcome book list stack output r.answer r.stack r.output) {g : Grammar} (s : Serves book g) (short : length list ≤ 65535) where
  pub expansion_begins : ExpansionBegins g list stack output r
  expansion_begins = go (dec_lt 0 (length stack))
    where
      go : Dec (0 < length stack) → ExpansionBegins g list stack output r
      go (yes k) =
          let same = expand_outcome_unique book list stack output o (expanding.ended s short (omega arith)) in
          begins (omega arith) (record { answer = ap (λ (x : Result). x.0) same; cleared = ap (λ (x : Result). x.1) same; written = ap (λ (x : Result). x.2) same })
      go (no n) =
          let none : length stack ≡ 0 = omega arith in
          let same = expand_outcome_unique book list stack output o (expanding.no_stack s short none) in
          stackless none (ap (λ (x : Result). x.0) same) (ap (λ (x : Result). x.1) same) (ap (λ (x : Result). x.2) same)

  -- steps begin wherever there is a stack cell
  pub expansion_ends : 1 ≤ length stack → EndsExpansion g list stack output r
  expansion_ends k = go expansion_begins
    where
      go : ExpansionBegins g list stack output r → EndsExpansion g list stack output r
      go (stackless e a b c) = absurd (omega arith)
      go (begins l e) = e

-- where an expansion's steps do not begin
pub expansion_before_steps : {book list stack output : List ℕ} → ((g : Grammar) → Serves book g → length list ≤ 65535 → 1 ≤ length stack → ⊥) → {a : Answer} {s w : List ℕ} → ExpandOutcome book list stack output a s w → Early a × (s ≡ stack) × (w ≡ output)
expansion_before_steps n (expanding.refused r) = (refuses_early r, refl, refl)
expansion_before_steps n (expanding.too_long s h) = (refusal_early 4 65535 0 (omega arith), refl, refl)
expansion_before_steps n (expanding.no_stack s h e) = (refusal_early 7 0 1 (omega arith), refl, refl)
expansion_before_steps n (expanding.ended {g = g} s h k) = absurd (n g s h k)
