-- How deep a run or an expansion went, from what it answers; and that so many stack cells, and no fewer, are enough for it.
use Rattle.std.specs.Prelude.{⊤, Result, Err}
use mathlib.Core.Path.{◌≡◌, refl, sym, ap, ◌∙◌}
use mathlib.Core.Logic.{◌↔◌, ◌⊎◌, inl, inr, ◌≢◌, ⊎_elim}
use mathlib.Core.List.{List}
use Prim.Native.Nat.{ℕ, ◌≤◌, ◌<◌}
use native.Mathlib.Decide.{dec_lt}
use native.Mathlib.Omega.{arith}
use lib.ListN.{length}
use Rattle.grammar.specs.Grammar.{Grammar, Complete}
use Rattle.answers.specs.declared.Answer.{Answer}
use Rattle.answers.specs.Answers.{refusal, stop, at_depth}
use Rattle.answers.specs.Buffers.{over, counted}
use Rattle.answers.specs.Limits.{longest_list}
use Rattle.answers.specs.Refusals.{limit, room, syntax, production, stack_room}
use Rattle.book.specs.Judging.{Serves}
use Rattle.table.specs.Table.{cell_of}
use Rattle.machine.specs.Machine.{Offered, stopped, final}
use Rattle.machine.specs.declared.Reason.TheVariants.{FullStack}
use Rattle.machine.specs.Expansion.{WithRoom, completes, misfits, ended}
use Rattle.machine.specs.Expansion as machine
use Rattle.machine.specs.declared.Obstacle.{Obstacle}
use Rattle.machine.specs.declared.Obstacle.TheVariants as obstacles
use Rattle.machine.specs.Room.{right_of, peak}
use Rattle.machine.specs.Stopping.{HadStack, Decided, accepted, refused, wanted_end, wanted_token, wanted_row}
use Rattle.machine.proofs.Promise.{run_steps, run_tall, run_depth_same, run_depth_down, run_depth_short}
use Rattle.machine.proofs.Promise.{expand_steps, expand_tall, expand_room, expand_complete, expand_depth_same, expand_depth_down, expand_depth_short}
use Rattle.offer.specs.Strings.{ran}
use Rattle.offer.specs.Stops.{answered, run_answer}
use Rattle.offer.proofs.Promise.{told_steps, told_depth}
use Rattle.run.specs.Running.{Barred, Admits, RunOutcome}
use Rattle.run.specs.Running as running
use Rattle.run.proofs.Promise.{run_outcome_unique}
use Rattle.run.proofs.Promise as runs
use Rattle.expand.specs.Expanding.{closing, answered_by, expand_answer, ExpandOutcome}
use Rattle.expand.specs.Expanding as expanding
use Rattle.expand.proofs.Promise.{told_height, told_moves, told_complete, told_with_room, expand_outcome_unique}
use Rattle.demands.specs.Demands.{Ran, Expanded, MayRun, MayExpand, Premises, expanded}
use Rattle.demands.specs.Depth.{RunDepth, ExpandDepth}
use Rattle.demands.proofs.Kept.{Early, refusal_early, refuses_early, barred_early, before_steps, run_ends, run_begins}
use Rattle.demands.proofs.Kept.{expansion_ends, expansion_before_steps}
use Rattle.demands.proofs.AnyTable.{ends_told}
use Rattle.demands.proofs.RunRoom.{told_decided}
use Rattle.demands.proofs.RunDemands.{done_had_room, runs_back}
use Rattle.demands.proofs.ExpandDemands.{ends_told_by}

-- a string that is decided had stack enough
decided_had : {o : Offered} → Decided o → HadStack o
decided_had accepted e f = let bad : ◌≡◌ {A = ℕ} 0 1 = cc in omega arith
decided_had (refused wanted_end) e f = let bad : ◌≡◌ {A = ℕ} 0 1 = cc in omega arith
decided_had (refused wanted_token) e f = let bad : ◌≡◌ {A = ℕ} 0 1 = cc in omega arith
decided_had (refused wanted_row) e f = let bad : ◌≡◌ {A = ℕ} 0 1 = cc in omega arith

-- a run is refused before steps, or begins them
run_kinds : {book table tokens stack list : List ℕ} {a : Answer} {s l : List ℕ}
    → RunOutcome book table tokens stack list a s l
    → Early a ⊎ ((g : Grammar) × Serves book g × Admits g table tokens stack)
run_kinds (running.refused r) = inl (refuses_early r)
run_kinds (running.barred s b) = inl (barred_early b)
run_kinds (running.ended {g = g} s a) = inr (g, s, a)

-- what is refused before steps is refused so on a stack that is not larger
barred_down : {g : Grammar} {table tokens stack other : List ℕ} {a : Answer}
    → counted other ≤ counted stack
    → Barred g table tokens stack a
    → Barred g table tokens other a
barred_down less (running.bad_table m) = running.bad_table m
barred_down less (running.too_long f h) = running.too_long f h
barred_down less (running.strange f h k) = running.strange f h k
barred_down less (running.no_stack f h k e) = running.no_stack f h k (omega arith)

module _ (book table tokens stack list : List ℕ) (r : Ran) (o : MayRun book table tokens stack list r) where
  module _ {g : Grammar} (s : Serves book g) (a : Admits g table tokens stack) where
    run_held : r.answer.depth ≡ (final (ran g table tokens stack list)).height
    run_held = told_depth (ends_told (run_ends book table tokens stack list r o s a))

    run_held_within : (1 ≤ r.answer.depth) × (r.answer.depth ≤ counted stack)
    unfolding ran
    run_held_within =
        let tall = run_tall (right_of g) (cell_of g table) (counted stack) (counted list) g.start tokens in
        let fits = (run_steps (right_of g) (cell_of g table) (counted stack) (counted list) g.start tokens).height_fits (omega (arith, a.stacked)) in
        (omega (arith, run_held), omega (arith, run_held))

  pub run_depth_told : RunDepth book table tokens stack list r
  run_depth_told =
      record {
        held = λ {g} s a. run_held s a;
        within = λ {g} s a. run_held_within s a;
        none = λ n. (before_steps n o).0.depth;
      }

  -- no more cells are held than count
  pub run_deep_counted : r.answer.depth ≤ counted stack
  run_deep_counted = go (run_kinds o)
    where
      go : Early r.answer ⊎ ((g : Grammar) × Serves book g × Admits g table tokens stack) → r.answer.depth ≤ counted stack
      go (inl early) = omega (arith, early.depth)
      go (inr (g, s, a)) = (run_held_within s a).1

  -- a run that held a cell had begun
  run_had_begun : 0 < r.answer.depth → (g : Grammar) × Serves book g × Admits g table tokens stack
  run_had_begun h = ⊎_elim (λ early. absurd (omega (arith, early.depth))) (λ begun. begun) (run_kinds o)

  -- and so had one that decides its string
  run_decided : (r.answer.number ≡ 0) ⊎ (r.answer.number ≡ syntax) → (g : Grammar) × Serves book g × Admits g table tokens stack
  run_decided (inl n) = ⊎_elim (λ early. absurd (omega (arith, early.number))) (λ begun. begun) (run_kinds o)
  run_decided (inr n) = ⊎_elim (λ early. absurd (omega (arith, early.number))) (λ begun. begun) (run_kinds o)

module _ (book table tokens stack list : List ℕ) (r : Ran) (o : MayRun book table tokens stack list r)
    (other : List ℕ) (q : Ran) (p : MayRun book table tokens other list q) where
  -- the machine went the same way, and so did the calls
  same_way : {g : Grammar}
      → Serves book g
      → Admits g table tokens stack
      → 1 ≤ length other
      → ran g table tokens other list ≡ ran g table tokens stack list
      → (q.answer ≡ r.answer) × (q.list ≡ r.list)
  same_way {g} s a some_cell same =
      let b : Admits g table tokens other = record { fits = a.fits; short = a.short; known = a.known; stacked = some_cell } in
      let e = run_ends book table tokens stack list r o s a in
      let f = run_ends book table tokens other list q p s b in
      (f.answer ∙ ap (run_answer g table) same ∙ sym e.answer, f.written ∙ ap (λ (x : Offered). over (final x).listed list) same ∙ sym e.written)

  -- a run that decides its string goes the same way on every stack with so many cells
  pub run_goes_same : (r.answer.number ≡ 0) ⊎ (r.answer.number ≡ syntax)
      → r.answer.depth ≤ counted other
      → (q.answer ≡ r.answer) × (q.list ≡ r.list)
  unfolding ran
  run_goes_same decides fits =
      let (g, s, a) = run_decided book table tokens stack list r o decides in
      let some_cell = (run_held_within book table tokens stack list r o s a).0 in
      let low : (final (ran g table tokens stack list)).height ≤ counted other = omega (arith, run_held book table tokens stack list r o s a) in
      let had = decided_had (told_decided (ends_told (run_ends book table tokens stack list r o s a)) decides) in
      same_way s a (omega arith) (run_depth_same (right_of g) (cell_of g table) (counted list) g.start tokens (counted stack) (counted other) had low)

  -- and any run does so on a stack that is not larger
  pub run_goes_down : counted other ≤ counted stack → r.answer.depth ≤ counted other → (q.answer ≡ r.answer) × (q.list ≡ r.list)
  unfolding ran
  run_goes_down less = go refl refl refl o
    where
      goes : {a : Answer} {t l : List ℕ} → r.answer ≡ a → r.list ≡ l → RunOutcome book table tokens other list a t l → (q.answer ≡ r.answer) × (q.list ≡ r.list)
      goes e f c =
          let same = run_outcome_unique book table tokens other list p c in
          (ap (λ (x : runs.Result). x.0) same ∙ sym e, ap (λ (x : runs.Result). x.2) same ∙ sym f)

      go : {a : Answer} {t l : List ℕ} → r.answer ≡ a → r.stack ≡ t → r.list ≡ l → RunOutcome book table tokens stack list a t l
          → r.answer.depth ≤ counted other → (q.answer ≡ r.answer) × (q.list ≡ r.list)
      go e d f (running.refused c) fits = goes e f (running.refused c)
      go e d f (running.barred s b) fits = goes e f (running.barred s (barred_down less b))
      go e d f (running.ended {g = g} s a) fits =
          let some_cell = (run_held_within book table tokens stack list r o s a).0 in
          let low : (final (ran g table tokens stack list)).height ≤ counted other = omega (arith, run_held book table tokens stack list r o s a) in
          same_way s a (omega arith) (run_depth_down (right_of g) (cell_of g table) (counted list) g.start tokens (counted stack) (counted other) less low)

  pub run_goes_exactly : counted other ≤ counted stack → ((q.answer ≡ r.answer) × (q.list ≡ r.list)) ↔ (r.answer.depth ≤ counted other)
  run_goes_exactly less = (
    λ (answer, listed). omega (arith, run_deep_counted book table tokens other list q p, ap (λ (x : Answer). x.depth) answer),
    run_goes_down less,
  )

  -- with fewer cells it is refused for room, and if it has one, after fewer steps
  pub run_lacks_stack : counted other < r.answer.depth
      → (q.answer.number ≡ room) × (q.answer.detail ≡ stack_room) × (1 ≤ length other → q.answer.steps < r.answer.steps)
  unfolding ran run_answer answered stop refusal at_depth
  run_lacks_stack low = let (g, s, a) = run_had_begun book table tokens stack list r o (omega arith) in go g s a (dec_lt 0 (length other))
    where
      go : (g : Grammar) → Serves book g → Admits g table tokens stack → Dec (0 < length other)
          → (q.answer.number ≡ room) × (q.answer.detail ≡ stack_room) × (1 ≤ length other → q.answer.steps < r.answer.steps)
      go g s a (yes k) =
          let b : Admits g table tokens other = record { fits = a.fits; short = a.short; known = a.known; stacked = omega arith } in
          let less : counted other < (final (ran g table tokens stack list)).height = omega (arith, run_held book table tokens stack list r o s a) in
          let (e, stops, sooner) = run_depth_short (right_of g) (cell_of g table) (counted list) g.start tokens (counted stack) (counted other) (omega arith) less in
          let answer : q.answer ≡ run_answer g table (stopped FullStack e) =
          (run_ends book table tokens other list q p s b).answer ∙ ap (run_answer g table) stops in
          let steps = told_steps (ends_told (run_ends book table tokens stack list r o s a)) in
          let fewer : q.answer.steps < r.answer.steps = omega (arith, ap (λ (x : Answer). x.steps) answer, steps, sooner) in
          (ap (λ (x : Answer). x.number) answer, ap (λ (x : Answer). x.detail) answer, λ n. fewer)
      go g s a (no n) =
          let none : length other ≡ 0 = omega arith in
          let same = run_outcome_unique book table tokens other list p (running.barred s (running.no_stack a.fits a.short a.known none)) in
          (ap (λ (x : runs.Result). x.0.number) same, ap (λ (x : runs.Result). x.0.detail) same, λ k. absurd (omega arith))

module _ (book table tokens stack list : List ℕ) (r : Ran) (o : MayRun book table tokens stack list r) where
  -- a string that is accepted: as deep as its derivation is high
  pub run_deep_as_peak : (h : Premises book table tokens) {ps : List ℕ} (d : Complete h.built.grammar ps tokens)
      → r.answer.number ≡ 0
      → r.answer.depth ≡ peak d
  unfolding at_depth
  run_deep_as_peak h d n =
      let begun = run_begins book table tokens stack list r o h in
      let (l, k) = done_had_room h stack list d begun n in
      ap (λ (x : Answer). x.depth) (runs_back h stack list d l k begun).0

-- an expansion is refused before steps, or begins them
expansion_kinds : {book list stack output : List ℕ} {a : Answer} {s w : List ℕ}
    → ExpandOutcome book list stack output a s w
    → Early a ⊎ ((g : Grammar) × Serves book g × (length list ≤ longest_list) × (1 ≤ length stack))
expansion_kinds (expanding.refused r) = inl (refuses_early r)
expansion_kinds (expanding.too_long s h) = inl (refusal_early limit longest_list 0 (omega arith))
expansion_kinds (expanding.no_stack s h e) = inl (refusal_early room 0 stack_room (omega arith))
expansion_kinds (expanding.ended {g = g} s h k) = inr (g, s, h, k)

with_room_had : {e : Result ⊤ Obstacle} → WithRoom e → e ≢ Err obstacles.FullStack
with_room_had completes f = let bad : ◌≡◌ {A = ℕ} 0 1 = cc in omega arith
with_room_had misfits f = let bad : ◌≡◌ {A = ℕ} 0 1 = cc in omega arith

module _ (book list stack output : List ℕ) (r : Expanded) (o : MayExpand book list stack output r) where
  module _ {g : Grammar} (s : Serves book g) (short : length list ≤ longest_list) (stacked : 1 ≤ length stack) where
    expansion_held : r.answer.depth ≡ (expanded g list stack output).progress.height
    expansion_held = told_height (ends_told_by g list stack output (expansion_ends book list stack output r o s short stacked))

    expansion_held_within : (1 ≤ r.answer.depth) × (r.answer.depth ≤ counted stack)
    expansion_held_within =
        let counts = expand_steps g (counted stack) (counted output) list in
        (omega (arith, expansion_held, expand_tall g (counted output) list (counted stack)), omega (arith, expansion_held, counts.height))

  pub expand_depth_told : ExpandDepth book list stack output r
  expand_depth_told =
      record {
        held = λ {g} s short stacked. expansion_held s short stacked;
        within = λ {g} s short stacked. expansion_held_within s short stacked;
        none = λ n. (expansion_before_steps n o).0.depth;
      }

  -- no more cells are held than count
  pub expansion_deep_counted : r.answer.depth ≤ counted stack
  expansion_deep_counted = go (expansion_kinds o)
    where
      go : Early r.answer ⊎ ((g : Grammar) × Serves book g × (length list ≤ longest_list) × (1 ≤ length stack)) → r.answer.depth ≤ counted stack
      go (inl early) = omega (arith, early.depth)
      go (inr (g, s, short, stacked)) = (expansion_held_within s short stacked).1

  -- an expansion that held a cell had begun
  expansion_had_begun : 0 < r.answer.depth → (g : Grammar) × Serves book g × (length list ≤ longest_list) × (1 ≤ length stack)
  expansion_had_begun h = ⊎_elim (λ early. absurd (omega (arith, early.depth))) (λ begun. begun) (expansion_kinds o)

  -- and so had one that decides its list
  expansion_decided : (r.answer.number ≡ 0) ⊎ (r.answer.number ≡ production) → (g : Grammar) × Serves book g × (length list ≤ longest_list) × (1 ≤ length stack)
  expansion_decided (inl n) = ⊎_elim (λ early. absurd (omega (arith, early.number))) (λ begun. begun) (expansion_kinds o)
  expansion_decided (inr n) = ⊎_elim (λ early. absurd (omega (arith, early.number))) (λ begun. begun) (expansion_kinds o)

module _ (book list stack output : List ℕ) (r : Expanded) (o : MayExpand book list stack output r)
    (other : List ℕ) (q : Expanded) (p : MayExpand book list other output q) where
  -- the machine went the same way, and so did the calls
  same_course : {g : Grammar}
      → Serves book g
      → length list ≤ longest_list
      → 1 ≤ length stack
      → 1 ≤ length other
      → expanded g list other output ≡ expanded g list stack output
      → (q.answer ≡ r.answer) × (q.output ≡ r.output)
  same_course s short stacked some_cell same =
      let e = expansion_ends book list stack output r o s short stacked in
      let f = expansion_ends book list other output q p s short some_cell in
      (f.answer ∙ ap expand_answer same ∙ sym e.answer, f.written ∙ ap (λ (x : machine.Expansion). over x.progress.written output) same ∙ sym e.written)

  -- an expansion that decides its list goes the same way on every stack with so many cells
  pub expansion_goes_same : (r.answer.number ≡ 0) ⊎ (r.answer.number ≡ production)
      → r.answer.depth ≤ counted other
      → (q.answer ≡ r.answer) × (q.output ≡ r.output)
  expansion_goes_same decides fits =
      let (g, s, short, stacked) = expansion_decided book list stack output r o decides in
      let some_cell = (expansion_held_within book list stack output r o s short stacked).0 in
      let low : (expanded g list stack output).progress.height ≤ counted other = omega (arith, expansion_held book list stack output r o s short stacked) in
      let not_room : r.answer.number ≢ room = λ n. ⊎_elim (λ k. omega arith) (λ k. omega arith) decides in
      let had = with_room_had (told_with_room (ends_told_by g list stack output (expansion_ends book list stack output r o s short stacked)) not_room) in
      same_course s short stacked (omega arith) (expand_depth_same g (counted output) list (counted stack) (counted other) had low)

  -- and any expansion does so on a stack that is not larger
  pub expansion_goes_down : counted other ≤ counted stack → r.answer.depth ≤ counted other → (q.answer ≡ r.answer) × (q.output ≡ r.output)
  expansion_goes_down less = go refl refl refl o
    where
      goes : {a : Answer} {t w : List ℕ} → r.answer ≡ a → r.output ≡ w → ExpandOutcome book list other output a t w → (q.answer ≡ r.answer) × (q.output ≡ r.output)
      goes e f c =
          let same = expand_outcome_unique book list other output p c in
          (ap (λ (x : runs.Result). x.0) same ∙ sym e, ap (λ (x : runs.Result). x.2) same ∙ sym f)

      go : {a : Answer} {t w : List ℕ} → r.answer ≡ a → r.stack ≡ t → r.output ≡ w → ExpandOutcome book list stack output a t w
          → r.answer.depth ≤ counted other → (q.answer ≡ r.answer) × (q.output ≡ r.output)
      go e d f (expanding.refused c) fits = goes e f (expanding.refused c)
      go e d f (expanding.too_long s h) fits = goes e f (expanding.too_long s h)
      go e d f (expanding.no_stack s h k) fits = goes e f (expanding.no_stack s h (omega arith))
      go e d f (expanding.ended {g = g} s short stacked) fits =
          let some_cell = (expansion_held_within book list stack output r o s short stacked).0 in
          let low : (expanded g list stack output).progress.height ≤ counted other = omega (arith, expansion_held book list stack output r o s short stacked) in
          same_course s short stacked (omega arith) (expand_depth_down g (counted output) list (counted stack) (counted other) less low)

  pub expansion_goes_exactly : counted other ≤ counted stack → ((q.answer ≡ r.answer) × (q.output ≡ r.output)) ↔ (r.answer.depth ≤ counted other)
  expansion_goes_exactly less = (
    λ (answer, written). omega (arith, expansion_deep_counted book list other output q p, ap (λ (x : Answer). x.depth) answer),
    expansion_goes_down less,
  )

  -- with fewer cells it is refused for room, and if it has one, after fewer steps
  pub expansion_lacks_stack : counted other < r.answer.depth
      → (q.answer.number ≡ room) × (q.answer.detail ≡ stack_room) × (1 ≤ length other → q.answer.steps < r.answer.steps)
  unfolding expand_answer answered_by closing ended stop refusal at_depth
  expansion_lacks_stack low =
      let (g, s, short, stacked) = expansion_had_begun book list stack output r o (omega arith) in
      go g s short stacked (dec_lt 0 (length other))
    where
      go : (g : Grammar) → Serves book g → length list ≤ longest_list → 1 ≤ length stack → Dec (0 < length other)
          → (q.answer.number ≡ room) × (q.answer.detail ≡ stack_room) × (1 ≤ length other → q.answer.steps < r.answer.steps)
      go g s short stacked (yes k) =
          let less : counted other < (expanded g list stack output).progress.height = omega (arith, expansion_held book list stack output r o s short stacked) in
          let (c, stops, sooner) = expand_depth_short g (counted output) list (counted stack) (counted other) (omega arith) less in
          let answer : q.answer ≡ expand_answer (ended (Err obstacles.FullStack) c) =
          (expansion_ends book list other output q p s short (omega arith)).answer ∙ ap expand_answer stops in
          let steps = told_moves (ends_told_by g list stack output (expansion_ends book list stack output r o s short stacked)) in
          let fewer : q.answer.steps < r.answer.steps = omega (arith, ap (λ (x : Answer). x.steps) answer, steps, sooner) in
          (ap (λ (x : Answer). x.number) answer, ap (λ (x : Answer). x.detail) answer, λ n. fewer)
      go g s short stacked (no n) =
          let none : length other ≡ 0 = omega arith in
          let same = expand_outcome_unique book list other output p (expanding.no_stack s short none) in
          (ap (λ (x : runs.Result). x.0.number) same, ap (λ (x : runs.Result). x.0.detail) same, λ k. absurd (omega arith))

module _ (book list stack output : List ℕ) (r : Expanded) (o : MayExpand book list stack output r) where
  -- a complete list: as deep as its derivation is high
  pub expansion_deep_as_peak : {g : Grammar}
      → Serves book g
      → length list ≤ longest_list
      → {w : List ℕ} (d : Complete g list w)
      → r.answer.number ≡ 0
      → r.answer.depth ≡ peak d
  unfolding ended
  expansion_deep_as_peak {g} s short {w} d n =
      let (g', s', short', stacked) = expansion_decided book list stack output r o (inl n) in
      let e = ends_told_by g list stack output (expansion_ends book list stack output r o s short stacked) in
      let (h, k) = (expand_room g (counted stack) (counted output) list d (omega arith)).1.0 (told_complete e n) in
      expansion_held book list stack output r o s short stacked ∙ ap (λ (x : machine.Expansion). x.progress.height) (expand_complete g (counted stack) (counted output) list d h k)
