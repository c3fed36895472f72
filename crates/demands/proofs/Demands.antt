-- The demands, one page: a call that keeps its promise meets them, each theorem under the sentence that it proves.
use Rattle.std.specs.Prelude.{Result, Ok}
use mathlib.Core.Path.{◌≡◌, refl, ap, ◌∙◌}
use mathlib.Core.Logic.{◌↔◌, ◌⊎◌, ◌≢◌}
use mathlib.Core.List.{List, [], ◌∷◌}
use Prim.Native.Nat.{ℕ, ◌+◌, ◌≤◌, ◌<◌}
use native.Mathlib.Omega.{arith}
use lib.ListN.{length, get_or, take, drop, replicate}
use lib.Seq.{take_at}
use Rattle.grammar.specs.Grammar.{Grammar, Complete, Every}
use Rattle.grammar.proofs.Theorems.{leftmost_unique}
use Rattle.answers.specs.declared.Answer.{Answer}
use Rattle.answers.specs.Answers.{done, at_depth}
use Rattle.answers.specs.Refusals.{room, syntax, production, stack_room}
use Rattle.answers.specs.Buffers.{over, counted}
use Rattle.answers.specs.Limits.{longest_list, most_cells}
use Rattle.book.specs.Judging.{Serves}
use Rattle.book.specs.declared.Index.{Index}
use Rattle.table.specs.Table.{cell_of}
use Rattle.machine.specs.Room.{peak, LongestList}
use Rattle.machine.specs.Stopping.{RoomNeeded}
use Rattle.machine.proofs.Promise.{room_needed}
use Rattle.offer.specs.Resuming.{OfferResult}
use Rattle.offer.specs.Strings.{ran}
use Rattle.offer.specs.declared.Progress.{Progress}
use Rattle.offer.specs.Reply.{Reply}
use Rattle.offer.proofs.Promise.{told_numbers}
use Rattle.run.specs.Judged.{JudgedRun}
use Rattle.run.specs.Running.{Admits}
use Rattle.demands.specs.Demands.{Built, Ran, Expanded, MayBuild, MayRun, MayExpand, Premises, RunRoom, expanded}
use Rattle.demands.specs.Demands.{BuildMeets2, ExpandMeets2, RunMeets2, RunMeets3, RunStepsAdd, ExpandStepsAdd}
use Rattle.demands.specs.RoomPlace.{StopsForRoom, ExpansionStops}
use Rattle.demands.specs.Depth.{RunDepth, ExpandDepth}
use Rattle.demands.specs.Formula.{RunWithinFormula}
use Rattle.demands.specs.Examples.{Given}
use Rattle.demands.specs.ChainExample.{chain_book, chain_table, long_run, low_run, listless_run}
use Rattle.demands.specs.Offers.{start_on, at_start, OfferedInTurn, deepest_of, MakesRun}
use Rattle.demands.proofs.BuildDemands.{done_exactly, conflict_exactly, done_exactly_if}
use Rattle.demands.proofs.ExpandDemands.{ends_moves, done_complete, done_exact, unfit_exact, unfit_place}
use Rattle.demands.proofs.ExpandDemands.{expands_to, complete_room_iff}
use Rattle.demands.proofs.ExpandRoom.{room_midway}
use Rattle.demands.proofs.Kept.{premises_exact, run_ends, run_begins, before_steps, expansion_begins}
use Rattle.demands.proofs.Kept.{expansion_ends, expansion_before_steps}
use Rattle.demands.proofs.AnyTable.{ends_told, ends_steps, any_accepted}
use Rattle.demands.proofs.RunDemands.{accepted_derived, syntax_place, served_or_short, room_short}
use Rattle.demands.proofs.RunDemands.{short_room_refused, runs_back, done_had_room}
use Rattle.demands.proofs.RunRoom.{room_place, decides_exactly}
use Rattle.demands.proofs.Depth.{run_depth_told, run_goes_same, run_goes_exactly, run_lacks_stack}
use Rattle.demands.proofs.Depth.{expand_depth_told, expansion_goes_same, expansion_goes_exactly}
use Rattle.demands.proofs.Depth.{expansion_lacks_stack, run_deep_as_peak, expansion_deep_as_peak}
use Rattle.demands.proofs.Offers.{offers_made, turn_unique}
use Rattle.demands.proofs.Formula.{keeps_formula}
use Rattle.demands.proofs.ChainExample.{chain_decides, long_runs_given}

-- demand 2: sets and tables have no member missing and none added, and a conflict is found exactly if two productions
-- claim one cell
pub build_meets2 : (book first follow table : List ℕ) (r : Built)
    → MayBuild book first follow table r
    → BuildMeets2 book first follow table r
build_meets2 book first follow table r o =
    record {
      conflict_iff = λ {g} s k. conflict_exactly book first follow table s k o;
      done_iff = λ {g} s k. done_exactly_if book first follow table s k o;
      first_sets = λ {g} s n. (done_exactly book first follow table s o n).firsts;
      follow_sets = λ {g} s n. (done_exactly book first follow table s o n).follows;
      cells = λ {g} s n. (done_exactly book first follow table s o n).cells;
    }

-- the room that a string needs is a number of list cells and of stack cells
pub premises_room : {book table tokens : List ℕ} (h : Premises book table tokens)
    → RoomNeeded h.built.grammar (cell_of h.built.grammar table) tokens
premises_room {tokens = tokens} h = room_needed (premises_exact h) tokens

module _ (book table tokens stack list : List ℕ) (r : Ran) (o : MayRun book table tokens stack list r) where
  -- demand 3
  pub run_meets3 : RunMeets3 book table tokens stack list r
  run_meets3 =
      record {
        accepts = λ h n. accepted_derived h stack list (run_begins book table tokens stack list r o h) n;
        only_one = λ h {ps} {qs} d e. leftmost_unique h.built.no_conflict d e;
        served_or_room = λ h {ps} d. served_or_short h stack list d (run_begins book table tokens stack list r o h);
        room_iff = λ h {ps} d.
            let begun = run_begins book table tokens stack list r o h in
            (room_short h stack list d begun, short_room_refused h stack list d begun);
        decided = λ h n k. (decides_exactly h stack list n (run_begins book table tokens stack list r o h)).1 k;
        place = λ h n. syntax_place h stack list (run_begins book table tokens stack list r o h) n;
      }

  -- demand 2: under the premises of demand 3 and with room, the string of a complete list runs back to the list
  pub run_meets2 : RunMeets2 book table tokens stack list r
  unfolding done at_depth
  run_meets2 =
      record {
        back = λ {ps} h d l k.
            let (answer, listed) = runs_back h stack list d l k (run_begins book table tokens stack list r o h) in
            (ap (λ (a : Answer). a.number) answer, listed);
      }

  -- steps = productions listed + tokens matched, in every answer: where steps do not begin, none is counted
  pub run_steps_add : RunStepsAdd book table tokens stack list r
  run_steps_add =
      record {
        sum = λ {g} s a. ends_steps (run_ends book table tokens stack list r o s a);
        listed = λ {g} s a. (run_ends book table tokens stack list r o s a).written;
        none = λ n. (before_steps n o).0.steps;
      }

  -- where steps do not begin, nothing is changed
  pub run_before_steps : ((g : Grammar) → Serves book g → ¬ Admits g table tokens stack)
      → (r.stack ≡ stack) × (r.list ≡ list)
  run_before_steps n = let (early, stacked, listed) = before_steps n o in (stacked, listed)

  -- a derivable string that is refused for room: the detail, the place, the steps and what is listed then
  pub run_place_room : (h : Premises book table tokens) {ps : List ℕ} (d : Complete h.built.grammar ps tokens)
      → r.answer.number ≡ room
      → StopsForRoom h.built.grammar d (ran h.built.grammar table tokens stack list) stack list
      r.answer r.stack r.list
  run_place_room h d n = room_place h stack list d (run_begins book table tokens stack list r o h) n

  -- any string, derivable or not: done or syntax exactly if list and stack have the room that the string needs, of
  -- which 65,535 cells count, so that one that needs more is never decided
  pub run_enough : (h : Premises book table tokens)
      → (need : RoomNeeded h.built.grammar (cell_of h.built.grammar table) tokens)
      → ((r.answer.number ≡ 0) ⊎ (r.answer.number ≡ syntax)) ↔ RunRoom need stack list
  run_enough h need = decides_exactly h stack list need (run_begins book table tokens stack list r o h)

  -- the depth is the most stack cells held at any moment, and 0 where steps do not begin
  pub run_depth : RunDepth book table tokens stack list r
  run_depth = run_depth_told book table tokens stack list r o

  module _ (other : List ℕ) (q : Ran) (p : MayRun book table tokens other list q) where
    -- lent that many cells a call goes the same way: however it ends, on a stack that is not larger answer and list are
    -- the same exactly if at least so many cells of it count
    pub run_depth_exactly : counted other ≤ counted stack
        → ((q.answer ≡ r.answer) × (q.list ≡ r.list)) ↔ (r.answer.depth ≤ counted other)
    run_depth_exactly = run_goes_exactly book table tokens stack list r o other q p

    -- lent one less, or fewer down to none, it is refused for room, for want of stack, and where it has a cell, after
    -- fewer steps
    pub run_depth_least : counted other < r.answer.depth
        → (q.answer.number ≡ room)
        × (q.answer.detail ≡ stack_room)
        × (1 ≤ length other → q.answer.steps < r.answer.steps)
    run_depth_least = run_lacks_stack book table tokens stack list r o other q p

    -- a run that ends with 0 or 11, on any table that passes refusal 9, goes the same way on a larger stack too
    pub run_depth_enough : (r.answer.number ≡ 0) ⊎ (r.answer.number ≡ syntax)
        → r.answer.depth ≤ counted other
        → (q.answer ≡ r.answer) × (q.list ≡ r.list)
    run_depth_enough = run_goes_same book table tokens stack list r o other q p

  -- where a derivable string is accepted, the depth is the greatest height along its derivation
  pub run_depth_peak : (h : Premises book table tokens) {ps : List ℕ} (d : Complete h.built.grammar ps tokens)
      → r.answer.number ≡ 0
      → r.answer.depth ≡ peak d
  run_depth_peak h d n = run_deep_as_peak book table tokens stack list r o h d n

  -- room by formula: where no right side of the book is empty, a run of n tokens keeps within N × n list cells and
  -- 1 + 15 × N × n stack cells, and with those it is never refused for room
  pub run_formula : RunWithinFormula book table tokens stack list r
  run_formula = keeps_formula book table tokens stack list r o

  -- on any table that passes refusal 9 the run is done, or refuses for room or for syntax
  pub run_any_ends : {g : Grammar}
      → Serves book g
      → Admits g table tokens stack
      → (r.answer.number ≡ 0) ⊎ ((r.answer.number ≡ room) ⊎ (r.answer.number ≡ syntax))
  run_any_ends s a = told_numbers (ends_told (run_ends book table tokens stack list r o s a))

  -- and it accepts only a string that the start symbol derives, by the list, which is as long as the steps less the
  -- tokens
  pub run_any_accepts : {g : Grammar}
      → Serves book g
      → Admits g table tokens stack
      → r.answer.number ≡ 0
      → (ps : List ℕ) × Complete g ps tokens × (r.list ≡ over ps list) × (r.answer.steps ≡ length ps + length tokens)
  run_any_accepts s a n = any_accepted a.fits (run_ends book table tokens stack list r o s a) n

-- the formula's premises are met together: with its room for one token, the run of 0 on A → B 0, B → 0 0 is not
-- refused for room
pub chain_never_room : (r : Ran)
    → MayRun chain_book chain_table (0 ∷ []) (replicate 31 9) (replicate 2 9) r
    → (r.answer.number ≡ 0) ⊎ (r.answer.number ≡ syntax)
chain_never_room = chain_decides

-- for one nonterminal and one token neither number can be lowered: on A → 0 0 .. 0 with a stack cell or a list cell
-- less than the formula's the run of 0 is refused for room
pub formula_needed : Every Given (long_run ∷ low_run ∷ listless_run ∷ [])
formula_needed = long_runs_given

module _ (book list stack output : List ℕ) (r : Expanded) (o : MayExpand book list stack output r) where
  -- demand 2: given room and at most 65,535 productions, a complete list expands to the string that it derives
  pub expand_meets2 : ExpandMeets2 book list stack output r
  expand_meets2 =
      record {
        expands = λ {g} {w} s d short h k.
            expands_to g list stack output d h k (expansion_begins book list stack output r o s short);
      }

  -- steps = productions used + tokens written, in every answer: where steps do not begin, none is counted
  pub expand_steps_add : ExpandStepsAdd book list stack output r
  expand_steps_add =
      record {
        sum = λ {g} s short k. ends_moves g list stack output (expansion_ends book list stack output r o s short k);
        written = λ {g} s short k. (expansion_ends book list stack output r o s short k).written;
        none = λ n. (expansion_before_steps n o).0.steps;
      }

  -- where steps do not begin, nothing is changed
  pub expand_before_steps : ((g : Grammar) → Serves book g → length list ≤ longest_list → 1 ≤ length stack → ⊥)
      → (r.stack ≡ stack) × (r.output ≡ output)
  expand_before_steps n = let (early, stacked, written) = expansion_before_steps n o in (stacked, written)

  -- the depth is the most stack cells held at any moment, and 0 where steps do not begin
  pub expand_depth : ExpandDepth book list stack output r
  expand_depth = expand_depth_told book list stack output r o

  module _ (other : List ℕ) (q : Expanded) (p : MayExpand book list other output q) where
    -- lent that many cells a call goes the same way: however it ends, on a stack that is not larger answer and output
    -- are the same exactly if at least so many cells of it count
    pub expand_depth_exactly : counted other ≤ counted stack
        → ((q.answer ≡ r.answer) × (q.output ≡ r.output)) ↔ (r.answer.depth ≤ counted other)
    expand_depth_exactly = expansion_goes_exactly book list stack output r o other q p

    -- lent one less, or fewer down to none, it is refused for room, for want of stack, and where it has a cell, after
    -- fewer steps
    pub expand_depth_least : counted other < r.answer.depth
        → (q.answer.number ≡ room)
        × (q.answer.detail ≡ stack_room)
        × (1 ≤ length other → q.answer.steps < r.answer.steps)
    expand_depth_least = expansion_lacks_stack book list stack output r o other q p

    -- an expansion that ends with 0 or 12 goes the same way on a larger stack too
    pub expand_depth_enough : (r.answer.number ≡ 0) ⊎ (r.answer.number ≡ production)
        → r.answer.depth ≤ counted other
        → (q.answer ≡ r.answer) × (q.output ≡ r.output)
    expand_depth_enough = expansion_goes_same book list stack output r o other q p

  module _ {g : Grammar} (s : Serves book g) (short : length list ≤ longest_list) where
    -- where a complete list is done, the depth is the greatest height along its derivation
    pub expand_depth_peak : {w : List ℕ} (d : Complete g list w) → r.answer.number ≡ 0 → r.answer.depth ≡ peak d
    expand_depth_peak d n = expansion_deep_as_peak book list stack output r o s short d n

    -- with room it is done exactly if the list is complete
    pub expand_exact : r.answer.number ≢ room → (r.answer.number ≡ 0) ↔ ((w : List ℕ) × Complete g list w)
    expand_exact = done_exact g list stack output (expansion_begins book list stack output r o s short)

    -- and else it is refusal 12
    pub expand_refuses : r.answer.number ≢ room
        → (r.answer.number ≡ production) ↔ ((w : List ℕ) → ¬ Complete g list w)
    expand_refuses = unfit_exact g list stack output (expansion_begins book list stack output r o s short)

    -- at the longest beginning of the list that some complete list shares
    pub expand_place : r.answer.number ≡ production → LongestList g list r.answer.place
    expand_place = unfit_place g list stack output s (expansion_begins book list stack output r o s short)

    -- what is written when it is done is the string that the list derives, as long as the steps less the productions
    pub expand_writes : r.answer.number ≡ 0
        → (w : List ℕ) × Complete g list w × (r.output ≡ over w output) × (r.answer.steps ≡ length list + length w)
    expand_writes = done_complete g list stack output (expansion_begins book list stack output r o s short)

    -- a complete list is refused only for room, exactly if the start or a step needs more stack than was lent, or the
    -- string is longer than the output
    pub expand_room_iff : {w : List ℕ} (d : Complete g list w)
        → ((r.answer.number ≡ 0) ⊎ (r.answer.number ≡ room))
        × ((r.answer.number ≡ room) ↔ ((counted stack < peak d) ⊎ (counted output < length w)))
    expand_room_iff d = complete_room_iff g list stack output d (expansion_begins book list stack output r o s short)

    -- where a list is refused for room: the detail, the place, the steps and what is written then
    pub expand_place_room : r.answer.number ≡ room
        → ExpansionStops g list (expanded g list stack output) stack output r.answer r.stack r.output
    expand_place_room = room_midway g list stack output (expansion_begins book list stack output r o s short)

module _ (book table : List ℕ) where
  -- a complete list, expanded with room, gives a string that runs back to the list
  pub expand_run : (stack output other list : List ℕ) {ps w : List ℕ} (h : Premises book table w)
      → (d : Complete h.built.grammar ps w)
      → peak d ≤ counted stack
      → length w ≤ counted output
      → peak d ≤ counted other
      → length ps ≤ counted list
      → {e : Expanded}
      → MayExpand book ps stack output e
      → {r : Ran}
      → MayRun book table (take (length w) e.output) other list r
      → (e.answer.number ≡ 0) × (r.answer.number ≡ 0) × (r.list ≡ over ps list)
  expand_run stack output other list {ps} {w} h d k m l n {e} x {r} y =
      let (served, written) = (expand_meets2 book ps stack output e x).expands h.built.serves d (omega arith) k m in
      let string : take (length w) e.output ≡ w =
      ap (take (length w)) written ∙ take_at w (drop (length w) output) (length w) refl in
      let (accepted, listed) = (run_meets2 book table w other list r (rw string at y)).back h d n l in
      (served, accepted, listed)

  -- the list of a string that is accepted is a derivation of it, as long as the steps less the tokens, and expands to
  -- the string wherever there is room for that
  pub run_expand : (tokens stack list other output : List ℕ) (h : Premises book table tokens)
      → {r : Ran}
      → MayRun book table tokens stack list r
      → r.answer.number ≡ 0
      → (ps : List ℕ) × ((d : Complete h.built.grammar ps tokens)
      × (r.answer.steps ≡ length ps + length tokens)
      × (take (length ps) r.list ≡ ps)
      × ((e : Expanded)
      → MayExpand book ps other output e
      → peak d ≤ counted other
      → length tokens ≤ counted output
      → (e.answer.number ≡ 0) × (e.output ≡ over tokens output)))
  unfolding done at_depth
  run_expand tokens stack list other output h {r} y accepted =
      let begun = run_begins book table tokens stack list r y h in
      let (ps, d, written) = (run_meets3 book table tokens stack list r y).accepts h accepted in
      let (l, within) = done_had_room h stack list d begun accepted in
      let (answer, listed) = runs_back h stack list d l within begun in
      let cells : take (length ps) r.list ≡ ps =
      ap (take (length ps)) written ∙ take_at ps (drop (length ps) list) (length ps) refl in (
        ps,
        (
          d,
          ap (λ (a : Answer). a.steps) answer,
          cells,
          λ e x k m. (expand_meets2 book ps other output e x).expands h.built.serves d (omega arith) k m,
        ),
      )

module _ (book : List ℕ) (reading : Result Index Answer) (table tokens stack list : List ℕ) where
  -- offers make a run: with the start symbol on the stack, an offer for each token and then one of the end mark give
  -- what a run on the judged book gives, for any reading and table, a string of its tokens that can be counted
  -- and a stack cell; its depth is the greatest that any of the offers tells
  pub offers_run : 1 ≤ length stack
      → length tokens ≤ most_cells
      → ((index : Index) → reading ≡ Ok index → (i : ℕ) → i < length tokens → get_or tokens i 0 < index.outline.tokens)
      → {r : Reply} {s l : List ℕ}
      → (turn : OfferedInTurn book reading table tokens at_start (start_on reading stack) list r s l)
      → {a : Answer} {stack' list' : List ℕ}
      → JudgedRun book reading table tokens stack list a stack' list'
      → MakesRun book reading table stack r (deepest_of turn) s l a stack' list'
  offers_run some_cell short known turn = offers_made book reading table tokens stack list some_cell short known turn

-- and offers in turn allow one outcome
pub offers_unique : {book : List ℕ} {reading : Result Index Answer} {table tokens : List ℕ} {at : Progress}
    {stack list : List ℕ} {r q : Reply} {s l t m : List ℕ}
    → OfferedInTurn book reading table tokens at stack list r s l
    → OfferedInTurn book reading table tokens at stack list q t m
    → ◌≡◌ {A = OfferResult} (r, s, l) (q, t, m)
offers_unique {book} {reading} {table} one other = turn_unique book reading table one other
