-- What the answer of a bottom-up run says of the string, under the premises of demand 3 and on any table.
use mathlib.Core.Path.{◌≡◌, ap, ◌∙◌}
use mathlib.Core.Logic.{◌↔◌, ◌⊎◌, inl, inr, ⊎_elim}
use mathlib.Core.List.{List}
use Prim.Native.Nat.{ℕ, ◌+◌, ◌≤◌, ◌<◌}
use native.Mathlib.Decide.{dec_lt}
use native.Mathlib.Omega.{arith}
use lib.ListN.{length}
use Rattle.grammar.specs.Grammar.{Grammar, WellFormed}
use Rattle.answers.specs.declared.Answer.{Answer}
use Rattle.answers.specs.Refusals.{room, syntax}
use Rattle.answers.specs.Buffers.{over, counted}
use Rattle.slr.specs.Rightmost.{Reduces, states_held}
use Rattle.slr.specs.Actions.{ExactActions}
use Rattle.slr.specs.Cells.{action_in, move_in}
use Rattle.slr.specs.RoomMachine.{SlrOffered, setting_of}
use Rattle.slr.specs.Ends.{slr_final}
use Rattle.slr.proofs.Promise.{held_end}
use Rattle.slr.proofs.Promise.{slr_accepts_exactly, rightmost_unique, slr_room_accepts, slr_room_enough, slr_room_lacking, slr_run_spent, slr_built_formed, slr_built_exact}
use Rattle.slr_run.specs.Running.{slr_ran}
use Rattle.slr_run.specs.Demands.{SlrLeaves, SlrPremises}
use Rattle.slr_run.proofs.Kept.{EndsSlrRun, SlrBegins, stackless, begins, number_done, taken_done, room_number, numbers, answer_steps, answer_depth}

module _ {g : Grammar} {table tokens stack list : List ℕ} {r : SlrLeaves} (e : EndsSlrRun g table tokens stack list r) where
  pub ends_numbers : (r.answer.number ≡ 0) ⊎ ((r.answer.number ≡ room) ⊎ (r.answer.number ≡ syntax))
  ends_numbers = rw e.answer (numbers g table (slr_ran g table tokens stack list))

  pub ends_steps : r.answer.steps
      ≡ length (slr_final (slr_ran g table tokens stack list)).listed + (slr_final (slr_ran g table tokens stack list)).matched
  unfolding slr_ran
  ends_steps =
      ap (λ (a : Answer). a.steps) e.answer
      ∙ answer_steps g table (slr_ran g table tokens stack list)
      ∙ (slr_run_spent (setting_of g (action_in g table) (move_in g table) (counted stack) (counted list)) tokens).steps

  pub ends_depth : r.answer.depth ≡ (slr_final (slr_ran g table tokens stack list)).height
  ends_depth = ap (λ (a : Answer). a.depth) e.answer ∙ answer_depth g table (slr_ran g table tokens stack list)

  pub ends_within : 1 ≤ length stack → (1 ≤ r.answer.depth) × (r.answer.depth ≤ counted stack)
  unfolding slr_ran
  ends_within h =
      let spent = slr_run_spent (setting_of g (action_in g table) (move_in g table) (counted stack) (counted list)) tokens in
      (omega (arith, ends_depth, spent.held), omega (arith, ends_depth, spent.height))

module _ {book table tokens : List ℕ} (h : SlrPremises book table tokens) where
  abbrev g : Grammar
  g = h.built.grammar

  abbrev well : WellFormed g
  well = slr_built_formed h.built

  abbrev exact : ExactActions g h.built.paths (action_in g table) (move_in g table)
  exact = slr_built_exact h.built

  pub one_derivation : {ps qs : List ℕ} → Reduces g ps tokens → Reduces g qs tokens → ps ≡ qs
  one_derivation d e = rightmost_unique well h.built.numbered exact d e

  module _ (stack list : List ℕ) where
    -- a string that is accepted is derived, by the list that is written
    pub accepted_derived : {r : SlrLeaves}
        → SlrBegins g table tokens stack list r
        → r.answer.number ≡ 0
        → (ps : List ℕ) × Reduces g ps tokens × (r.list ≡ over ps list)
    unfolding slr_ran slr_final
    accepted_derived (stackless e a) n = absurd (omega arith)
    accepted_derived (begins k e) n =
        let (last, took) = number_done g table (slr_ran g table tokens stack list) (rw e.answer at n) in
        let derives = (slr_accepts_exactly well h.built.numbered exact).0 (slr_room_accepts well h.built.numbered exact (counted stack) (counted list) took) in
        (last.listed, derives, e.written ∙ ap (λ (o : SlrOffered). over (slr_final o).listed list) took)

    module _ {ps : List ℕ} (d : Reduces g ps tokens) where
      -- with room the string is served
      enough : {r : SlrLeaves}
          → SlrBegins g table tokens stack list r
          → states_held 1 d ≤ counted stack
          → length ps ≤ counted list
          → r.answer.number ≡ 0
      unfolding slr_ran
      enough (stackless e a) tall long = absurd (omega (arith, held_end 1 d))
      enough (begins k e) tall long =
          let ends = slr_room_enough well h.built.numbered exact (counted stack) (counted list) d tall long in
          ap (λ (a : Answer). a.number) e.answer ∙ taken_done g table ends.ends

      -- and with less it is refused for room
      lacking : {r : SlrLeaves}
          → SlrBegins g table tokens stack list r
          → (counted list < length ps) ⊎ (counted stack < states_held 1 d)
          → r.answer.number ≡ room
      unfolding slr_ran
      lacking (stackless e a) less = a
      lacking (begins k e) less =
          let ends = slr_room_lacking well h.built.numbered exact (counted stack) (counted list) d (omega arith) (⊎_elim (λ l. inr l) (λ s. inl s) less) in
          ap (λ (a : Answer). a.number) e.answer ∙ room_number g table ends

      -- one of both holds
      either : {A : Type 0}
          → (states_held 1 d ≤ counted stack → length ps ≤ counted list → A)
          → ((counted list < length ps) ⊎ (counted stack < states_held 1 d) → A)
          → A
      either {A} fits less = go (dec_lt (counted list) (length ps)) (dec_lt (counted stack) (states_held 1 d))
        where
          go : Dec (counted list < length ps) → Dec (counted stack < states_held 1 d) → A
          go (yes l) s = less (inl l)
          go (no l) (yes s) = less (inr s)
          go (no l) (no s) = fits (omega arith) (omega arith)

      pub served_or_short : {r : SlrLeaves}
          → SlrBegins g table tokens stack list r
          → (r.answer.number ≡ 0) ⊎ (r.answer.number ≡ room)
      served_or_short b = either (λ tall long. inl (enough b tall long)) (λ less. inr (lacking b less))

      pub room_exactly : {r : SlrLeaves}
          → SlrBegins g table tokens stack list r
          → (r.answer.number ≡ room) ↔ ((counted list < length ps) ⊎ (counted stack < states_held 1 d))
      room_exactly b =
          (λ n. either (λ tall long. absurd (omega (arith, enough b tall long))) (λ less. less), λ less. lacking b less)
