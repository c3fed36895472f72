-- Where the run of a derivable string that has no room stops; and every string is decided exactly with the room that it needs.
use mathlib.Core.Path.{◌≡◌, refl, sym, ap, ◌∙◌, subst}
use mathlib.Core.Logic.{◌↔◌, ◌⊎◌, inl, inr, ⊎_elim}
use mathlib.Core.List.{List}
use Prim.Native.Nat.{ℕ, ◌≤◌}
use native.Mathlib.Omega.{arith}
use lib.ListN.{length}
use Rattle.grammar.specs.Grammar.{Grammar, Complete}
use Rattle.sets.specs.declared.Set.{Set}
use Rattle.answers.specs.declared.Answer.{Answer}
use Rattle.answers.specs.Answers.{done, refusal, stop, no_set, at_depth}
use Rattle.answers.specs.Refusals.{room, syntax, stack_room, list_room}
use Rattle.answers.specs.Buffers.{over, counted, cleared}
use Rattle.table.specs.Table.{cell_of}
use Rattle.machine.specs.Machine.{Offered, final}
use Rattle.machine.specs.declared.Reason.{Reason}
use Rattle.machine.specs.Room.{right_of}
use Rattle.machine.specs.Stopping.{RoomNeeded, Decided, accepted, refused}
use Rattle.machine.proofs.Promise.{Counted, Outcome, enough, list_short, stack_short, run_steps, run_room}
use Rattle.offer.specs.Strings.{ran}
use Rattle.offer.specs.Stops.{answered, expected, run_answer}
use Rattle.offer.proofs.Promise.{Told, served, short_of_list, short_of_stack, blocked}
use Rattle.demands.specs.Demands.{Ran, Premises, RunRoom}
use Rattle.demands.specs.RoomPlace.{StopsForRoom, no_stack, no_list_cell, no_stack_cells}
use Rattle.demands.proofs.Kept.{premises_exact, RunBegins, stackless, begins}
use Rattle.demands.proofs.AnyTable.{ends_told}

module _ {g : Grammar} {ps w : List ℕ} {d : Complete g ps w} {o : Offered} {stack list : List ℕ} where
  stops_as : {a b : Answer} {s t l m : List ℕ} → a ≡ b → s ≡ t → l ≡ m → StopsForRoom g d o stack list b t m → StopsForRoom g d o stack list a s l
  stops_as e f k x = rw (e, f, k) x

module _ {g : Grammar} {ps w : List ℕ} {d : Complete g ps w} {stack list : List ℕ} (stacked : 1 ≤ length stack) (table : List ℕ) {r : Ran} where
  outcome_stops : {o : Offered} → Outcome (counted stack) (counted list) d o → Counted (counted stack) (counted list) (final o) → r.answer ≡ run_answer g table o → r.stack ≡ cleared stack → r.list ≡ over (final o).listed list → r.answer.number ≡ room → StopsForRoom g d o stack list r.answer r.stack r.list
  unfolding answered run_answer final done stop expected at_depth
  outcome_stops (enough l k) c a b e n = absurd (omega (arith, ap (λ (x : Answer). x.number) a))
  outcome_stops (list_short {s = s} at l k) c a b e n = stops_as (a ∙ ap (λ (m : ℕ). at_depth s.height (stop room s.matched list_room m no_set)) c.steps) b e (no_list_cell stacked refl at l k)
  outcome_stops (stack_short {s = s} at l k m q) c a b e n = stops_as (a ∙ ap (λ (m : ℕ). at_depth s.height (stop room s.matched stack_room m no_set)) c.steps) b e (no_stack_cells stacked refl at l k m)

decided_numbers : {e : Reason → Set} {o : Offered} {a : Answer} → Decided o → Told e o a → (a.number ≡ 0) ⊎ (a.number ≡ syntax)
unfolding done stop at_depth
decided_numbers q (served s) = inl refl
decided_numbers (refused q) (short_of_list s) = elim q [ ]
decided_numbers (refused q) (short_of_stack s) = elim q [ ]
decided_numbers q (blocked s k) = inr refl

pub told_decided : {e : Reason → Set} {o : Offered} {a : Answer} → Told e o a → (a.number ≡ 0) ⊎ (a.number ≡ syntax) → Decided o
unfolding done stop at_depth
told_decided (served s) k = accepted
told_decided (short_of_list s) k = absurd (⊎_elim (λ n. omega arith) (λ n. omega arith) k)
told_decided (short_of_stack s) k = absurd (⊎_elim (λ n. omega arith) (λ n. omega arith) k)
told_decided (blocked s q) k = refused q

module _ {book table tokens : List ℕ} (h : Premises book table tokens) (stack list : List ℕ) where
  pub room_place : {ps : List ℕ} (d : Complete h.built.grammar ps tokens) {r : Ran} → RunBegins h.built.grammar table tokens stack list r → r.answer.number ≡ room → StopsForRoom h.built.grammar d (ran h.built.grammar table tokens stack list) stack list r.answer r.stack r.list
  unfolding ran
  room_place d (stackless e a b c) n = stops_as a b c (no_stack e)
  room_place d (begins k e) n =
      outcome_stops k table (run_room (premises_exact h) (counted stack) (counted list) d (omega arith))
      (run_steps (right_of h.built.grammar) (cell_of h.built.grammar table) (counted stack) (counted list) h.built.grammar.start tokens)
      e.answer e.cleared e.written n

  -- the run decides the string exactly if it is lent the room that the string needs
  pub decides_exactly : (n : RoomNeeded h.built.grammar (cell_of h.built.grammar table) tokens)
      → {r : Ran}
      → RunBegins h.built.grammar table tokens stack list r
      → ((r.answer.number ≡ 0) ⊎ (r.answer.number ≡ syntax)) ↔ RunRoom n stack list
  unfolding ran refusal
  decides_exactly n (stackless e a b c) = (
    λ m. absurd (⊎_elim (λ k. omega (arith, ap (λ (x : Answer). x.number) a)) (λ k. omega (arith, ap (λ (x : Answer). x.number) a)) m),
    λ k. absurd (omega (arith, n.tall, k.stack_room)),
  )
  decides_exactly n (begins m e) = (
    λ k.
        let (stacked, listed) = n.needed (counted stack) (counted list) (omega arith) (told_decided (ends_told e) k) in
        record { stack_room = stacked; list_room = listed },
    λ k.
        let reached = n.reached (counted stack) (counted list) k.stack_room k.list_room in
        decided_numbers (subst (λ (o : Offered). Decided o) (sym reached) n.decided) (ends_told e),
  )
