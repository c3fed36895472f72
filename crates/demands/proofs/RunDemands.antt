-- What the answer of a run says of the string, under the premises of demand 3.
use mathlib.Core.Path.{◌≡◌, ap, ◌∙◌}
use mathlib.Core.Logic.{◌⊎◌, inl, inr, ⊎_elim}
use mathlib.Core.List.{List}
use Prim.Native.Nat.{ℕ, ◌+◌, ◌≤◌, ◌<◌}
use native.Mathlib.Decide.{dec_lt}
use native.Mathlib.Omega.{arith}
use lib.ListN.{length}
use Rattle.grammar.specs.Grammar.{Grammar, Complete}
use Rattle.grammar.specs.Machine.{Longest}
use Rattle.grammar.proofs.Leftmost.{leftmost_derives}
use Rattle.answers.specs.declared.Answer.{Answer}
use Rattle.answers.specs.Answers.{done, refusal, at_depth}
use Rattle.answers.specs.Refusals.{room, syntax}
use Rattle.answers.specs.Buffers.{over, counted}
use Rattle.book.proofs.Promise.{serves_limits}
use Rattle.table.proofs.Promise.{table_fits}
use Rattle.machine.specs.Machine.{Offered, taken, final}
use Rattle.machine.specs.Room.{peak}
use Rattle.machine.proofs.Promise.{whole, run_syntax, run_place, run_complete, run_short_iff, peak_start}
use Rattle.offer.specs.Strings.{ran}
use Rattle.offer.specs.Stops.{answered, expected, run_answer}
use Rattle.offer.proofs.Promise.{told_room, told_syntax, told_numbers, short_room}
use Rattle.demands.specs.Demands.{Ran, Premises}
use Rattle.demands.proofs.AnyTable.{ends_told, any_accepted}
use Rattle.demands.proofs.Kept.{premises_exact, RunBegins, stackless, begins}

module _ {book table tokens : List ℕ} (h : Premises book table tokens) (stack list : List ℕ) where
  abbrev pub grammar : Grammar
  grammar = h.built.grammar

  -- a string that is accepted is derived, by the list that is written
  pub accepted_derived : {r : Ran} → RunBegins grammar table tokens stack list r → r.answer.number ≡ 0 → (ps : List ℕ) × Complete grammar ps tokens × (r.list ≡ over ps list)
  unfolding refusal
  accepted_derived (stackless e a b c) n = absurd (omega (arith, ap (λ (x : Answer). x.number) a))
  accepted_derived (begins k e) n =
      let (ps, derives, listed, steps) = any_accepted (table_fits h.built.built) e n in
      (ps, derives, listed)

  -- where syntax is the reason, the place is that of the longest beginning
  pub syntax_place : {r : Ran} → RunBegins grammar table tokens stack list r → r.answer.number ≡ syntax → Longest grammar tokens r.answer.place
  unfolding ran refusal
  syntax_place (stackless e a b c) n = absurd (omega (arith, ap (λ (x : Answer). x.number) a))
  syntax_place (begins k e) n =
      let (reason, s, why, stopped_at, place) = told_syntax (ends_told e) n in
      rw place (run_place (premises_exact h) (counted stack) (counted list) (serves_limits h.built.serves).well_formed h.built.serves.useful.useful tokens stopped_at why)

  module _ {ps : List ℕ} (d : Complete grammar ps tokens) where
    -- a derivable string is served, or room is the reason
    pub served_or_short : {r : Ran} → RunBegins grammar table tokens stack list r → (r.answer.number ≡ 0) ⊎ (r.answer.number ≡ room)
    unfolding ran refusal
    served_or_short (stackless e a b c) = inr (ap (λ (x : Answer). x.number) a)
    served_or_short {r} (begins k e) = ⊎_elim (λ n. inl n) (λ m. ⊎_elim (λ n. inr n) (λ n. absurd (blocked n)) m) (told_numbers (ends_told e))
      where
        blocked : r.answer.number ≡ syntax → ⊥
        blocked n =
            let (reason, s, why, stopped_at, place) = told_syntax (ends_told e) n in
            run_syntax (premises_exact h) (counted stack) (counted list) tokens stopped_at why (leftmost_derives d)

    -- and then list or stack is too short for the derivation
    pub room_short : {r : Ran} → RunBegins grammar table tokens stack list r → r.answer.number ≡ room → (counted list < length ps) ⊎ (counted stack < peak d)
    unfolding ran
    room_short (stackless e a b c) n = inr (omega (arith, peak_start d))
    room_short (begins k e) n =
        let (reason, s, why, stopped_at) = told_room (ends_told e) n in
        (run_short_iff (premises_exact h) (counted stack) (counted list) d (omega arith)).0 (reason, s, why, stopped_at)

    pub short_room_refused : {r : Ran} → RunBegins grammar table tokens stack list r → (counted list < length ps) ⊎ (counted stack < peak d) → r.answer.number ≡ room
    unfolding ran refusal run_answer at_depth
    short_room_refused (stackless e a b c) n = ap (λ (x : Answer). x.number) a
    short_room_refused (begins k e) n =
        let (reason, s, why, stopped_at) = (run_short_iff (premises_exact h) (counted stack) (counted list) d (omega arith)).1 n in
        ap (λ (x : Answer). x.number) e.answer ∙ ap (λ (o : Offered). (answered (expected grammar table) o).number) stopped_at ∙ short_room (expected grammar table) s why

    -- with room for the derivation the run is done, lists it, has made one step for each production and each token, and went as high as the
    -- derivation does
    pub runs_back : {r : Ran} → length ps ≤ counted list → peak d ≤ counted stack → RunBegins grammar table tokens stack list r → (r.answer ≡ at_depth (peak d) (done (length ps + length tokens))) × (r.list ≡ over ps list)
    unfolding ran answered run_answer final whole
    runs_back l k (stackless e a b c) = absurd (omega (arith, peak_start d))
    runs_back l k (begins m e) =
        let taken_at : ran grammar table tokens stack list ≡ taken (whole d) = run_complete (premises_exact h) (counted stack) (counted list) d l k in
        (rw taken_at at e.answer, rw taken_at at e.written)

    -- a run that is done had room for the derivation
    pub done_had_room : {r : Ran} → RunBegins grammar table tokens stack list r → r.answer.number ≡ 0 → (length ps ≤ counted list) × (peak d ≤ counted stack)
    done_had_room b n = (within (dec_lt (counted list) (length ps)) (λ k. inl k), within (dec_lt (counted stack) (peak d)) (λ k. inr k))
      where
        within : {x y : ℕ} → Dec (y < x) → (y < x → (counted list < length ps) ⊎ (counted stack < peak d)) → x ≤ y
        within (yes k) f = absurd (omega (arith, short_room_refused b (f k)))
        within (no k) f = omega arith
