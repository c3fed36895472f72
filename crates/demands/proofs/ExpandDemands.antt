-- What the answer of an expansion says of the list, where the book serves and the list has at most 65,535 productions.
use Rattle.std.specs.Prelude.{Ok, Err}
use mathlib.Core.Path.{◌≡◌, ap, ◌∙◌}
use mathlib.Core.Logic.{◌↔◌, ◌≢◌, ◌⊎◌, inl, inr, ⊎_elim}
use mathlib.Core.List.{List}
use Prim.Native.Nat.{ℕ, ◌+◌, ◌≤◌, ◌<◌}
use native.Mathlib.Decide.{dec_lt}
use native.Mathlib.Omega.{arith}
use lib.ListN.{length}
use Rattle.grammar.specs.Grammar.{Grammar, Complete}
use Rattle.answers.specs.declared.Answer.{Answer}
use Rattle.answers.specs.Answers.{done, refusal, stop, at_depth}
use Rattle.answers.specs.Refusals.{room, production}
use Rattle.answers.specs.Buffers.{over, counted}
use Rattle.book.specs.Judging.{Serves}
use Rattle.book.proofs.Promise.{serves_limits}
use Rattle.machine.specs.Expansion.{ended, expansion}
use Rattle.machine.specs.declared.Obstacle.TheVariants.{Unfit}
use Rattle.machine.specs.Expansion as machine
use Rattle.machine.specs.Room.{peak, LongestList}
use Rattle.machine.proofs.Promise.{peak_start, expand_steps, expand_sound, expand_complete, expand_exact, expand_refuses, expand_place, expand_room}
use Rattle.expand.proofs.Promise.{ToldBy, told_by, told_complete, told_unfit, told_with_room, told_moves, told_kinds, complete_done, unfit_refused}
use Rattle.demands.specs.Demands.{Expanded}
use Rattle.demands.proofs.Kept.{EndsExpansion, ExpansionBegins, stackless, begins}

module _ (g : Grammar) (list stack output : List ℕ) where
  -- the expansion with the room of the lent buffers
  abbrev pub expanded_by : machine.Expansion
  expanded_by = expansion g (counted stack) (counted output) list

  module _ {r : Expanded} (e : EndsExpansion g list stack output r) where
    pub ends_told_by : ToldBy expanded_by.progress expanded_by.ending r.answer
    ends_told_by = rw e.answer (told_by expanded_by)

    -- the steps are the productions used and the tokens written
    pub ends_moves : r.answer.steps ≡ expanded_by.progress.used + length expanded_by.progress.written
    ends_moves = told_moves ends_told_by ∙ (expand_steps g (counted stack) (counted output) list).moves

    ends_done : expanded_by.ending ≡ Ok tt → r.answer.number ≡ 0
    unfolding done at_depth
    ends_done h = ap (λ (a : Answer). a.number) (e.answer ∙ complete_done expanded_by h)

    ends_unfit : expanded_by.ending ≡ Err Unfit → r.answer.number ≡ production
    unfolding stop at_depth
    ends_unfit h = ap (λ (a : Answer). a.number) (e.answer ∙ unfit_refused expanded_by h)

  -- done only of a complete list, the output is the string it derives, and the steps are the productions and its tokens
  pub done_complete : {r : Expanded}
      → ExpansionBegins g list stack output r
      → r.answer.number ≡ 0
      → (w : List ℕ) × Complete g list w × (r.output ≡ over w output) × (r.answer.steps ≡ length list + length w)
  unfolding refusal
  done_complete (stackless e a b c) n = absurd (omega (arith, ap (λ (x : Answer). x.number) a))
  done_complete (begins k e) n =
      let (derives, used) = expand_sound g (counted stack) (counted output) list (told_complete (ends_told_by e) n) in
      (expanded_by.progress.written, derives, e.written, omega (arith, ends_moves e, used))

  -- with room, done exactly if the list is complete
  pub done_exact : {r : Expanded} → ExpansionBegins g list stack output r → r.answer.number ≢ room → (r.answer.number ≡ 0) ↔ ((w : List ℕ) × Complete g list w)
  unfolding refusal
  done_exact (stackless e a b c) n = absurd (n (ap (λ (x : Answer). x.number) a))
  done_exact (begins k e) n =
      let (to, from) = expand_exact g (counted stack) (counted output) list (told_with_room (ends_told_by e) n) in
      (λ h. to (told_complete (ends_told_by e) h), λ d. ends_done e (from d))

  -- and refused exactly if it is complete of no string
  pub unfit_exact : {r : Expanded} → ExpansionBegins g list stack output r → r.answer.number ≢ room → (r.answer.number ≡ production) ↔ ((w : List ℕ) → ¬ Complete g list w)
  unfolding refusal
  unfit_exact (stackless e a b c) n = absurd (n (ap (λ (x : Answer). x.number) a))
  unfit_exact (begins k e) n =
      let (to, from) = expand_refuses g (counted stack) (counted output) list (told_with_room (ends_told_by e) n) in
      (λ h. to (told_unfit (ends_told_by e) h).0, λ d. ends_unfit e (from d))

  -- where the list does not fit, the place is the longest beginning that some complete list shares
  pub unfit_place : {book : List ℕ} → Serves book g → {r : Expanded} → ExpansionBegins g list stack output r → r.answer.number ≡ production → LongestList g list r.answer.place
  unfolding refusal
  unfit_place s (stackless e a b c) n = absurd (omega (arith, ap (λ (x : Answer). x.number) a))
  unfit_place s (begins k e) n =
      let (misfits, place) = told_unfit (ends_told_by e) n in
      rw place (expand_place g (counted stack) (counted output) list (serves_limits s).well_formed s.useful.useful misfits)

  module _ {w : List ℕ} (d : Complete g list w) where
    -- with room a complete list expands to the string it derives
    pub expands_to : peak d ≤ counted stack → length w ≤ counted output → {r : Expanded} → ExpansionBegins g list stack output r → (r.answer.number ≡ 0) × (r.output ≡ over w output)
    unfolding ended
    expands_to h k (stackless e a b c) = absurd (omega (arith, peak_start d))
    expands_to h k (begins m e) =
        let whole = expand_complete g (counted stack) (counted output) list d h k in
        (ends_done e (ap (λ (x : machine.Expansion). x.ending) whole), rw whole at e.written)

    -- and it is refused only for room, exactly if stack or output is too short
    pub complete_room_iff : {r : Expanded} → ExpansionBegins g list stack output r → ((r.answer.number ≡ 0) ⊎ (r.answer.number ≡ room)) × ((r.answer.number ≡ room) ↔ ((counted stack < peak d) ⊎ (counted output < length w)))
    unfolding refusal
    complete_room_iff (stackless e a b c) = (inr (ap (λ (x : Answer). x.number) a), (λ n. inl (omega (arith, peak_start d)), λ n. ap (λ (x : Answer). x.number) a))
    complete_room_iff {r} (begins k e) = (kinds, (to, from))
      where
        fits : (expanded_by.ending ≢ Err Unfit) × ((expanded_by.ending ≡ Ok tt) ↔ ((peak d ≤ counted stack) × (length w ≤ counted output)))
        fits = expand_room g (counted stack) (counted output) list d (omega arith)

        kinds : (r.answer.number ≡ 0) ⊎ (r.answer.number ≡ room)
        kinds = ⊎_elim (λ n. inl n) (λ m. ⊎_elim (λ n. inr n) (λ n. absurd (fits.0 (told_unfit (ends_told_by e) n).0)) m) (told_kinds (ends_told_by e))

        short : Dec (counted stack < peak d) → Dec (counted output < length w) → r.answer.number ≡ room → (counted stack < peak d) ⊎ (counted output < length w)
        short (yes l) q n = inl l
        short (no l) (yes m) n = inr m
        short (no l) (no m) n = absurd (omega (arith, ends_done e (fits.1.1 (omega arith))))

        to : r.answer.number ≡ room → (counted stack < peak d) ⊎ (counted output < length w)
        to n = short (dec_lt (counted stack) (peak d)) (dec_lt (counted output) (length w)) n

        enough : r.answer.number ≡ 0 → (peak d ≤ counted stack) × (length w ≤ counted output)
        enough n = fits.1.0 (told_complete (ends_told_by e) n)

        from : (counted stack < peak d) ⊎ (counted output < length w) → r.answer.number ≡ room
        from s = ⊎_elim (λ n. absurd (⊎_elim (λ l. omega (arith, (enough n).0)) (λ l. omega (arith, (enough n).1)) s)) (λ n. n) kinds
