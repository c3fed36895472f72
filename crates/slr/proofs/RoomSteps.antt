-- Single steps of the machine with room: what the run from here is where the cell, the move and the room are known.
use mathlib.Core.Path.{◌≡◌, ◌∙◌}
use mathlib.Core.List.{List, [], ◌∷◌}
use mathlib.Core.Option.{some, none}
use Prim.Native.Nat.{ℕ, zero, suc, ◌-◌, ◌≤◌, ◌<◌}
use native.Mathlib.Omega.{arith}
use lib.ListN.{length, drop, length-append}
use Rattle.grammar.specs.Grammar.{Column, token, endmark}
use Rattle.grammar.specs.Machine.{front}
use Rattle.slr.specs.Actions.{Action, shift, reduce, accept}
use Rattle.slr.specs.RoomMachine.{Setting, Progress, SlrReason, full_list, full_stack, wants, SlrOffered, taken, stopped, shifted, reduced, shifting, uncovering, acting, slr_facing, moving, slr_offer, slr_run_from}
use Rattle.slr.proofs.Codes.{below_true, below_false}

module _ (m : Setting) where
  -- what a filled cell says
  facing_some : (apply : ℕ → ℕ → List ℕ → SlrOffered) (c : Column) (s : Progress) (a : Action)
      → m.cell s.top c ≡ some a
      → slr_facing m apply c s ≡ acting m apply s a
  unfolding slr_facing
  facing_some apply c s a e = rw (e, slr_facing)

  offer_accepts : (l : ℕ) (c : Column) (s : Progress) → m.cell s.top c ≡ some accept
      → slr_offer m l c s ≡ taken s
  unfolding slr_offer acting
  offer_accepts zero c s e = facing_some _ c s accept e
  offer_accepts (suc l) c s e = facing_some _ c s accept e

  offer_shifts : (l : ℕ) (c : Column) (s : Progress) (j : ℕ) → m.cell s.top c ≡ some (shift j)
      → slr_offer m l c s ≡ shifting m j s
  unfolding slr_offer acting
  offer_shifts zero c s j e = facing_some _ c s (shift j) e
  offer_shifts (suc l) c s j e = facing_some _ c s (shift j) e

  shift_fits : (j : ℕ) (s : Progress) → suc (length s.below) < m.room
      → shifting m j s ≡ taken (shifted j s)
  unfolding shifting
  shift_fits j s h = rw (below_true h, shifting)

  shift_full : (j : ℕ) (s : Progress) → m.room ≤ suc (length s.below)
      → shifting m j s ≡ stopped full_stack s
  unfolding shifting
  shift_full j s h = rw (below_false h, shifting)

  -- a reduction that the table allows
  module _ (s : Progress) (c : Column) (p j k : ℕ) (rest : List ℕ) (reduces : m.cell s.top c ≡ some (reduce p))
      (uncovers : drop (m.size p) (s.top ∷ s.below) ≡ k ∷ rest) (moves : m.move k (m.left p) ≡ some j) where
    facing_reduces : (apply : ℕ → ℕ → List ℕ → SlrOffered) → slr_facing m apply c s ≡ apply p j (k ∷ rest)
    unfolding acting uncovering
    facing_reduces apply = facing_some apply c s (reduce p) reduces ∙ rw (uncovers, moves, uncovering)

    offer_list_full : slr_offer m zero c s ≡ stopped full_list s
    unfolding slr_offer
    offer_list_full = facing_reduces _

    offer_reduces : (l : ℕ) → suc (length rest) < m.room
        → slr_offer m (suc l) c s ≡ slr_offer m l c (reduced p j (k ∷ rest) s)
    unfolding slr_offer moving
    offer_reduces l h = facing_reduces _ ∙ rw (below_true h, moving)

    offer_stack_full : (l : ℕ) → m.room ≤ suc (length rest) → slr_offer m (suc l) c s ≡ stopped full_stack s
    unfolding slr_offer moving
    offer_stack_full l h = facing_reduces _ ∙ rw (below_false h, moving)

  -- the end mark is accepted
  pub run_accepts : (s : Progress) → m.cell s.top endmark ≡ some accept → slr_run_from m [] s ≡ taken s
  unfolding slr_run_from
  run_accepts s e = offer_accepts (m.cells - length s.listed) endmark s e

  -- a token is shifted, or there is no stack cell for its state
  pub run_shifts : (t j : ℕ) (w : List ℕ) (s : Progress) → m.cell s.top (token t) ≡ some (shift j)
      → suc (length s.below) < m.room
      → slr_run_from m (t ∷ w) s ≡ slr_run_from m w (shifted j s)
  unfolding slr_run_from
  run_shifts t j w s e h =
      rw (offer_shifts (m.cells - length s.listed) (token t) s j e ∙ shift_fits j s h, slr_run_from)

  pub run_shift_full : (t j : ℕ) (w : List ℕ) (s : Progress) → m.cell s.top (token t) ≡ some (shift j)
      → m.room ≤ suc (length s.below)
      → slr_run_from m (t ∷ w) s ≡ stopped full_stack s
  unfolding slr_run_from
  run_shift_full t j w s e h =
      rw (offer_shifts (m.cells - length s.listed) (token t) s j e ∙ shift_full j s h, slr_run_from)

  -- what is offered first decides how the run goes on
  run_stops : (w : List ℕ) (s : Progress) (r : SlrReason)
      → slr_offer m (m.cells - length s.listed) (front w) s ≡ stopped r s
      → slr_run_from m w s ≡ stopped r s
  unfolding slr_run_from
  run_stops [] s r e = e
  run_stops (t ∷ w) s r e = rw (e, slr_run_from)

  run_same : (w : List ℕ) (s s' : Progress)
      → slr_offer m (m.cells - length s.listed) (front w) s ≡ slr_offer m (m.cells - length s'.listed) (front w) s'
      → slr_run_from m w s ≡ slr_run_from m w s'
  unfolding slr_run_from
  run_same [] s s' e = e
  run_same (t ∷ w) s s' e = rw (e, slr_run_from)

  -- the table does not allow a step: no action, no state uncovered, or no move
  offer_any : (c : Column) (s : Progress) {o : SlrOffered}
      → ((apply : ℕ → ℕ → List ℕ → SlrOffered) → slr_facing m apply c s ≡ o)
      → (l : ℕ) → slr_offer m l c s ≡ o
  unfolding slr_offer
  offer_any c s h zero = h _
  offer_any c s h (suc l) = h _

  module _ (w : List ℕ) (s : Progress) where
    abbrev left : ℕ
    left = m.cells - length s.listed

    pub run_empty : m.cell s.top (front w) ≡ none → slr_run_from m w s ≡ stopped (wants s.top) s
    unfolding slr_facing
    run_empty e = run_stops w s (wants s.top) (offer_any (front w) s (λ apply. rw (e, slr_facing)) left)

    module _ (p : ℕ) (reduces : m.cell s.top (front w) ≡ some (reduce p)) where
      pub run_bare : drop (m.size p) (s.top ∷ s.below) ≡ [] → slr_run_from m w s ≡ stopped (wants s.top) s
      unfolding acting uncovering
      run_bare e =
          run_stops w s (wants s.top)
          (offer_any (front w) s (λ apply. facing_some apply (front w) s (reduce p) reduces ∙ rw (e, uncovering)) left)

      pub run_no_move : (k : ℕ) (rest : List ℕ)
          → drop (m.size p) (s.top ∷ s.below) ≡ k ∷ rest
          → m.move k (m.left p) ≡ none
          → slr_run_from m w s ≡ stopped (wants s.top) s
      unfolding acting uncovering
      run_no_move k rest e f =
          run_stops w s (wants s.top)
          (offer_any (front w) s (λ apply. facing_some apply (front w) s (reduce p) reduces ∙ rw (e, f, uncovering)) left)

  module _ (w : List ℕ) (s : Progress) (p j k : ℕ) (rest : List ℕ) (reduces : m.cell s.top (front w) ≡ some (reduce p))
      (uncovers : drop (m.size p) (s.top ∷ s.below) ≡ k ∷ rest) (moves : m.move k (m.left p) ≡ some j) where
    -- a reduction is made, or there is no list cell for it, or no stack cell for its move
    pub run_reduces : length s.listed < m.cells
        → suc (length rest) < m.room
        → slr_run_from m w s ≡ slr_run_from m w (reduced p j (k ∷ rest) s)
    unfolding reduced
    run_reduces h room =
        let next : Progress = reduced p j (k ∷ rest) s in
        let left : m.cells - length s.listed ≡ suc (m.cells - length next.listed) =
        omega (arith, length-append s.listed (p ∷ [])) in
        run_same w s next
        (rw left (offer_reduces s (front w) p j k rest reduces uncovers moves (m.cells - length next.listed) room))

    pub run_list_full : m.cells ≤ length s.listed → slr_run_from m w s ≡ stopped full_list s
    run_list_full h =
        let left : m.cells - length s.listed ≡ 0 = omega arith in
        run_stops w s full_list (rw left (offer_list_full s (front w) p j k rest reduces uncovers moves))

    pub run_stack_full : length s.listed < m.cells
        → m.room ≤ suc (length rest)
        → slr_run_from m w s ≡ stopped full_stack s
    run_stack_full h room =
        let left : m.cells - length s.listed ≡ suc (m.cells - suc (length s.listed)) = omega arith in
        run_stops w s full_stack
        (rw left (offer_stack_full s (front w) p j k rest reduces uncovers moves (m.cells - suc (length s.listed)) room))
