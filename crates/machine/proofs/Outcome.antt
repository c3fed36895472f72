-- How the run of a derivable string ends: taken, if list and stack have room for its derivation, else at the first production that has none.
use mathlib.Core.Path.{◌≡◌, refl, sym, ◌∙◌, ap, subst}
use mathlib.Core.Logic.{◌⊎◌, inl, inr, ⊎_elim}
use mathlib.Core.List.{List, [], ◌∷◌, ◌++◌, append-nil}
use mathlib.Core.Option.{Option, some}
use Prim.Native.Nat.{ℕ, ◌+◌, ◌≤◌, ◌<◌, max}
use native.Mathlib.Omega.{arith}
use lib.ListN.{length, take, length-append}
use lib.Seq.{take-append_seam}
use Rattle.grammar.specs.declared.Symbol.TheVariants.{Nonterminal}
use Rattle.grammar.specs.Grammar.{Form, Grammar, Column, itself, Complete}
use Rattle.grammar.specs.Machine.{front, Exact}
use Rattle.grammar.proofs.Leftmost.{leftmost_derives}
use Rattle.machine.specs.Machine.{State, Offered, taken, stopped, begun, run_from}
use Rattle.machine.specs.declared.Reason.{Reason}
use Rattle.machine.specs.declared.Reason.TheVariants.{FullList, FullStack}
use Rattle.machine.specs.Room.{right_of, peak}
use Rattle.machine.specs.Stopping.{Before}
use Rattle.machine.proofs.Walk.{Short, short_list, short_stack, wanted_end, wanted_token, wanted_row, Walk, Halt, accepts, left_over, unmatched, vacant, list_full, stack_full, Walked}
use Rattle.machine.proofs.Count.{Counted, begun_counted, walk_counted}
use Rattle.machine.proofs.Relation.{exact_rows, walk_reached, reached_form}
use Rattle.machine.proofs.Verdict.{Derived, begun_ran, ran_derived, syntax_not_derivable}
use Rattle.machine.proofs.Peak.{peak_form, peak_start, leftmost_empty, Expands}
use Rattle.machine.proofs.Follow.{Followed, followed_cell, follow}

-- the state after the whole derivation
unfoldable pub whole : {g : Grammar} {ps w : List ℕ} → Complete g ps w → State
whole {ps = ps} {w = w} d =
    record {
      stack = [];
      listed = ps;
      matched = length w;
      moves = length ps + length w;
      height = peak d;
    }

-- what becomes of the derivation: there is room for all of it, or a production finds the list full, or its right side the stack
pub data Outcome {g : Grammar} (room cells : ℕ) {ps w : List ℕ} (d : Complete g ps w) : Offered → Type 0 where
  enough : length ps ≤ cells → peak d ≤ room → Outcome room cells d (taken (whole d))
  list_short : {p : ℕ} {below : Form} {s : State} → Before g ps w p below s → length s.listed ≡ cells → s.height ≤ room → Outcome room cells d (stopped FullList s)
  stack_short : {p : ℕ} {below : Form} {s : State} → Before g ps w p below s → length s.listed < cells → s.height ≤ room → room < length (right_of g p ++ below) → room < peak d → Outcome room cells d (stopped FullStack s)

-- so the list is a beginning of the derivation, and not all of it
pub before_listed : {g : Grammar} {ps w : List ℕ} {p : ℕ} {below : Form} {s : State} → Before g ps w p below s → s.listed ≡ take (length s.listed) ps
before_listed {p = p} {s = s} at = sym (ap (take (length s.listed)) at.lists ∙ take-append_seam s.listed (p ∷ at.later))

pub before_fewer : {g : Grammar} {ps w : List ℕ} {p : ℕ} {below : Form} {s : State} → Before g ps w p below s → length s.listed < length ps
before_fewer {p = p} {s = s} at = omega (arith, length-append s.listed (p ∷ at.later), ap length at.lists)

module _ {g : Grammar} {room cells : ℕ} {ps w : List ℕ} {d : Complete g ps w} where
  -- with room for the whole derivation the outcome is taken, and only then; without it, a stop for room
  pub enough_taken : {o : Offered} → Outcome room cells d o → length ps ≤ cells → peak d ≤ room → o ≡ taken (whole d)
  enough_taken (enough h m) l k = refl
  enough_taken (list_short at h m) l k = absurd (omega (arith, before_fewer at))
  enough_taken (stack_short at h m n q) l k = absurd (omega arith)

  pub taken_enough : {s : State} → Outcome room cells d (taken s) → (length ps ≤ cells) × (peak d ≤ room)
  taken_enough (enough h m) = (h, m)

  pub short_stopped : {o : Offered} → Outcome room cells d o → (cells < length ps) ⊎ (room < peak d) → (r : Reason) × (s : State) × Short r × (o ≡ stopped r s)
  short_stopped (enough h m) k = absurd (⊎_elim (λ l. omega arith) (λ l. omega arith) k)
  short_stopped (list_short at h m) k = (_, _, short_list, refl)
  short_stopped (stack_short at h m n q) k = (_, _, short_stack, refl)

  pub stopped_short : {r : Reason} {s : State} → Outcome room cells d (stopped r s) → (cells < length ps) ⊎ (room < peak d)
  stopped_short (list_short at h m) = inl (omega (arith, before_fewer at))
  stopped_short (stack_short at h m n q) = inr q

module _ {g : Grammar} {cell : ℕ → Column → Option ℕ} {room cells : ℕ} (exact : Exact g cell) (some_room : 1 ≤ room) {ps w : List ℕ} (d : Complete g ps w) where
  module _ {z : List ℕ} {e : State} (walk : Walk (right_of g) cell room cells z e w (begun g.start)) where
    counted : Counted room cells e
    counted = walk_counted walk (begun_counted room cells g.start)

    followed : Followed g z (begun g.start) e d
    unfolding begun
    followed = follow exact walk [] itself d

    peaks : peak d ≡ max e.height (peak followed.after)
    unfolding begun
    peaks = omega (arith, peak_start d, followed.peaks (omega arith))

    outcome_taken : Derived g w e → Outcome room cells d (taken e)
    unfolding begun whole
    outcome_taken k =
        let (no_more, low) = leftmost_empty followed.after k.emptied in
        let lists : e.listed ≡ ps = sym (followed.lists ∙ ap (λ (x : List ℕ). e.listed ++ x) no_more ∙ append-nil e.listed) in
        let height : e.height ≡ peak d = omega (arith, peaks) in
        let moves : e.moves ≡ length ps + length w = omega (arith, ap length lists, counted.steps, k.matches) in
        let same : whole d ≡ e = λ i. record { stack = sym k.emptied i; listed = sym lists i; matched = sym k.matches i; moves = sym moves i; height = sym height i } in
        subst (λ (s : State). Outcome room cells d (taken s)) same (enough (omega (arith, ap length lists, counted.list_fits)) (omega (arith, counted.height_fits some_room)))

    module _ {A p : ℕ} {α : Form} (f : e.stack ≡ Nonterminal A ∷ α) (c : cell A (front z) ≡ some p) where
      expands : Expands followed.after A α p
      expands = followed_cell exact followed.read followed.after followed.ahead f c

      before : Before g ps w p α e
      unfolding begun
      before =
          record {
            later = expands.later;
            lists = followed.lists ∙ ap (λ (x : List ℕ). e.listed ++ x) expands.lists;
            row = A;
            on_top = f;
            form = reached_form (walk_reached (exact_rows exact) walk);
          }

      higher : length (right_of g p ++ α) ≤ peak d
      higher = omega (arith, peaks, expands.peaks, peak_form expands.after)

    outcome : {o : Offered} → Halt (right_of g) cell room cells (front z) e o → Outcome room cells d o
    outcome (accepts h f) = outcome_taken (ran_derived (exact_rows exact) (record { rest = z; last = e; walk = walk; halt = accepts h f }))
    outcome (left_over h f) = absurd (syntax_not_derivable exact (record { rest = z; last = e; walk = walk; halt = left_over h f }) wanted_end (leftmost_derives d))
    outcome (unmatched h f) = absurd (syntax_not_derivable exact (record { rest = z; last = e; walk = walk; halt = unmatched h f }) wanted_token (leftmost_derives d))
    outcome (vacant h f) = absurd (syntax_not_derivable exact (record { rest = z; last = e; walk = walk; halt = vacant h f }) wanted_row (leftmost_derives d))
    outcome (list_full h f m) = list_short (before h f) (omega (arith, counted.list_fits)) (counted.height_fits some_room)
    outcome (stack_full h f m n) = stack_short (before h f) m (counted.height_fits some_room) n (omega (arith, higher h f))

  -- the run of a derivable string
  pub run_outcome : Outcome room cells d (run_from (right_of g) cell room cells w (begun g.start))
  run_outcome =
      let r : Walked (right_of g) cell room cells w (begun g.start) (run_from (right_of g) cell room cells w (begun g.start)) = begun_ran g.start w refl in
      outcome r.walk r.halt
