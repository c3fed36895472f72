-- The room that a string needs, derivable or not: what the machine lists on it, and how high its stack gets, when nothing is too short.
use mathlib.Core.Path.{◌≡◌, sym, ◌∙◌, ap, subst}
use mathlib.Core.List.{List, [], ◌∷◌}
use mathlib.Core.Option.{Option}
use Prim.Native.Nat.{ℕ, ◌+◌, ◌≤◌}
use native.Mathlib.Omega.{arith}
use lib.ListN.{length, length-append}
use Rattle.grammar.specs.Grammar.{Form, Grammar, Column}
use Rattle.grammar.specs.Machine.{Exact}
use Rattle.machine.specs.Machine.{State, Offered, begun, popped, replaced, run_from}
use Rattle.machine.specs.Room.{right_of}
use Rattle.machine.specs.Stopping.{RoomNeeded}
use Rattle.machine.proofs.Walk.{Decided, refused, final, Walk, here, match, expand, Halt, accepts, left_over, unmatched, vacant, list_full, stack_full, Walked}
use Rattle.machine.proofs.Agreement.{walk_runs, ran}
use Rattle.machine.proofs.Count.{Counted, walk_grown, halt_final}
use Rattle.machine.proofs.RunTheorems.{run_of, run_more, run_steps, run_halts}

module _ {right : ℕ → Form} {cell : ℕ → Column → Option ℕ} {much many : ℕ} where
  walk_higher : {z : List ℕ} {e : State} {w : List ℕ} {s : State} → Walk right cell much many z e w s → s.height ≤ e.height
  unfolding popped replaced
  walk_higher here = omega arith
  walk_higher (match f r) = walk_higher r
  walk_higher (expand f c l m r) = omega (arith, walk_higher r)

  walk_longer : {z : List ℕ} {e : State} {w : List ℕ} {s : State} → Walk right cell much many z e w s → length s.listed ≤ length e.listed
  walk_longer {s = s} r = let (k, h, g) = walk_grown r in omega (arith, ap length g.lists, length-append s.listed g.new)

  module _ {room cells : ℕ} where
    -- a walk needs as many list cells as it lists, and as much stack as it gets high
    pub walk_within : {z : List ℕ} {e : State} {w : List ℕ} {s : State} → length e.listed ≤ cells → e.height ≤ room → Walk right cell much many z e w s → Walk right cell room cells z e w s
    unfolding popped replaced
    walk_within h k here = here
    walk_within h k (match f r) = match f (walk_within h k r)
    walk_within h k (expand {p = p} {s = s} f c l m r) = expand {s = s} f c (omega (arith, walk_longer r, length-append s.listed (p ∷ []))) (omega (arith, walk_higher r)) (walk_within h k r)

    decided_halts : {c : Column} {s : State} {o : Offered} → Halt right cell much many c s o → Decided o → Halt right cell room cells c s o
    decided_halts (accepts e f) q = accepts e f
    decided_halts (left_over e f) q = left_over e f
    decided_halts (unmatched e f) q = unmatched e f
    decided_halts (vacant e f) q = vacant e f
    decided_halts (list_full e f m) (refused q) = elim q [ ]
    decided_halts (stack_full e f m n) (refused q) = elim q [ ]

-- what a decided run lists and how high its stack gets is room enough for it
run_within : (right : ℕ → Form) (cell : ℕ → Column → Option ℕ) (much many room cells start : ℕ) (w : List ℕ) → Decided (run_from right cell much many w (begun start)) → length (final (run_from right cell much many w (begun start))).listed ≤ cells → (final (run_from right cell much many w (begun start))).height ≤ room → run_from right cell room cells w (begun start) ≡ run_from right cell much many w (begun start)
unfolding begun
run_within right cell much many room cells start w q h k =
    let r : Walked right cell much many w (begun start) (run_from right cell much many w (begun start)) = ran right cell much many w (begun start) (omega arith) in
    let listed = ap (λ (s : State). length s.listed) (halt_final r.halt) in
    let height = ap (λ (s : State). s.height) (halt_final r.halt) in
    walk_runs (walk_within (omega arith) (omega arith) r.walk) (omega arith) (decided_halts r.halt q)

pub run_tall : (right : ℕ → Form) (cell : ℕ → Column → Option ℕ) (room cells start : ℕ) (w : List ℕ) → 1 ≤ (final (run_from right cell room cells w (begun start))).height
unfolding begun
run_tall right cell room cells start w =
    let r : Walked right cell room cells w (begun start) (run_from right cell room cells w (begun start)) = ran right cell room cells w (begun start) (omega arith) in
    omega (arith, walk_higher r.walk, ap (λ (s : State). s.height) (halt_final r.halt))

-- every string has such an end
pub room_needed : {g : Grammar} {cell : ℕ → Column → Option ℕ} → Exact g cell → (w : List ℕ) → RoomNeeded g cell w
unfolding begun
room_needed {g} {cell} exact w = record { outcome = outcome; decided = decided; tall = run_tall (right_of g) cell much many g.start w; reached = reached; needed = needed }
  where
    much : ℕ
    much = (run_halts exact w).stack_cells

    many : ℕ
    many = (run_halts exact w).list_cells

    outcome : Offered
    outcome = run_of g cell much many w

    decided : Decided outcome
    decided = (run_halts exact w).decided much many (omega arith) (omega arith)

    reached : (room cells : ℕ) → (final outcome).height ≤ room → length (final outcome).listed ≤ cells → run_of g cell room cells w ≡ outcome
    reached room cells h k = run_within (right_of g) cell much many room cells g.start w decided k h

    needed : (room cells : ℕ) → 1 ≤ room → Decided (run_of g cell room cells w) → ((final outcome).height ≤ room) × (length (final outcome).listed ≤ cells)
    needed room cells h q =
        let one : run_of g cell (room + much) (cells + many) w ≡ run_of g cell room cells w = run_more (right_of g) cell room cells (room + much) (cells + many) (omega arith) (omega arith) w (begun g.start) (omega arith) q in
        let other : run_of g cell (room + much) (cells + many) w ≡ outcome = run_more (right_of g) cell much many (room + much) (cells + many) (omega arith) (omega arith) w (begun g.start) (omega arith) decided in
        let counts : Counted room cells (final outcome) = subst (λ (o : Offered). Counted room cells (final o)) (sym one ∙ other) (run_steps (right_of g) cell room cells g.start w) in
        (counts.height_fits h, counts.list_fits)
