-- With room enough the machine decides every string, and more room than that changes nothing.
use mathlib.Core.Path.{◌≡◌, refl, sym, ap, subst}
use mathlib.Core.List.{List, [], ◌∷◌, ◌++◌, append-nil}
use mathlib.Core.Option.{Option, some}
use Prim.Native.Nat.{ℕ, suc, ◌+◌, ◌≤◌, max}
use native.Mathlib.Omega.{arith}
use lib.ListN.{length, length-append}
use Rattle.grammar.specs.declared.Symbol.TheVariants.{Nonterminal}
use Rattle.grammar.specs.Grammar.{Form, Grammar, Column, Rule}
use Rattle.grammar.specs.Machine.{front, Run, Stopped, Halted}
use Rattle.grammar.specs.Machine as textbook
use Rattle.machine.specs.Machine.{State, Offered, begun, popped, replaced, run_from}
use Rattle.machine.specs.Room.{right_of}
use Rattle.machine.proofs.Walk.{wanted_end, wanted_token, wanted_row, Decided, accepted, refused, Walk, here, match, expand, Halt, accepts, left_over, unmatched, vacant, list_full, stack_full, Walked}
use Rattle.machine.proofs.Agreement.{walk_runs, ran}
use Rattle.machine.proofs.Relation.{right_of_lem}

module _ {right : ℕ → Form} {cell : ℕ → Column → Option ℕ} (room cells : ℕ) {less fewer : ℕ} (h : less ≤ room) (k : fewer ≤ cells) where
  walk_more : {z : List ℕ} {e : State} {w : List ℕ} {s : State} → Walk right cell less fewer z e w s → Walk right cell room cells z e w s
  walk_more here = here
  walk_more (match f r) = match f (walk_more r)
  walk_more (expand {s = s} f c l m r) = expand {s = s} f c (omega arith) (omega arith) (walk_more r)

  halt_more : {c : Column} {s : State} {o : Offered} → Halt right cell less fewer c s o → Decided o → Halt right cell room cells c s o
  halt_more (accepts e f) q = accepts e f
  halt_more (left_over e f) q = left_over e f
  halt_more (unmatched e f) q = unmatched e f
  halt_more (vacant e f) q = vacant e f
  halt_more (list_full e f m) (refused q) = elim q [ ]
  halt_more (stack_full e f m n) (refused q) = elim q [ ]

-- more room does not change a string's decision
pub run_more : (right : ℕ → Form) (cell : ℕ → Column → Option ℕ) (less fewer room cells : ℕ) → less ≤ room → fewer ≤ cells → (w : List ℕ) (s : State) → length s.listed ≤ fewer → Decided (run_from right cell less fewer w s) → run_from right cell room cells w s ≡ run_from right cell less fewer w s
run_more right cell less fewer room cells h k w s l q =
    let r : Walked right cell less fewer w s (run_from right cell less fewer w s) = ran right cell less fewer w s l in
    walk_runs (walk_more room cells h k r.walk) (omega arith) (halt_more room cells h k r.halt q)

-- so many list and stack cells are enough for what the textbook's machine does from α to β
record Suffices (g : Grammar) (cell : ℕ → Column → Option ℕ) (z : List ℕ) (α : Form) (u : List ℕ) (β : Form) : Type 0 where
  list_cells : ℕ
  stack_cells : ℕ
  walks : (room cells : ℕ) (s : State) → s.stack ≡ α → length s.listed + list_cells ≤ cells → stack_cells ≤ room → (e : State) × Walk (right_of g) cell room cells z e (u ++ z) s × (e.stack ≡ β)

-- the string is decided wherever there are so many list and stack cells
pub record RoomEnough (g : Grammar) (cell : ℕ → Column → Option ℕ) (w : List ℕ) : Type 0 where
  pub list_cells : ℕ
  pub stack_cells : ℕ
  pub decided : (room cells : ℕ) → list_cells ≤ cells → stack_cells ≤ room → Decided (run_from (right_of g) cell room cells w (begun g.start))

module _ {g : Grammar} {cell : ℕ → Column → Option ℕ} where
  suffices_use : {z : List ℕ} (α : Form) {β γ : Form} {u : List ℕ} {p A : ℕ} → cell A (front (u ++ z)) ≡ some p → Rule g p A γ → Suffices g cell z (γ ++ α) u β → Suffices g cell z (Nonterminal A ∷ α) u β
  unfolding replaced
  suffices_use {z} α {β} {γ} {u} {p} {A} c r n = record { list_cells = suc n.list_cells; stack_cells = max n.stack_cells (length (γ ++ α)); walks = walks }
    where
      walks : (room cells : ℕ) (s : State) → s.stack ≡ Nonterminal A ∷ α → length s.listed + suc n.list_cells ≤ cells → max n.stack_cells (length (γ ++ α)) ≤ room → (e : State) × Walk (right_of g) cell room cells z e (u ++ z) s × (e.stack ≡ β)
      walks room cells s f h m =
          let form : right_of g p ++ α ≡ γ ++ α = ap (λ (x : Form). x ++ α) (right_of_lem r) in
          let (e, k, q) = n.walks room cells (replaced p (right_of g p ++ α) s) form (omega (arith, length-append s.listed (p ∷ []))) (omega arith) in
          (e, expand {s = s} f c (omega arith) (omega (arith, ap length form)) k, q)

  run_suffices : {z : List ℕ} {α β : Form} {u ps : List ℕ} → Run g cell z α u ps β → Suffices g cell z α u β
  unfolding popped
  run_suffices textbook.here = record { list_cells = 0; stack_cells = 0; walks = λ room cells s f h m. (s, here, f) }
  run_suffices (textbook.match {α = α} r) =
      let n = run_suffices r in
      record { list_cells = n.list_cells; stack_cells = n.stack_cells; walks = λ room cells s f h m. let (e, k, q) = n.walks room cells (popped α s) refl h m in (e, match f k, q) }
  run_suffices (textbook.expand {α = α} c r k) = suffices_use α c r (run_suffices k)

  stopped_halts : {room cells : ℕ} {z : List ℕ} {β : Form} → Stopped g cell β z → (e : State) → e.stack ≡ β → (o : Offered) × Halt (right_of g) cell room cells (front z) e o × Decided o
  stopped_halts textbook.left_over e f = (_, left_over f refl, refused wanted_end)
  stopped_halts (textbook.unmatched n) e f = (_, unmatched f n, refused wanted_token)
  stopped_halts (textbook.vacant c) e f = (_, vacant f c, refused wanted_row)

  decided_by : {w z u : List ℕ} {β : Form} → w ≡ u ++ z → Suffices g cell z (Nonterminal g.start ∷ []) u β → ((room cells : ℕ) (e : State) → e.stack ≡ β → (o : Offered) × Halt (right_of g) cell room cells (front z) e o × Decided o) → RoomEnough g cell w
  unfolding begun
  decided_by {w} f n halts_at = record { list_cells = n.list_cells; stack_cells = n.stack_cells; decided = decided }
    where
      decided : (room cells : ℕ) → n.list_cells ≤ cells → n.stack_cells ≤ room → Decided (run_from (right_of g) cell room cells w (begun g.start))
      decided room cells h m =
          let (e, k, q) = n.walks room cells (begun g.start) refl (omega arith) m in
          let (o, halt, d) = halts_at room cells e q in
          rw f (subst (λ (x : Offered). Decided x) (sym (walk_runs k (omega arith) halt)) d)

  -- where the textbook's machine halts, some room is enough
  pub halted_decides : {w : List ℕ} → Halted g cell (Nonterminal g.start ∷ []) w → RoomEnough g cell w
  halted_decides {w} (textbook.accepted r) = decided_by (sym (append-nil w)) (run_suffices r) (λ room cells e f. (_, accepts f refl, accepted))
  halted_decides (textbook.stopped u z f r k) = decided_by f (run_suffices r) (λ room cells e q. stopped_halts k e q)
