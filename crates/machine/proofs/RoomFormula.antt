-- The room that is always enough where no right side is empty: between two matches a bounded number of productions is listed, and each of
-- them adds at most 15 cells to the stack.
use mathlib.Core.Path.{◌≡◌, ap, subst}
use mathlib.Core.List.{List, [], ◌∷◌, ◌++◌}
use mathlib.Core.Option.{Option, some}
use Prim.Native.Nat.{ℕ, suc, ◌+◌, ◌*◌, ◌≤◌}
use native.Mathlib.Nat.{mul-suc}
use native.Mathlib.Omega.{arith}
use lib.ListN.{length, length-append}
use Rattle.grammar.specs.declared.Symbol.{Symbol}
use Rattle.grammar.specs.declared.Symbol.TheVariants.{Nonterminal}
use Rattle.grammar.specs.Filled.{NoEmptyRight, Leads, through}
use Rattle.grammar.specs.Grammar.{Form, Grammar, Column, token, Rule}
use Rattle.grammar.specs.Machine.{front, Exact}
use Rattle.grammar.proofs.Theorems.{end_vacant, leads_all}
use Rattle.machine.specs.Machine.{State, Offered, begun, popped, replaced}
use Rattle.machine.specs.Room.{right_of}
use Rattle.machine.specs.Stopping.{run_of}
use Rattle.machine.proofs.Walk.{Decided, accepted, refused, wanted_end, wanted_token, wanted_row, final, Walk, here, match, expand, Halt, accepts, left_over, unmatched, vacant, list_full, stack_full, Walked}
use Rattle.machine.proofs.Agreement.{ran}
use Rattle.machine.proofs.Count.{begun_counted, walk_counted, halt_final}
use Rattle.machine.proofs.Relation.{right_of_lem, exact_rows}

-- Ahead bound w s k: from the state s with w unread at most k productions are still listed, namely as many as the top symbol leads by and
-- the bound for each later token, or the bound for every token
data Ahead (g : Grammar) (cell : ℕ → Column → Option ℕ) (bound : ℕ) : List ℕ → State → ℕ → Type 0 where
  whatever : {w : List ℕ} {s : State} → Ahead g cell bound w s (bound * length w)
  led : {t k : ℕ} {w : List ℕ} {s : State} {x : Symbol} {α : Form} → s.stack ≡ x ∷ α → Leads g cell t x k → Ahead g cell bound (t ∷ w) s (k + bound * length w)

module _ {g : Grammar} {cell : ℕ → Column → Option ℕ} where
  -- a match leaves the bound for each later token
  ahead_match : {bound t : ℕ} {w : List ℕ} {s : State} {k : ℕ} → Ahead g cell bound (t ∷ w) s k → bound * length w ≤ k
  ahead_match {bound} {w = w} whatever = omega (arith, mul-suc bound (length w))
  ahead_match (led e l) = omega arith

  -- the production in the cell of what leads to the token is one of those, and leads on
  led_on : (bound : ℕ) {t p A k : ℕ} (w : List ℕ) (s : State) (α : Form) → Leads g cell t (Nonterminal A) k → cell A (token t) ≡ some p
      → (j : ℕ) × (suc j ≤ k + bound * length w) × Ahead g cell bound (t ∷ w) (replaced p (right_of g p ++ α) s) j
  unfolding replaced
  led_on bound {p = p} w s α (through {p = q} {k = k} {x = x} {β = β} d r l) c =
      let same : q ≡ p = cc in
      let form : right_of g p ++ α ≡ x ∷ (β ++ α) = rw (← same, right_of_lem r) in
      (k + bound * length w, omega arith, led form l)

  module _ (exact : Exact g cell) (full : NoEmptyRight g) {bound : ℕ} (few : (t : ℕ) (x : Symbol) (k : ℕ) → Leads g cell t x k → k ≤ bound) where
    -- so a production that is used is one of those ahead
    ahead_use : {p A : ℕ} {w : List ℕ} {s : State} {k : ℕ} {α : Form} → Ahead g cell bound w s k → s.stack ≡ Nonterminal A ∷ α → cell A (front w) ≡ some p
        → (j : ℕ) × (suc j ≤ k) × Ahead g cell bound w (replaced p (right_of g p ++ α) s) j
    ahead_use {w = []} whatever e c = absurd (end_vacant exact full c)
    ahead_use {A = A} {w = t ∷ w} {s = s} {α = α} whatever e c =
        let (k, l) = leads_all exact full c in
        let (j, h, a) = led_on bound w s α l c in
        (j, omega (arith, few t (Nonterminal A) k l, mul-suc bound (length w)), a)
    ahead_use {A = A} {s = s} {α = α} (led {t = t} {k = k} {w = w} {x = x} f l) e c =
        let top : x ≡ Nonterminal A = cc in
        led_on bound w s α (subst (λ (y : Symbol). Leads g cell t y k) top l) c

    module _ {room cells : ℕ} where
      -- what a walk lists and what is still ahead at its end is no more than what was ahead
      walk_ahead : {z : List ℕ} {e : State} {w : List ℕ} {s : State} → Walk (right_of g) cell room cells z e w s → {k : ℕ} → Ahead g cell bound w s k
          → (j : ℕ) × Ahead g cell bound z e j × (length e.listed + j ≤ length s.listed + k)
      unfolding popped replaced
      walk_ahead here {k} a = (k, a, omega arith)
      walk_ahead (match {w = w} f r) a =
          let (j, b, h) = walk_ahead r (whatever {w = w}) in
          (j, b, omega (arith, ahead_match a))
      walk_ahead (expand {p = p} {s = s} f c l m r) a =
          let (i, less, b) = ahead_use a f c in
          let (j, d, h) = walk_ahead r b in
          (j, d, omega (arith, length-append s.listed (p ∷ [])))

  module _ (exact : Exact g cell) (short : (p A : ℕ) (β : Form) → Rule g p A β → length β ≤ 16) where
    -- a production puts at most 16 cells in the place of one
    use_adds : {p A : ℕ} {c : Column} {σ α : Form} → σ ≡ Nonterminal A ∷ α → cell A c ≡ some p → length (right_of g p ++ α) ≤ length σ + 15
    use_adds {p} {A} {c} {α = α} e f = omega (arith, ap length e, length-append (right_of g p) α, short p A (right_of g p) ((exact_rows exact).rows A c p f))

    -- the stack is at most 15 cells higher for each production listed
    walk_low : {room cells : ℕ} {z : List ℕ} {e : State} {w : List ℕ} {s : State} → Walk (right_of g) cell room cells z e w s → length s.stack ≤ s.height → s.height ≤ 1 + 15 * length s.listed → e.height ≤ 1 + 15 * length e.listed
    unfolding popped replaced
    walk_low here h k = k
    walk_low (match f r) h k = walk_low r (omega (arith, ap length f)) k
    walk_low (expand {p = p} {s = s} f c l m r) h k = walk_low r (omega arith) (omega (arith, use_adds f c, length-append s.listed (p ∷ [])))

  module _ (exact : Exact g cell) (full : NoEmptyRight g) {bound : ℕ} (few : (t : ℕ) (x : Symbol) (k : ℕ) → Leads g cell t x k → k ≤ bound)
      (room cells : ℕ) (w : List ℕ) where
    ended : Walked (right_of g) cell room cells w (begun g.start) (run_of g cell room cells w)
    unfolding begun
    ended = ran (right_of g) cell room cells w (begun g.start) (omega arith)

    -- no more is listed than the bound for each token
    pub lists_few : length (final (run_of g cell room cells w)).listed ≤ bound * length w
    unfolding begun
    lists_few =
        let (j, a, h) = walk_ahead exact full few ended.walk whatever in
        omega (arith, ap (λ (s : State). length s.listed) (halt_final ended.halt))

    -- where the cell is filled, its production is not more than that either
    one_more : {p A : ℕ} {α : Form} → ended.last.stack ≡ Nonterminal A ∷ α → cell A (front ended.rest) ≡ some p → suc (length ended.last.listed) ≤ bound * length w
    unfolding begun
    one_more e c =
        let (j, a, m) = walk_ahead exact full few ended.walk whatever in
        let (i, l, b) = ahead_use exact full few a e c in
        omega arith

    module _ (short : (p A : ℕ) (β : Form) → Rule g p A β → length β ≤ 16) where
      last_low : ended.last.height ≤ 1 + 15 * length ended.last.listed
      unfolding begun
      last_low = walk_low exact short ended.walk (omega arith) (omega arith)

      -- and the stack holds no more than 15 cells for each of them beside the first
      pub stays_low : (final (run_of g cell room cells w)).height ≤ 1 + 15 * (bound * length w)
      stays_low =
          let listed = ap (λ (s : State). length s.listed) (halt_final ended.halt) in
          let height = ap (λ (s : State). s.height) (halt_final ended.halt) in
          omega (arith, lists_few, last_low)

      one_higher : {p A : ℕ} {α : Form} → ended.last.stack ≡ Nonterminal A ∷ α → cell A (front ended.rest) ≡ some p → length (right_of g p ++ α) ≤ 1 + 15 * (bound * length w)
      one_higher e c =
          let counts = walk_counted ended.walk (begun_counted room cells g.start) in
          omega (arith, one_more e c, use_adds exact short e c, counts.stack_within, last_low)

      -- so with that room the string is decided
      pub always_enough : bound * length w ≤ cells → 1 + 15 * (bound * length w) ≤ room → Decided (run_of g cell room cells w)
      always_enough h k = go ended.halt
        where
          go : {o : Offered} → Halt (right_of g) cell room cells (front ended.rest) ended.last o → Decided o
          go (accepts e f) = accepted
          go (left_over e f) = refused wanted_end
          go (unmatched e f) = refused wanted_token
          go (vacant e f) = refused wanted_row
          go (list_full e f m) = absurd (omega (arith, one_more e f))
          go (stack_full e f m n) = absurd (omega (arith, one_higher e f))
