-- The machine with its room makes the moves of the textbook's machine, from the start symbol to where it ends.
use mathlib.Core.Path.{◌≡◌, refl, sym, ◌∙◌, ap, subst}
use mathlib.Core.List.{List, [], ◌∷◌, ◌++◌, append_assoc, append-nil}
use mathlib.Core.Option.{Option, some}
use Prim.Native.Nat.{ℕ, ◌+◌, ◌≤◌}
use native.Mathlib.Omega.{arith}
use lib.ListN.{length, take, drop, length-append}
use lib.Seq.{take_at, drop_at}
use Rattle.grammar.specs.declared.Symbol.TheVariants.{Nonterminal}
use Rattle.grammar.specs.Grammar.{Form, spelled, Grammar, Column, Rule, leftmost, LeftmostSteps, stay, next, Cell, only}
use Rattle.grammar.specs.Grammar as textbook
use Rattle.grammar.specs.Machine.{front, Exact, Run}
use Rattle.grammar.specs.Machine as textbook_machine
use Rattle.grammar.proofs.Leftmost.{spelled_append}
use Rattle.machine.specs.Machine.{State, begun, popped, replaced, run_from}
use Rattle.machine.specs.Room.{right_of}
use Rattle.machine.proofs.Walk.{final, Walk, here, match, expand, Walked}
use Rattle.machine.proofs.Agreement.{ran}
use Rattle.machine.proofs.Count.{halt_final}

-- each filled cell holds a production of its row
pub record Rows (g : Grammar) (cell : ℕ → Column → Option ℕ) : Type 0 where
  pub rows : (A : ℕ) (c : Column) (p : ℕ) → cell A c ≡ some p → Rule g p A (right_of g p)

-- the textbook's machine goes from s with w unread to e with z unread
pub record Reads (g : Grammar) (cell : ℕ → Column → Option ℕ) (w : List ℕ) (s : State) (z : List ℕ) (e : State) : Type 0 where
  pub read : List ℕ
  pub new : List ℕ
  pub string : w ≡ read ++ z
  pub lists : e.listed ≡ s.listed ++ new
  pub matches : e.matched ≡ s.matched + length read
  pub run : Run g cell z s.stack read new e.stack

-- it goes from the start symbol to the state s, and has read the tokens that are matched
pub record Reached (g : Grammar) (cell : ℕ → Column → Option ℕ) (w : List ℕ) (s : State) : Type 0 where
  pub inside : s.matched ≤ length w
  pub run : Run g cell (drop s.matched w) (Nonterminal g.start ∷ []) (take s.matched w) s.listed s.stack

-- the right side of a production by its number
pub right_of_lem : {g : Grammar} {p A : ℕ} {β : Form} → Rule g p A β → right_of g p ≡ β
unfolding right_of
right_of_lem r = rw (r.at, right_of)

module _ {g : Grammar} {cell : ℕ → Column → Option ℕ} where
  -- exact cells hold productions of their rows
  pub exact_rows : Exact g cell → Rows g cell
  exact_rows exact = record { rows = λ A c p e. go A c p (exact.cells A c) e }
    where
      go : (A : ℕ) (c : Column) (p : ℕ) {o : Option ℕ} → Cell g A c o → o ≡ some p → Rule g p A (right_of g p)
      go A c p (only {p = q} k same) e =
          let here : q ≡ p = cc in
          rw (← here, right_of_lem k.rule) k.rule
      go A c p (textbook.vacant none_claims) e = let bad : ◌≡◌ {A = ℕ} 0 1 = cc in absurd (omega arith)

  chain_from : {z : List ℕ} (x : List ℕ) {α β : Form} {u ps : List ℕ} → Run g cell z α u ps β → LeftmostSteps g (spelled x ++ α) ps (spelled x ++ (spelled u ++ β))
  chain_from x textbook_machine.here = stay
  chain_from x (textbook_machine.match {t = t} r) = simp (spelled_append, append_assoc) at (chain_from (x ++ (t ∷ [])) r)
  chain_from x (textbook_machine.expand {α = α} c k r) = next (leftmost x α k) (chain_from x r)

  -- the productions that are listed, applied leftmost, give the tokens read with the stack behind them
  pub reached_form : {w : List ℕ} {s : State} → Reached g cell w s → LeftmostSteps g (Nonterminal g.start ∷ []) s.listed (spelled (take s.matched w) ++ s.stack)
  reached_form k = chain_from [] k.run

  reads_reached : {w z : List ℕ} {e : State} → Reads g cell w (begun g.start) z e → Reached g cell w e
  unfolding begun
  reads_reached {w} {z} {e} k =
      let n : length k.read ≡ e.matched = omega arith in
      let before : take e.matched w ≡ k.read = ap (take e.matched) k.string ∙ take_at k.read z e.matched n in
      let behind : drop e.matched w ≡ z = ap (drop e.matched) k.string ∙ drop_at k.read z e.matched n in
      record { inside = omega (arith, length-append k.read z, ap length k.string); run = rw (before, behind, k.lists) k.run }

  module _ (rows : Rows g cell) {room cells : ℕ} where
    -- each move of a walk is a move of the textbook's machine
    pub walk_reads : {z : List ℕ} {e : State} {w : List ℕ} {s : State} → Walk (right_of g) cell room cells z e w s → Reads g cell w s z e
    unfolding popped replaced
    walk_reads {e = e} here = record { read = []; new = []; string = refl; lists = sym (append-nil e.listed); matches = omega arith; run = textbook_machine.here }
    walk_reads {z} {e = e} (match {t = t} f r) =
        let k = walk_reads r in
        record {
          read = t ∷ k.read;
          new = k.new;
          string = ap (λ (x : List ℕ). t ∷ x) k.string;
          lists = k.lists;
          matches = omega arith;
          run = subst (λ (σ : Form). Run g cell z σ (t ∷ k.read) k.new e.stack) (sym f) (textbook_machine.match k.run);
        }
    walk_reads {z} {e = e} (expand {p = p} {A = A} {w = w} {s = s} f c h m r) =
        let k = walk_reads r in
        let at : cell A (front (k.read ++ z)) ≡ some p = rw (← k.string) c in
        record {
          read = k.read;
          new = p ∷ k.new;
          string = k.string;
          lists = k.lists ∙ append_assoc s.listed (p ∷ []) k.new;
          matches = k.matches;
          run = subst (λ (σ : Form). Run g cell z σ k.read (p ∷ k.new) e.stack) (sym f) (textbook_machine.expand at (rows.rows A (front w) p c) k.run);
        }

    pub walk_reached : {z w : List ℕ} {e : State} → Walk (right_of g) cell room cells z e w (begun g.start) → Reached g cell w e
    walk_reached r = reads_reached (walk_reads r)

  -- whatever the outcome, the textbook's machine comes to the state in which it leaves the machine
  pub run_reached : Rows g cell → (room cells : ℕ) (w : List ℕ) → Reached g cell w (final (run_from (right_of g) cell room cells w (begun g.start)))
  unfolding begun
  run_reached rows room cells w =
      let r : Walked (right_of g) cell room cells w (begun g.start) (run_from (right_of g) cell room cells w (begun g.start)) = ran (right_of g) cell room cells w (begun g.start) (omega arith) in
      subst (λ (s : State). Reached g cell w s) (sym (halt_final r.halt)) (walk_reached rows r.walk)
