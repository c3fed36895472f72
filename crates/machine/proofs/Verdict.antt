-- What an outcome says of the string: taken, its list derives it; a syntax stop, it is not derivable, and the place is the longest beginning.
use mathlib.Core.Path.{◌≡◌, refl, sym, ◌∙◌, ap, subst}
use mathlib.Core.List.{List, [], ◌∷◌, ◌++◌, append-nil}
use mathlib.Core.Option.{Option}
use Prim.Native.Nat.{ℕ, ◌<◌}
use native.Mathlib.Omega.{arith}
use lib.ListN.{length}
use Rattle.grammar.specs.declared.Symbol.TheVariants.{Nonterminal}
use Rattle.grammar.specs.Grammar.{Form, Grammar, Column, endmark, Derivable, Complete, WellFormed, Useful}
use Rattle.grammar.specs.Machine.{front, Exact, Run, Stopped, Longest}
use Rattle.grammar.specs.Machine as textbook
use Rattle.grammar.proofs.Machine.{run_leftmost}
use Rattle.grammar.proofs.Theorems.{stopped_not_derivable, viable_prefix}
use Rattle.machine.specs.Machine.{State, Offered, taken, stopped, begun, run_from}
use Rattle.machine.specs.declared.Reason.{Reason}
use Rattle.machine.specs.Room.{right_of}
use Rattle.machine.proofs.Walk.{Syntax, Halt, accepts, left_over, unmatched, vacant, list_full, stack_full, Walk, Walked}
use Rattle.machine.proofs.Agreement.{ran}
use Rattle.machine.proofs.Relation.{Rows, exact_rows, Reads, walk_reads}

front_end : (z : List ℕ) → front z ≡ endmark → z ≡ []
front_end [] e = refl
front_end (t ∷ z) e = let bad : ◌≡◌ {A = ℕ} 0 1 = cc in absurd (omega arith)

-- the string is read to its end and derived by the list
pub record Derived (g : Grammar) (w : List ℕ) (s : State) : Type 0 where
  pub complete : Complete g s.listed w
  pub emptied : s.stack ≡ []
  pub matches : s.matched ≡ length w

module _ {right : ℕ → Form} {cell : ℕ → Column → Option ℕ} {room cells : ℕ} where
  -- the outcome is taken on an empty stack, at the end mark
  pub halt_taken : {c : Column} {e s : State} → Halt right cell room cells c e (taken s) → (c ≡ endmark) × (s.stack ≡ []) × (e ≡ s)
  halt_taken (accepts h f) = (f, h, refl)

  -- an outcome of a run from the start, with its walk
  pub begun_ran : (start : ℕ) (w : List ℕ) {o : Offered} → run_from right cell room cells w (begun start) ≡ o → Walked right cell room cells w (begun start) o
  unfolding begun
  begun_ran start w f = subst (λ (o : Offered). Walked right cell room cells w (begun start) o) f (ran right cell room cells w (begun start) (omega arith))

module _ {g : Grammar} {cell : ℕ → Column → Option ℕ} where
  reads_derived : {w z : List ℕ} {s : State} → Reads g cell w (begun g.start) z s → z ≡ [] → s.stack ≡ [] → Derived g w s
  unfolding begun
  reads_derived {w} {z} {s} k f h =
      let whole : k.read ≡ w = sym (k.string ∙ ap (λ (x : List ℕ). k.read ++ x) f ∙ append-nil k.read) in
      let run : Run g cell z (Nonterminal g.start ∷ []) k.read k.new [] = subst (λ (σ : Form). Run g cell z (Nonterminal g.start ∷ []) k.read k.new σ) h k.run in
      record { complete = rw (k.lists, ← whole) (run_leftmost run); emptied = h; matches = omega (arith, ap length whole) }

  module _ (exact : Exact g cell) {w z : List ℕ} {s : State} (k : Reads g cell w (begun g.start) z s) (stop : Stopped g cell s.stack z) where
    reads_not_derivable : ¬ Derivable g w
    unfolding begun
    reads_not_derivable d = stopped_not_derivable exact k.run stop (rw k.string at d)

    reads_place : WellFormed g → ((A : ℕ) → A < g.nonterminals → Useful g A) → Longest g w s.matched
    unfolding begun
    reads_place well useful =
        let n : s.matched ≡ length k.read = omega arith in
        rw (k.string, n) (viable_prefix exact k.run stop well useful)

  module _ {room cells : ℕ} where
    -- a syntax stop is a stop of the textbook's machine
    pub halt_stopped : (z : List ℕ) {r : Reason} {e s : State} → Halt (right_of g) cell room cells (front z) e (stopped r s) → Syntax r → Stopped g cell s.stack z × (e ≡ s)
    halt_stopped [] (left_over h f) k = let bad : ◌≡◌ {A = ℕ} 0 1 = cc in absurd (omega arith)
    halt_stopped (t ∷ z) (left_over h f) k = (rw h textbook.left_over, refl)
    halt_stopped z (unmatched h f) k = (rw h (textbook.unmatched f), refl)
    halt_stopped z (vacant h f) k = (rw h (textbook.vacant f), refl)
    halt_stopped z (list_full h f m) k = elim k [ ]
    halt_stopped z (stack_full h f m n) k = elim k [ ]

    reads_as : Rows g cell → {w z : List ℕ} {e s f : State} → Walk (right_of g) cell room cells z e w s → e ≡ f → Reads g cell w s z f
    reads_as rows {w} {z} {s = s} r e = subst (λ (x : State). Reads g cell w s z x) e (walk_reads rows r)

    -- what is taken is derived by its list
    pub ran_derived : Rows g cell → {w : List ℕ} {s : State} → Walked (right_of g) cell room cells w (begun g.start) (taken s) → Derived g w s
    ran_derived rows r = let (f, h, e) = halt_taken r.halt in reads_derived (reads_as rows r.walk e) (front_end r.rest f) h

    module _ (exact : Exact g cell) {w : List ℕ} {r : Reason} {s : State} (stop : Walked (right_of g) cell room cells w (begun g.start) (stopped r s)) (syntax : Syntax r) where
      -- what stops by syntax is not derivable
      pub syntax_not_derivable : ¬ Derivable g w
      syntax_not_derivable =
          let (at, e) = halt_stopped stop.rest stop.halt syntax in
          reads_not_derivable exact (reads_as (exact_rows exact) stop.walk e) at

      -- and what is matched then is the longest beginning that some derivable string shares
      pub syntax_place : WellFormed g → ((A : ℕ) → A < g.nonterminals → Useful g A) → Longest g w s.matched
      syntax_place =
          let (at, e) = halt_stopped stop.rest stop.halt syntax in
          reads_place exact (reads_as (exact_rows exact) stop.walk e) at
