-- What can come where a run stops by syntax: it is read off the stack of the last offer, or off the productions listed since and the stack
-- at the stop.
use mathlib.Core.Path.{◌≡◌, refl, sym, ◌∙◌, ap, subst}
use mathlib.Core.Logic.{◌↔◌, ◌⊎◌}
use mathlib.Core.List.{List, [], ◌∷◌, ◌++◌}
use mathlib.Core.Option.{Option}
use Prim.Native.Nat.{ℕ, ◌<◌}
use native.Mathlib.Omega.{arith}
use lib.ListN.{length, take, drop, length-append}
use lib.Seq.{take_at, drop_at}
use Rattle.grammar.specs.declared.Symbol.TheVariants.{Nonterminal}
use Rattle.grammar.specs.Grammar.{Grammar, Column, column, First, WellFormed, Useful}
use Rattle.grammar.specs.Machine.{front, Exact, Run, Stopped, Continues}
use Rattle.grammar.specs.Next.{merged, ConsumesAll, Seen}
use Rattle.grammar.proofs.Theorems.{next_exact, next_at_stop, next_some, stopped_not_next}
use Rattle.machine.specs.Machine.{State, Offered, stopped, begun}
use Rattle.machine.specs.declared.Reason.{Reason}
use Rattle.machine.specs.Stopping.{Syntax, run_of}
use Rattle.machine.specs.Last.{last_of}
use Rattle.machine.proofs.Relation.{Rows, exact_rows, walk_reads}
use Rattle.machine.proofs.Verdict.{halt_stopped, begun_ran, syntax_place}
use Rattle.machine.proofs.LastOffer.{OneOffer, by_halt, LastOffer, last_offer}

-- from the last offer to a syntax stop no token is read, and the productions used are those listed since
pub record Since (g : Grammar) (cell : ℕ → Column → Option ℕ) (rest : List ℕ) (last s : State) : Type 0 where
  pub new : List ℕ
  pub lists : s.listed ≡ last.listed ++ new
  pub matches : s.matched ≡ last.matched
  pub run : Run g cell rest last.stack [] new s.stack
  pub stop : Stopped g cell s.stack rest

nothing_read : (u z : List ℕ) → z ≡ u ++ z → u ≡ []
nothing_read [] z e = refl
nothing_read (t ∷ u) z e = absurd (omega (arith, ap length e, length-append u z))

module _ {g : Grammar} {cell : ℕ → Column → Option ℕ} (rows : Rows g cell) {room cells : ℕ} where
  stop_since : {rest : List ℕ} {last s : State} {r : Reason} → OneOffer g cell room cells rest last (stopped r s) → Syntax r → Since g cell rest last s
  stop_since {rest} {last} {s} (by_halt {e = e} walk halt) syntax =
      let (stop, same) = halt_stopped rest halt syntax in
      let k = walk_reads rows walk in
      let none = nothing_read k.read rest k.string in
      let run : Run g cell rest last.stack [] k.new e.stack = subst (λ (u : List ℕ). Run g cell rest last.stack u k.new e.stack) none k.run in
      record {
        new = k.new;
        lists = ap (λ (x : State). x.listed) (sym same) ∙ k.lists;
        matches = omega (arith, ap (λ (x : State). x.matched) same, k.matches, ap length none);
        run = subst (λ (x : State). Run g cell rest last.stack [] k.new x.stack) same run;
        stop = stop;
      }

module _ {g : Grammar} {cell : ℕ → Column → Option ℕ} (exact : Exact g cell) (well : WellFormed g) (useful : (A : ℕ) → A < g.nonterminals → Useful g A)
    (room cells : ℕ) (w : List ℕ) {r : Reason} {s : State} (ends : run_of g cell room cells w ≡ stopped r s) (syntax : Syntax r) where
  pub last : LastOffer g cell room cells w (begun g.start) (last_of g cell room cells w) (stopped r s)
  unfolding begun
  last =
      subst (λ (o : Offered). LastOffer g cell room cells w (begun g.start) (last_of g cell room cells w) o) ends
      (last_offer (exact_rows exact) room cells w (begun g.start) (omega arith))

  pub since : Since g cell last.rest (last_of g cell room cells w) s
  since = stop_since (exact_rows exact) last.answers syntax

  -- what is matched at the stop is what was matched before the last offer
  matched_is : take s.matched w ≡ last.read
  unfolding begun
  matched_is =
      let n : length last.read ≡ s.matched = omega (arith, since.matches, last.matches) in
      ap (take s.matched) last.string ∙ take_at last.read last.rest s.matched n

  pub takes : ConsumesAll g cell (Nonterminal g.start ∷ []) last.read last.new (last_of g cell room cells w).stack
  unfolding begun
  takes = last.takes

  -- what can come after the tokens matched is FIRST of the last offer's stack, with the end mark if that vanishes
  pub next_of_last : (c : Column) → First g (last_of g cell room cells w).stack (merged c) ↔ Continues g (take s.matched w) (column c)
  next_of_last c = rw matched_is (next_exact exact well useful takes c)

  since_is : drop (length (last_of g cell room cells w).listed) s.listed ≡ since.new
  since_is =
      ap (drop (length (last_of g cell room cells w).listed)) since.lists
      ∙ drop_at (last_of g cell room cells w).listed since.new (length (last_of g cell room cells w).listed) refl

  -- the same, off the productions listed since and the stack at the stop
  pub next_of_stop : (c : Column) → Continues g (take s.matched w) (column c) ↔ (Seen g (drop (length (last_of g cell room cells w).listed) s.listed) c ⊎ First g s.stack (merged c))
  next_of_stop c = rw (matched_is, since_is) (next_at_stop exact well useful takes since.run since.stop c)

  -- something can come, since the tokens matched begin a derivable string
  pub next_there : (c : Column) × Continues g (take s.matched w) (column c)
  next_there = next_some (syntax_place exact (begun_ran g.start w ends) syntax well useful).begun

  -- but not the column on which the run stops
  pub next_not_here : ¬ Continues g (take s.matched w) (column (front (drop s.matched w)))
  unfolding begun
  next_not_here =
      let ran = begun_ran g.start w ends in
      let (stop, same) = halt_stopped ran.rest ran.halt syntax in
      let k = walk_reads (exact_rows exact) ran.walk in
      let n : length k.read ≡ s.matched = omega (arith, k.matches, ap (λ (x : State). x.matched) same) in
      let before : take s.matched w ≡ k.read = ap (take s.matched) k.string ∙ take_at k.read ran.rest s.matched n in
      let behind : drop s.matched w ≡ ran.rest = ap (drop s.matched) k.string ∙ drop_at k.read ran.rest s.matched n in
      let there : Stopped g cell ran.last.stack ran.rest = subst (λ (x : State). Stopped g cell x.stack ran.rest) (sym same) stop in
      rw (before, behind) (stopped_not_next exact k.run there)
