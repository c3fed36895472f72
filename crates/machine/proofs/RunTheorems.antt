-- What a run promises, one page: each theorem under the sentence that it proves.
use mathlib.Core.Path.{◌≡◌, refl, subst}
use mathlib.Core.Logic.{◌↔◌, ◌⊎◌}
use mathlib.Core.List.{List}
use mathlib.Core.Option.{Option}
use Prim.Native.Nat.{ℕ, ◌+◌, ◌*◌, ◌≤◌, ◌<◌}
use native.Mathlib.Omega.{arith}
use lib.ListN.{length, take, drop}
use Rattle.grammar.specs.Filled.{NoEmptyRight}
use Rattle.grammar.specs.Grammar.{Form, Grammar, Column, column, Rule, Derivable, First, Leftmost, Complete}
use Rattle.grammar.specs.Grammar.{WellFormed, Useful}
use Rattle.grammar.specs.Machine.{front, Exact, Longest, Continues}
use Rattle.grammar.specs.Plain.{Plain}
use Rattle.grammar.specs.Next.{merged, Seen}
use Rattle.grammar.proofs.Theorems.{leftmost_unique, exact_no_conflict, halts, leads_few}
use Rattle.machine.specs.Machine.{State, Offered, taken, stopped, begun, run_from}
use Rattle.machine.specs.declared.Reason.{Reason}
use Rattle.machine.specs.Last.{last_of}
use Rattle.machine.specs.Room.{peak, list_cells, stack_cells}
use Rattle.machine.proofs.Walk.{Syntax, Short, Decided, final}
use Rattle.machine.proofs.Count.{Counted, counted_stack, begun_counted, run_counted, run_grown}
use Rattle.machine.proofs.Relation.{Rows, Reached, run_reached}
use Rattle.machine.proofs.Verdict.{Derived, begun_ran, ran_derived, syntax_not_derivable, syntax_place}
use Rattle.machine.proofs.Peak.{peak_from}
use Rattle.machine.proofs.Outcome.{whole, Outcome, run_outcome, enough_taken, taken_enough, short_stopped, stopped_short}
use Rattle.machine.proofs.Enough.{RoomEnough, halted_decides}
use Rattle.machine.proofs.NextTokens.{next_of_last, next_of_stop, next_there, next_not_here}
use Rattle.machine.proofs.PlainHint.{Wanted, plain_lists_no_more, plain_next}
use Rattle.machine.proofs.PlainRoom.{plain_lists_few, plain_stays_low, plain_always_enough}
-- the equations of an offer and of a run, case by case
pub use Rattle.machine.specs.Stopping.{run_of}
pub use Rattle.machine.proofs.Offer.{offer_match, offer_use, offer_halt, run_taken, run_stopped, run_match}
pub use Rattle.machine.proofs.Offer.{run_use, run_halt}
-- an offer, and a run from any state, keep the counts right and grow the list at its end
pub use Rattle.machine.proofs.Count.{offer_counted, offer_grown, run_counted, run_grown}
-- exact cells hold productions of their rows
pub use Rattle.machine.proofs.Relation.{exact_rows}
-- a complete derivation begins with one symbol on the stack
pub use Rattle.machine.proofs.Peak.{peak_start}
-- where a run stops for room, its list is a beginning of the derivation and not all of it
pub use Rattle.machine.proofs.Outcome.{before_listed, before_fewer}
-- the room that is always enough, over any bound on the productions by which a symbol leads to a token
pub use Rattle.machine.proofs.RoomFormula.{lists_few, stays_low, always_enough}
-- the last offer of a run: what is matched before it is taken token by token, and what it answers is the outcome
pub use Rattle.machine.proofs.LastOffer.{last_offer}
-- more room does not change what is decided
pub use Rattle.machine.proofs.Enough.{run_more}

module _ (right : ℕ → Form) (cell : ℕ → Column → Option ℕ) (room cells start : ℕ) (w : List ℕ) where
  -- whatever the table, the moves are the productions listed and the tokens matched, and the list and the greatest
  -- height stay within their room
  pub run_steps : Counted room cells (final (run_from right cell room cells w (begun start)))
  run_steps = run_counted right cell room cells w (begun start) (begun_counted room cells start)

  -- the stack too
  pub run_stack_fits : 1 ≤ room → length (final (run_from right cell room cells w (begun start))).stack ≤ room
  run_stack_fits = counted_stack run_steps

  -- no more tokens are matched than there are
  pub run_inside : (final (run_from right cell room cells w (begun start))).matched ≤ length w
  unfolding begun
  run_inside = let (k, h, g) = run_grown right cell room cells w (begun start) (omega arith) in omega arith

-- two derivations of one list reach one height
pub peak_same : {g : Grammar} {α : Form} {ps w : List ℕ} (d e : Leftmost g α ps w) → peak d ≡ peak e
peak_same d e = peak_from d e refl refl

module _ {g : Grammar} {cell : ℕ → Column → Option ℕ} (rows : Rows g cell) (room cells : ℕ) where
  -- a table that passes refusal 9: the machine makes the moves of the textbook's
  pub run_relation : (w : List ℕ) → Reached g cell w (final (run_of g cell room cells w))
  run_relation w = run_reached rows room cells w

  -- and it accepts only what the start derives, and the list is the leftmost derivation
  pub run_sound : (w : List ℕ) {s : State} → run_of g cell room cells w ≡ taken s → Derived g w s
  run_sound w e = ran_derived rows (begun_ran g.start w e)

module _ {g : Grammar} {cell : ℕ → Column → Option ℕ} (exact : Exact g cell) (room cells : ℕ) where
  -- a string that stops the run by syntax is not derivable
  pub run_syntax : (w : List ℕ) {r : Reason} {s : State}
      → run_of g cell room cells w ≡ stopped r s
      → Syntax r
      → ¬ Derivable g w
  run_syntax w e k = syntax_not_derivable exact (begun_ran g.start w e) k

  -- where the run stops by syntax, what is matched is the longest beginning that some derivable string shares
  pub run_place : WellFormed g
      → ((A : ℕ) → A < g.nonterminals → Useful g A)
      → (w : List ℕ) {r : Reason} {s : State}
      → run_of g cell room cells w ≡ stopped r s
      → Syntax r
      → Longest g w s.matched
  run_place well useful w e k = syntax_place exact (begun_ran g.start w e) k well useful

  module _ {ps w : List ℕ} (d : Complete g ps w) where
    -- a derivable string is taken with its derivation, if list and stack have room for that
    pub run_complete : length ps ≤ cells → peak d ≤ room → run_of g cell room cells w ≡ taken (whole d)
    run_complete l k = enough_taken (run_outcome exact (omega (arith, peak_start d)) d) l k

    -- with a stack cell it is taken, or stops right before the first production for which list or stack has no room
    pub run_room : 1 ≤ room → Outcome room cells d (run_of g cell room cells w)
    run_room h = run_outcome exact h d

    -- taken exactly if there is room for the whole derivation
    pub run_taken_iff : 1 ≤ room
        → ((s : State) × (run_of g cell room cells w ≡ taken s)) ↔ ((length ps ≤ cells) × (peak d ≤ room))
    run_taken_iff h =
        (λ t. taken_enough (subst (λ (o : Offered). Outcome room cells d o) t.1 (run_room h)), λ k. (whole d, run_complete k.0 k.1))

    -- and stopped for room exactly if there is not
    pub run_short_iff : 1 ≤ room
        → ((r : Reason) × (s : State) × Short r × (run_of g cell room cells w ≡ stopped r s)) ↔
        ((cells < length ps) ⊎ (room < peak d))
    run_short_iff h =
        (λ t. stopped_short (subst (λ (o : Offered). Outcome room cells d o) t.3 (run_room h)), λ k. short_stopped (run_room h) k)

  -- the list of a string that is taken is its only leftmost derivation
  pub run_unique_list : (w : List ℕ) {s : State}
      → run_of g cell room cells w ≡ taken s
      → {qs : List ℕ}
      → Complete g qs w
      → qs ≡ s.listed
  run_unique_list w e d =
      leftmost_unique (exact_no_conflict exact) d (run_sound (exact_rows exact) room cells w e).complete

module _ {g : Grammar} {cell : ℕ → Column → Option ℕ} (exact : Exact g cell) (well : WellFormed g)
    (useful : (A : ℕ) → A < g.nonterminals → Useful g A) (room cells : ℕ) (w : List ℕ) {r : Reason} {s : State}
    (ends : run_of g cell room cells w ≡ stopped r s) (syntax : Syntax r) where
  -- where a run stops by syntax, what can come after the tokens matched is FIRST of the stack right after the last
  -- match, with the end mark if that stack can vanish
  pub run_next : (c : Column)
      → First g (last_of g cell room cells w).stack (merged c) ↔ Continues g (take s.matched w) (column c)
  run_next = next_of_last exact well useful room cells w ends syntax

  -- or FIRST of the left sides listed since without the empty string, and FIRST of the stack at the stop, with the end
  -- mark if that can vanish
  pub run_next_stop : (c : Column)
      → Continues g (take s.matched w) (column c) ↔
      (Seen g (drop (length (last_of g cell room cells w).listed) s.listed) c ⊎ First g s.stack (merged c))
  run_next_stop = next_of_stop exact well useful room cells w ends syntax

  -- something can come, and never the column on which the run stops
  pub run_next_some : (c : Column) × Continues g (take s.matched w) (column c)
  run_next_some = next_there exact well useful room cells w ends syntax

  pub run_next_other : ¬ Continues g (take s.matched w) (column (front (drop s.matched w)))
  run_next_other = next_not_here exact well useful room cells w ends syntax

-- for every string there is room enough that it is taken or stops by syntax
pub run_halts : {g : Grammar} {cell : ℕ → Column → Option ℕ} → Exact g cell → (w : List ℕ) → RoomEnough g cell w
run_halts exact w = halted_decides (halts exact w)

module _ {g : Grammar} {cell : ℕ → Column → Option ℕ} (exact : Exact g cell) (well : WellFormed g)
    (full : NoEmptyRight g) (room cells : ℕ) (w : List ℕ) where
  -- where no right side is empty, a run over n tokens, however it ends and with whatever room, lists at most N × n
  -- productions
  pub run_lists_few : length (final (run_of g cell room cells w)).listed ≤ list_cells g (length w)
  run_lists_few = lists_few exact full (λ t x k l. leads_few well l) room cells w

  module _ (short : (p A : ℕ) (β : Form) → Rule g p A β → length β ≤ 16) where
    -- and holds at most 1 + 15 × N × n stack cells, where none has more than 16 symbols
    pub run_stays_low : (final (run_of g cell room cells w)).height ≤ stack_cells g (length w)
    run_stays_low = stays_low exact full (λ t x k l. leads_few well l) room cells w short

    -- so with that much room the string is taken or stops by syntax
    pub run_always_enough : list_cells g (length w) ≤ cells
        → stack_cells g (length w) ≤ room
        → Decided (run_of g cell room cells w)
    run_always_enough = always_enough exact full (λ t x k l. leads_few well l) room cells w short

module _ {g : Grammar} {cell : ℕ → Column → Option ℕ} (exact : Exact g cell) (plain : Plain g) (room cells : ℕ)
    (w : List ℕ) where
  -- of a plain grammar a run over n tokens, however it ends and with whatever room, lists at most n productions
  pub run_plain_few : length (final (run_of g cell room cells w)).listed ≤ length w
  run_plain_few = plain_lists_few exact plain room cells w

  module _ (short : (p A : ℕ) (β : Form) → Rule g p A β → length β ≤ 16) where
    -- and holds at most 1 + 15 × n stack cells, where no right side has more than 16 symbols
    pub run_plain_low : (final (run_of g cell room cells w)).height ≤ 1 + 15 * length w
    run_plain_low = plain_stays_low exact plain room cells w short

    -- so with n list cells and that many stack cells the string is taken or stops by syntax
    pub run_plain_enough : length w ≤ cells → 1 + 15 * length w ≤ room → Decided (run_of g cell room cells w)
    run_plain_enough = plain_always_enough exact plain room cells w short

module _ {g : Grammar} {cell : ℕ → Column → Option ℕ} (exact : Exact g cell) (well : WellFormed g)
    (useful : (A : ℕ) → A < g.nonterminals → Useful g A) (plain : Plain g) (room cells : ℕ) (w : List ℕ) {r : Reason}
    {s : State} (ends : run_of g cell room cells w ≡ stopped r s) (syntax : Syntax r) where
  -- where a run of a plain grammar stops by syntax, nothing is listed since the last match
  pub run_plain_no_more : s.listed ≡ (last_of g cell room cells w).listed
  run_plain_no_more = plain_lists_no_more exact well useful plain room cells w ends syntax

  -- and what can come after the tokens matched is what the reason asks for: the end mark, the token on top, or the
  -- filled columns of the row on top
  pub run_plain_next : (c : Column) → Continues g (take s.matched w) (column c) ↔ Wanted cell r c
  run_plain_next = plain_next exact well useful plain room cells w ends syntax
