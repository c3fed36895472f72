-- Where a run of a plain grammar stops by syntax: nothing is listed since the last match, and the reason of the stop says what can come.
use mathlib.Core.Path.{◌≡◌, refl, sym, ◌∙◌, ap, subst}
use mathlib.Core.Logic.{◌↔◌}
use mathlib.Core.List.{List, [], ◌∷◌, ◌++◌, append-nil}
use mathlib.Core.Option.{Option, some}
use Prim.Native.Nat.{ℕ, ◌<◌}
use lib.ListN.{take}
use Rattle.grammar.specs.declared.Symbol.TheVariants.{Token, Nonterminal}
use Rattle.grammar.specs.Grammar.{Form, spelled, Grammar, Column, token, endmark, column, WellFormed, Useful}
use Rattle.grammar.specs.Machine.{Exact, Continues}
use Rattle.grammar.specs.Plain.{Plain}
use Rattle.grammar.proofs.Next.{consumes_derives}
use Rattle.grammar.proofs.PlainNext.{AsksFor, asks_end, asks_token, asks_row}
use Rattle.grammar.proofs.Theorems.{can_come_first, plain_can_come, plain_none_since}
use Rattle.machine.specs.Machine.{State, stopped}
use Rattle.machine.specs.declared.Reason.{Reason}
use Rattle.machine.specs.declared.Reason.TheVariants.{WantsEnd, WantsToken, WantsRow}
use Rattle.machine.specs.Stopping.{Syntax, run_of}
use Rattle.machine.specs.Last.{last_of}
use Rattle.machine.proofs.Walk.{Halt, left_over, unmatched, vacant, list_full, stack_full}
use Rattle.machine.proofs.LastOffer.{OneOffer, by_halt}
use Rattle.machine.proofs.NextTokens.{last, since, takes, next_of_last}

-- what a reason asks for: the end mark, the token, or a column whose cell in the row is filled
pub data Wanted (cell : ℕ → Column → Option ℕ) : Reason → Column → Type 0 where
  wants_end : Wanted cell WantsEnd endmark
  wants_token : {t : ℕ} → Wanted cell (WantsToken t) (token t)
  wants_row : {p A : ℕ} {c : Column} → cell A c ≡ some p → Wanted cell (WantsRow A) c

-- the top of the stack gives a syntax stop its reason
data Topped : Reason → Form → Type 0 where
  on_empty : Topped WantsEnd []
  on_token : {t : ℕ} {α : Form} → Topped (WantsToken t) (Token t ∷ α)
  on_row : {A : ℕ} {α : Form} → Topped (WantsRow A) (Nonterminal A ∷ α)

module _ {cell : ℕ → Column → Option ℕ} where
  asked_wanted : {r : Reason} {σ : Form} {c : Column} → Topped r σ → AsksFor cell σ c → Wanted cell r c
  asked_wanted on_empty asks_end = wants_end
  asked_wanted on_token asks_token = wants_token
  asked_wanted on_row (asks_row e) = wants_row e

  wanted_asked : {r : Reason} {σ : Form} {c : Column} → Topped r σ → Wanted cell r c → AsksFor cell σ c
  wanted_asked on_empty wants_end = asks_end
  wanted_asked on_token wants_token = asks_token
  wanted_asked on_row (wants_row e) = asks_row e

  halt_topped : {right : ℕ → Form} {room cells : ℕ} {b : Column} {e s : State} {r : Reason} → Halt right cell room cells b e (stopped r s) → Syntax r → Topped r s.stack
  halt_topped (left_over h f) k = rw h on_empty
  halt_topped (unmatched h f) k = rw h on_token
  halt_topped (vacant h f) k = rw h on_row
  halt_topped (list_full h f m) k = elim k [ ]
  halt_topped (stack_full h f m n) k = elim k [ ]

module _ {g : Grammar} {cell : ℕ → Column → Option ℕ} where
  offer_topped : {room cells : ℕ} {rest : List ℕ} {last s : State} {r : Reason} → OneOffer g cell room cells rest last (stopped r s) → Syntax r → Topped r s.stack
  offer_topped (by_halt walk halt) k = halt_topped halt k

  module _ (exact : Exact g cell) (well : WellFormed g) (useful : (A : ℕ) → A < g.nonterminals → Useful g A) (plain : Plain g)
      (room cells : ℕ) (w : List ℕ) {r : Reason} {s : State} (ends : run_of g cell room cells w ≡ stopped r s) (syntax : Syntax r) where
    none_since : ((since exact well useful room cells w ends syntax).new ≡ []) × ((last_of g cell room cells w).stack ≡ s.stack)
    none_since =
        let from = since exact well useful room cells w ends syntax in
        plain_none_since plain exact (spelled (last exact well useful room cells w ends syntax).read) (consumes_derives (takes exact well useful room cells w ends syntax)) from.run refl from.stop

    -- nothing is listed since the last match
    pub plain_lists_no_more : s.listed ≡ (last_of g cell room cells w).listed
    plain_lists_no_more =
        let from = since exact well useful room cells w ends syntax in
        from.lists ∙ ap (λ (ps : List ℕ). (last_of g cell room cells w).listed ++ ps) none_since.0 ∙ append-nil (last_of g cell room cells w).listed

    -- what can come after the tokens matched is what the reason of the stop asks for
    pub plain_next : (c : Column) → Continues g (take s.matched w) (column c) ↔ Wanted cell r c
    plain_next c =
        let next = next_of_last exact well useful room cells w ends syntax c in
        let first = can_come_first c in
        let asks = plain_can_come plain exact in
        let same = none_since.1 in
        let top = offer_topped (last exact well useful room cells w ends syntax).answers syntax in
        (λ k. asked_wanted top (subst (λ (σ : Form). AsksFor cell σ c) same (asks.0 (first.1 (next.1 k)))), λ k. next.0 (first.0 (asks.1 (subst (λ (σ : Form). AsksFor cell σ c) (sym same) (wanted_asked top k)))))
