-- The machine with its room as a relation: the moves that it makes, and why it ends where it makes none.
use mathlib.Core.Path.{◌≡◌}
use mathlib.Core.Logic.{◌≢◌}
use mathlib.Core.List.{List, [], ◌∷◌, ◌++◌}
use mathlib.Core.Option.{Option, some, none}
use Prim.Native.Nat.{ℕ, ◌≤◌, ◌<◌}
use lib.ListN.{length}
use Rattle.grammar.specs.declared.Symbol.TheVariants.{Token, Nonterminal}
use Rattle.grammar.specs.Grammar.{Form, Column, token, endmark}
use Rattle.grammar.specs.Machine.{front}
use Rattle.machine.specs.Machine.{State, Offered, taken, stopped, popped, replaced}
use Rattle.machine.specs.declared.Reason.TheVariants.{FullList, FullStack, WantsEnd, WantsToken, WantsRow}
-- why it ends, and in which state
pub use Rattle.machine.specs.Stopping.{Syntax, wanted_end, wanted_token, wanted_row, Short, short_list, short_stack, Decided, accepted, refused}
unfoldable pub use Rattle.machine.specs.Machine.{final}

module _ (right : ℕ → Form) (cell : ℕ → Column → Option ℕ) (room cells : ℕ) where
  -- Walk z e w s: from the state s with w unread the machine comes to the state e with z unread
  pub data Walk (z : List ℕ) (e : State) : List ℕ → State → Type 0 where
    here : Walk z e z e
    match : {t : ℕ} {α : Form} {w : List ℕ} {s : State} → s.stack ≡ Token t ∷ α → Walk z e w (popped α s) → Walk z e (t ∷ w) s
    expand : {p A : ℕ} {α : Form} {w : List ℕ} {s : State} → s.stack ≡ Nonterminal A ∷ α → cell A (front w) ≡ some p → length s.listed < cells → length (right p ++ α) ≤ room → Walk z e w (replaced p (right p ++ α) s) → Walk z e w s

  -- in the state s it makes no move on the column c, and that is the outcome
  pub data Halt (c : Column) (s : State) : Offered → Type 0 where
    accepts : s.stack ≡ [] → c ≡ endmark → Halt c s (taken s)
    left_over : {t : ℕ} → s.stack ≡ [] → c ≡ token t → Halt c s (stopped WantsEnd s)
    unmatched : {t : ℕ} {α : Form} → s.stack ≡ Token t ∷ α → c ≢ token t → Halt c s (stopped (WantsToken t) s)
    vacant : {A : ℕ} {α : Form} → s.stack ≡ Nonterminal A ∷ α → cell A c ≡ none → Halt c s (stopped (WantsRow A) s)
    list_full : {p A : ℕ} {α : Form} → s.stack ≡ Nonterminal A ∷ α → cell A c ≡ some p → cells ≤ length s.listed → Halt c s (stopped FullList s)
    stack_full : {p A : ℕ} {α : Form} → s.stack ≡ Nonterminal A ∷ α → cell A c ≡ some p → length s.listed < cells → room < length (right p ++ α) → Halt c s (stopped FullStack s)

  -- from the state s, with w unread, it walks to where it halts with the outcome o
  pub record Walked (w : List ℕ) (s : State) (o : Offered) : Type 0 where
    pub rest : List ℕ
    pub last : State
    pub walk : Walk rest last w s
    pub halt : Halt (front rest) last o

  -- offered the first column of w, it comes to where that is matched, or it halts
  pub data ComesTo (w : List ℕ) (s : State) : Offered → Type 0 where
    goes_on : {t : ℕ} {y : List ℕ} {e : State} → w ≡ t ∷ y → Walk y e w s → ComesTo w s (taken e)
    ends : {e : State} {o : Offered} → Walk w e w s → Halt (front w) e o → ComesTo w s o
