-- The machine that runs token strings, on lists, with the room that it is lent. One move is one step.
-- Document 01, "Running and expanding".
use Rattle.std.specs.Prelude.{Bool, true, false, List, [], ◌∷◌, ◌++◌, ℕ, zero, suc, ◌-◌, max, eqb, leb, length}
use Rattle.std.proofs.Math.Option.{Option, some, none}
use Rattle.grammar.specs.declared.Symbol.TheVariants.{Token, Nonterminal}
use Rattle.grammar.specs.Grammar.{Form, Column, token, endmark}
use Rattle.machine.specs.declared.Reason.{Reason}
use Rattle.machine.specs.declared.Reason.TheVariants.{FullList, FullStack, WantsEnd, WantsToken, WantsRow}

-- the stack, top first; the productions listed and the tokens matched so far; the moves made; the greatest height of
-- the stack so far
pub record State : Type 0 where
  pub stack : Form
  pub listed : List ℕ
  pub matched : ℕ
  pub moves : ℕ
  pub height : ℕ

-- what was offered is taken, or the machine stops
pub data Offered : Type 0 where
  taken : State → Offered
  stopped : Reason → State → Offered

-- the state in which an outcome leaves the machine
unfoldable pub final : Offered → State
final (taken s) = s
final (stopped r s) = s

-- the start symbol stands on the stack, and with that steps have begun
unfoldable pub begun : ℕ → State
begun start = record { stack = Nonterminal start ∷ []; listed = []; matched = 0; moves = 0; height = 1 }

unfoldable pub meets : Column → ℕ → Bool
meets (token s) t = eqb s t
meets endmark t = false

-- the token on top is matched and popped
unfoldable pub popped : Form → State → State
popped α s =
    record { stack = α; listed = s.listed; matched = suc s.matched; moves = suc s.moves; height = s.height }

-- the right side, production p's, takes the place of the nonterminal on top, and p is listed
unfoldable pub replaced : ℕ → Form → State → State
replaced p β s =
    record {
      stack = β;
      listed = s.listed ++ (p ∷ []);
      matched = s.matched;
      moves = suc s.moves;
      height = max s.height (length β);
    }

-- the right side of each production, the cells of the table, and how many cells of stack and list count as room
module _ (right : ℕ → Form) (cell : ℕ → Column → Option ℕ) (room cells : ℕ) where
  -- a stack that would be too long after the replacement stops the machine
  unfoldable pub used : (State → Offered) → ℕ → Form → State → Offered
  used next p α s =
      elim (leb (length (right p ++ α)) room)
      [ true ↦ next (replaced p (right p ++ α) s) | false ↦ stopped FullStack s ]

  -- what the top of the stack says to the column
  unfoldable pub facing : (ℕ → Form → Offered) → Column → State → Form → Offered
  facing apply c s [] = elim c [ token t ↦ stopped WantsEnd s | endmark ↦ taken s ]
  facing apply c s (Token t ∷ α) = elim (meets c t) [ true ↦ taken (popped α s) | false ↦ stopped (WantsToken t) s ]
  facing apply c s (Nonterminal A ∷ α) = elim (cell A c) [ none ↦ stopped (WantsRow A) s | some p ↦ apply p α ]

  -- productions are used until the column is taken or the machine stops; so many list cells are left
  unfoldable pub offer : ℕ → Column → State → Offered
  offer zero c s = facing (λ p α. stopped FullList s) c s s.stack
  offer (suc l) c s = facing (λ p α. used (offer l c) p α s) c s s.stack

  -- the tokens are offered one by one, then the end mark
  unfoldable pub run_from : List ℕ → State → Offered
  run_from [] s = offer (cells - length s.listed) endmark s
  run_from (t ∷ w) s =
      elim (offer (cells - length s.listed) (token t) s) [ taken s' ↦ run_from w s' | stopped r s' ↦ stopped r s' ]
