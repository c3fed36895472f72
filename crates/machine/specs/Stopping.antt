-- How a run ends: taken, a syntax stop, or a stop for want of room, where a derivation then stands, and what room a
-- string needs.
-- Document 01, "Running and expanding"; demand 3's sentence on room.
use Rattle.std.specs.Prelude.{◌≡◌, ◌≢◌, List, [], ◌∷◌, ◌++◌, ℕ, ◌≤◌, ◌<◌, length, take, ⊤, Result, Err}
use Rattle.std.proofs.Math.Option.{Option}
use Rattle.grammar.specs.declared.Symbol.TheVariants.{Token, Nonterminal}
use Rattle.grammar.specs.Grammar.{Form, spelled, Grammar, Column, LeftmostSteps}
use Rattle.machine.specs.Machine.{State, Offered, taken, stopped, begun, run_from, final}
use Rattle.machine.specs.declared.Reason.{Reason}
use Rattle.machine.specs.declared.Reason.TheVariants.{FullList, FullStack, WantsEnd, WantsToken, WantsRow}
use Rattle.machine.specs.Room.{right_of}
use Rattle.machine.specs.Expansion.{Course}
use Rattle.machine.specs.declared.Obstacle.{Obstacle}
use Rattle.machine.specs.declared.Obstacle.TheVariants as obstacles

-- the reasons of a syntax stop
pub data Syntax : Reason → Type 0 where
  wanted_end : Syntax WantsEnd
  wanted_token : {t : ℕ} → Syntax (WantsToken t)
  wanted_row : {A : ℕ} → Syntax (WantsRow A)

-- the reasons of a stop for room
pub data Short : Reason → Type 0 where
  short_list : Short FullList
  short_stack : Short FullStack

-- the string is decided: taken, or a syntax stop
pub data Decided : Offered → Type 0 where
  accepted : {s : State} → Decided (taken s)
  refused : {r : Reason} {s : State} → Syntax r → Decided (stopped r s)

-- the outcome is no stop for want of stack
abbrev pub HadStack : Offered → Type 0
HadStack o = (e : State) → o ≢ stopped FullStack e

-- the run of a grammar's machine from its start
abbrev pub run_of : Grammar → (ℕ → Column → Option ℕ) → ℕ → ℕ → List ℕ → Offered
run_of g cell room cells w = run_from (right_of g) cell room cells w (begun g.start)

-- the string is decided exactly with so much room, and always alike
pub record RoomNeeded (g : Grammar) (cell : ℕ → Column → Option ℕ) (w : List ℕ) : Type 0 where
  pub outcome : Offered
  pub decided : Decided outcome
  pub tall : 1 ≤ (final outcome).height
  pub reached : (room cells : ℕ)
      → (final outcome).height ≤ room
      → length (final outcome).listed ≤ cells
      → run_of g cell room cells w ≡ outcome
  pub needed : (room cells : ℕ)
      → 1 ≤ room
      → Decided (run_of g cell room cells w)
      → ((final outcome).height ≤ room) × (length (final outcome).listed ≤ cells)

-- a state of the derivation ps of w right before its production p: those before p are listed, and they give the matched
-- tokens with the stack behind them
pub record Before (g : Grammar) (ps w : List ℕ) (p : ℕ) (below : Form) (s : State) : Type 0 where
  pub later : List ℕ
  pub lists : ps ≡ s.listed ++ (p ∷ later)
  pub row : ℕ
  pub on_top : s.stack ≡ Nonterminal row ∷ below
  pub form : LeftmostSteps g (Nonterminal g.start ∷ []) s.listed (spelled (take s.matched w) ++ s.stack)

-- a state of the expansion of the list ps: `rest` of it is left, the productions before give the tokens written with
-- the stack α behind them
pub record Midway (g : Grammar) (ps : List ℕ) (s : Course) (rest : List ℕ) (α : Form) : Type 0 where
  pub before : List ℕ
  pub list : ps ≡ before ++ rest
  pub used : s.used ≡ length before
  pub form : LeftmostSteps g (Nonterminal g.start ∷ []) before (spelled s.written ++ α)

-- what an expansion lacks that stops for room: stack cells for the next production's right side, or an output cell for
-- the token on top
pub data Lacks (g : Grammar) (cells output : ℕ) (s : Course) : Result ⊤ Obstacle → List ℕ → Form → Type 0 where
  lacks_stack : {p A : ℕ} {rest : List ℕ} {α : Form}
      → cells < length (right_of g p ++ α)
      → Lacks g cells output s (Err obstacles.FullStack) (p ∷ rest) (Nonterminal A ∷ α)
  lacks_output : {t : ℕ} {rest : List ℕ} {α : Form}
      → length s.written ≡ output
      → Lacks g cells output s (Err obstacles.FullOutput) rest (Token t ∷ α)
