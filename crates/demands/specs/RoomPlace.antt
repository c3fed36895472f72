-- Where a derivation stands when a run or an expansion stops for want of room, and what is left then.
-- Document 01, "Running and expanding"; demand 3's sentence on room.
use Rattle.std.specs.Prelude.{◌≡◌, List, ◌∷◌, ◌++◌, ℕ, ◌+◌, ◌≤◌, ◌<◌, length, Err}
use Rattle.grammar.specs.declared.Symbol.TheVariants.{Token, Nonterminal}
use Rattle.grammar.specs.Grammar.{Form, Grammar, Complete}
use Rattle.answers.specs.Answers.{refusal, stop, no_set, at_depth}
use Rattle.answers.specs.Buffers.{counted, over, cleared}
use Rattle.answers.specs.Refusals.{room, stack_room, list_room, output_room}
use Rattle.answers.specs.declared.Answer.{Answer}
use Rattle.machine.specs.Machine.{State, Offered, stopped}
use Rattle.machine.specs.declared.Reason.TheVariants.{FullList, FullStack}
use Rattle.machine.specs.Room.{right_of}
use Rattle.machine.specs.Expansion.{Course, Expansion, ended}
use Rattle.machine.specs.declared.Obstacle.TheVariants as obstacles
use Rattle.machine.specs.Stopping.{Before, Midway}

-- what a run with the outcome o leaves that stops for room: no stack cell; or, in the state of o, right before the
-- first production of the derivation for which the list is full, or whose right side does not fit the stack
pub data StopsForRoom (g : Grammar) {ps w : List ℕ} (d : Complete g ps w) (o : Offered) (stack list : List ℕ)
    : Answer → List ℕ → List ℕ → Type 0 where
  no_stack : length stack ≡ 0 → StopsForRoom g d o stack list (refusal room 0 stack_room) stack list
  no_list_cell : {p : ℕ} {below : Form} {s : State}
      → 1 ≤ length stack
      → o ≡ stopped FullList s
      → Before g ps w p below s
      → length s.listed ≡ counted list
      → s.height ≤ counted stack
      → StopsForRoom g d o stack list
      (at_depth s.height (stop room s.matched list_room (length s.listed + s.matched) no_set))
      (cleared stack)
      (over s.listed list)
  no_stack_cells : {p : ℕ} {below : Form} {s : State}
      → 1 ≤ length stack
      → o ≡ stopped FullStack s
      → Before g ps w p below s
      → length s.listed < counted list
      → s.height ≤ counted stack
      → counted stack < length (right_of g p ++ below)
      → StopsForRoom g d o stack list
      (at_depth s.height (stop room s.matched stack_room (length s.listed + s.matched) no_set))
      (cleared stack)
      (over s.listed list)

-- what an expansion that comes to e leaves if it stops for room: no stack cell; or, midway in the list, right before
-- the first production whose right side does not fit the stack, or the first token for which the output is full
pub data ExpansionStops (g : Grammar) (list : List ℕ) (e : Expansion) (stack output : List ℕ)
    : Answer → List ℕ → List ℕ → Type 0 where
  no_stack : length stack ≡ 0 → ExpansionStops g list e stack output (refusal room 0 stack_room) stack output
  no_stack_cells : {p A : ℕ} {rest : List ℕ} {below : Form} {s : Course}
      → 1 ≤ length stack
      → e ≡ ended (Err obstacles.FullStack) s
      → Midway g list s (p ∷ rest) (Nonterminal A ∷ below)
      → counted stack < length (right_of g p ++ below)
      → ExpansionStops g list e stack output
      (at_depth s.height (stop room s.used stack_room (s.used + length s.written) no_set))
      (cleared stack)
      (over s.written output)
  no_output_cell : {t : ℕ} {rest : List ℕ} {below : Form} {s : Course}
      → 1 ≤ length stack
      → e ≡ ended (Err obstacles.FullOutput) s
      → Midway g list s rest (Token t ∷ below)
      → length s.written ≡ counted output
      → ExpansionStops g list e stack output
      (at_depth s.height (stop room s.used output_room (s.used + length s.written) no_set))
      (cleared stack)
      (over s.written output)
