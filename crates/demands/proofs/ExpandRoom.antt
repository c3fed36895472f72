-- Where an expansion that has no room stops, and what it leaves then.
use Rattle.std.specs.Prelude.{⊤, Result, Err}
use mathlib.Core.Path.{◌≡◌, refl, ap}
use mathlib.Core.List.{List}
use Prim.Native.Nat.{ℕ, ◌+◌, ◌≤◌}
use native.Mathlib.Omega.{arith}
use lib.ListN.{length}
use Rattle.grammar.specs.Grammar.{Form, Grammar}
use Rattle.answers.specs.declared.Answer.{Answer}
use Rattle.answers.specs.Answers.{done, stop, no_set, at_depth}
use Rattle.answers.specs.Refusals.{room, stack_room, output_room}
use Rattle.answers.specs.Buffers.{over, counted, cleared}
use Rattle.machine.specs.Expansion.{Course, ended, Expansion}
use Rattle.machine.specs.declared.Obstacle.{Obstacle}
use Rattle.machine.specs.declared.Obstacle.TheVariants.{FullStack, FullOutput}
use Rattle.machine.specs.Stopping.{Midway, Lacks, lacks_stack, lacks_output}
use Rattle.machine.proofs.Promise.{expand_steps, WantsRoom, wants_stack, wants_output, expand_stops}
use Rattle.expand.proofs.Promise.{ToldBy, finished, misfitting, out_of_stack, out_of_output}
use Rattle.demands.specs.Demands.{Expanded, expanded}
use Rattle.demands.specs.RoomPlace.{ExpansionStops}
use Rattle.demands.specs.RoomPlace as places
use Rattle.demands.proofs.Kept.{ExpansionBegins, stackless, begins}
use Rattle.demands.proofs.ExpandDemands.{ends_told_by}

module _ {g : Grammar} {list : List ℕ} {x : Expansion} {stack output : List ℕ} where
  stops_as : {a b : Answer} {s t w v : List ℕ}
      → a ≡ b
      → s ≡ t
      → w ≡ v
      → ExpansionStops g list x stack output b t v
      → ExpansionStops g list x stack output a s w
  stops_as e f k y = rw (e, f, k) y

-- the state of an ending for want of room
abbrev Stands : Grammar → (list : List ℕ) → (cells output : ℕ) → Result ⊤ Obstacle → Course → Type 0
Stands g list cells output e s = (rest : List ℕ) × ((α : Form) × Midway g list s rest α × Lacks g cells output s e rest α)

module _ {g : Grammar} {list stack output : List ℕ} (stacked : 1 ≤ length stack) where
  lacking_stack : {s : Course} {rest : List ℕ} {α : Form}
      → Midway g list s rest α
      → Lacks g (counted stack) (counted output) s (Err FullStack) rest α
      → ExpansionStops g list (ended (Err FullStack) s) stack output
      (at_depth s.height (stop room s.used stack_room (s.used + length s.written) no_set)) (cleared stack) (over s.written output)
  lacking_stack m (lacks_stack short) = places.no_stack_cells stacked refl m short

  lacking_output : {s : Course} {rest : List ℕ} {α : Form}
      → Midway g list s rest α
      → Lacks g (counted stack) (counted output) s (Err FullOutput) rest α
      → ExpansionStops g list (ended (Err FullOutput) s) stack output
      (at_depth s.height (stop room s.used output_room (s.used + length s.written) no_set)) (cleared stack) (over s.written output)
  lacking_output m (lacks_output full) = places.no_output_cell stacked refl m full

  ends_midway : {e : Result ⊤ Obstacle} {s : Course} {a : Answer} {st out : List ℕ}
      → ToldBy s e a
      → st ≡ cleared stack
      → out ≡ over s.written output
      → s.moves ≡ s.used + length s.written
      → (WantsRoom e → Stands g list (counted stack) (counted output) e s)
      → a.number ≡ room
      → ExpansionStops g list (ended e s) stack output a st out
  unfolding done stop at_depth
  ends_midway finished b c m k n = absurd (omega arith)
  ends_midway misfitting b c m k n = absurd (omega arith)
  ends_midway {s = s} out_of_stack b c m k n =
      let (rest, (α, here, short)) = k wants_stack in
      stops_as (ap (λ (i : ℕ). at_depth s.height (stop room s.used stack_room i no_set)) m) b c (lacking_stack here short)
  ends_midway {s = s} out_of_output b c m k n =
      let (rest, (α, here, full)) = k wants_output in
      stops_as (ap (λ (i : ℕ). at_depth s.height (stop room s.used output_room i no_set)) m) b c (lacking_output here full)

-- it stands midway in the list, right before what it has no room for
pub room_midway : (g : Grammar) (list stack output : List ℕ) {r : Expanded}
    → ExpansionBegins g list stack output r
    → r.answer.number ≡ room
    → ExpansionStops g list (expanded g list stack output) stack output r.answer r.stack r.output
unfolding ended
room_midway g list stack output (stackless e a b c) n = stops_as a b c (places.no_stack e)
room_midway g list stack output (begins k e) n =
    ends_midway k (ends_told_by g list stack output e) e.cleared e.written
    (expand_steps g (counted stack) (counted output) list).moves (expand_stops g (counted stack) (counted output) list) n
