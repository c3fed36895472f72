-- The greatest height that a run or an expansion reaches is the stack that it needs: with fewer cells it stops for want of stack, before it gets
-- so high; with so many it goes the same way, and with more too, if it did not stop for want of stack.
use Rattle.std.specs.Prelude.{⊤, Result, Err}
use mathlib.Core.Path.{◌≡◌, refl, ap, ◌∙◌}
use mathlib.Core.Logic.{◌≢◌}
use mathlib.Core.Bool.{Bool}
use mathlib.Core.List.{List, ◌∷◌, ◌++◌}
use mathlib.Core.Option.{Option}
use Prim.Native.Nat.{ℕ, ◌≤◌, ◌<◌}
use native.Mathlib.Decide.{dec_le}
use native.Mathlib.Omega.{arith}
use lib.ListN.{length}
use Rattle.grammar.specs.declared.Symbol.TheVariants.{Nonterminal}
use Rattle.grammar.specs.Grammar.{Form, Grammar, Column}
use Rattle.grammar.specs.Machine.{front}
use Rattle.machine.specs.Machine.{State, Offered, stopped, begun, popped, replaced, run_from}
use Rattle.machine.specs.declared.Reason.TheVariants.{FullStack}
use Rattle.machine.specs.Expansion.{Course, Expansion, ended, wrote, applied, expand_from, opened, expansion}
use Rattle.machine.specs.Stopping.{HadStack}
use Rattle.machine.specs.declared.Obstacle.{Obstacle}
use Rattle.machine.specs.declared.Obstacle.TheVariants as obstacles
use Rattle.machine.proofs.Walk.{final, Walk, here, match, expand, Walked, Halt, accepts, left_over, unmatched, vacant, list_full, stack_full}
use Rattle.machine.proofs.Agreement.{walk_runs, walk_lists, ran}
use Rattle.machine.proofs.Count.{walk_grown, halt_final}
use Rattle.machine.proofs.RoomNeeded.{walk_within}
use Rattle.machine.proofs.ExpandMoves as moves
use Rattle.machine.proofs.ExpandTrace.{Expands, finished, left_over, too_short, misfit, no_output, no_stack, write, apply}
use Rattle.machine.proofs.ExpandWhole.{whole}

-- with this room a walk from s stops for want of stack before it gets to e
record CutShort (right : ℕ → Form) (cell : ℕ → Column → Option ℕ) (room cells : ℕ) (w : List ℕ) (s e : State) : Type 0 where
  rest : List ℕ
  last : State
  walk : Walk right cell room cells rest last w s
  halt : Halt right cell room cells (front rest) last (stopped FullStack last)
  sooner : last.moves < e.moves

module _ {right : ℕ → Form} {cell : ℕ → Column → Option ℕ} {much room cells : ℕ} where
  -- where it halts it halts with other room too; for want of stack, with less
  halt_within : {c : Column} {s : State} {o : Offered}
      → Halt right cell much cells c s o
      → ((e : State) → o ≡ stopped FullStack e → room ≤ much)
      → Halt right cell room cells c s o
  halt_within (accepts e f) n = accepts e f
  halt_within (Halt.left_over e f) n = Halt.left_over e f
  halt_within (unmatched e f) n = unmatched e f
  halt_within (vacant e f) n = vacant e f
  halt_within (list_full e f m) n = list_full e f m
  halt_within (stack_full e f l m) n = stack_full e f l (omega (arith, n _ refl))

  -- so does one that would get higher than the room
  walk_cut : {z : List ℕ} {e : State} {w : List ℕ} {s : State} → Walk right cell much cells z e w s → s.height ≤ room → room < e.height → CutShort right cell room cells w s e
  unfolding popped replaced
  walk_cut here h k = absurd (omega arith)
  walk_cut (match f r) h k =
      let cut = walk_cut r h k in
      record { rest = cut.rest; last = cut.last; walk = match f cut.walk; halt = cut.halt; sooner = cut.sooner }
  walk_cut {e = e} (expand {p = p} {α = α} {w = w} {s = s} f c l m r) h k = go (dec_le (length (right p ++ α)) room) (walk_cut r)
    where
      go : Dec (length (right p ++ α) ≤ room)
          → ((replaced p (right p ++ α) s).height ≤ room → room < e.height → CutShort right cell room cells w (replaced p (right p ++ α) s) e)
          → CutShort right cell room cells w s e
      go (yes n) again =
          let cut = again (omega arith) k in
          record { rest = cut.rest; last = cut.last; walk = expand {s = s} f c l n cut.walk; halt = cut.halt; sooner = cut.sooner }
      go (no n) again =
          let (j, matched, grown) = walk_grown r in
          record { rest = w; last = s; walk = here; halt = stack_full f c l (omega arith); sooner = omega (arith, grown.steps) }

module _ (right : ℕ → Form) (cell : ℕ → Column → Option ℕ) (cells start : ℕ) (w : List ℕ) where
  -- the run with so many stack cells
  abbrev runs : ℕ → Offered
  runs room = run_from right cell room cells w (begun start)

  within : (much room : ℕ) → ((e : State) → runs much ≡ stopped FullStack e → room ≤ much) → (final (runs much)).height ≤ room → runs room ≡ runs much
  unfolding begun
  within much room had low =
      let r : Walked right cell much cells w (begun start) (runs much) = ran right cell much cells w (begun start) (omega arith) in
      let height = ap (λ (s : State). s.height) (halt_final r.halt) in
      let listed = walk_lists r.walk (omega arith) in
      walk_runs (walk_within listed (omega arith) r.walk) (omega arith) (halt_within r.halt had)

  -- the same way with any other stack
  pub run_depth_same : (much room : ℕ) → HadStack (runs much) → (final (runs much)).height ≤ room → runs room ≡ runs much
  run_depth_same much room had low = within much room (λ e f. absurd (had e f)) low

  -- and however it ended, with one that is not larger
  pub run_depth_down : (much room : ℕ) → room ≤ much → (final (runs much)).height ≤ room → runs room ≡ runs much
  run_depth_down much room less low = within much room (λ e f. less) low

  -- but not so far with one that is lower than it got
  pub run_depth_short : (much room : ℕ)
      → 1 ≤ room
      → room < (final (runs much)).height
      → (e : State) × (runs room ≡ stopped FullStack e) × (e.moves < (final (runs much)).moves)
  unfolding begun
  run_depth_short much room some_room low =
      let r : Walked right cell much cells w (begun start) (runs much) = ran right cell much cells w (begun start) (omega arith) in
      let height = ap (λ (s : State). s.height) (halt_final r.halt) in
      let moved = ap (λ (s : State). s.moves) (halt_final r.halt) in
      let cut : CutShort right cell room cells w (begun start) r.last = walk_cut r.walk (omega arith) (omega arith) in
      (cut.last, walk_runs cut.walk (omega arith) cut.halt, omega (arith, cut.sooner))

module _ {fits : ℕ → ℕ → Bool} {right : ℕ → Form} {output : ℕ} where
  -- neither the greatest height nor the moves made ever fall
  expands_on : {room : ℕ} {ps : List ℕ} {α : Form} {s s' : Course} {e : Result ⊤ Obstacle}
      → Expands fits right room output ps α s e s'
      → (s.height ≤ s'.height) × (s.moves ≤ s'.moves)
  unfolding wrote applied
  expands_on finished = (omega arith, omega arith)
  expands_on left_over = (omega arith, omega arith)
  expands_on too_short = (omega arith, omega arith)
  expands_on (misfit f) = (omega arith, omega arith)
  expands_on (no_output h) = (omega arith, omega arith)
  expands_on (no_stack f h) = (omega arith, omega arith)
  expands_on (write h r) = let (higher, later) = expands_on r in (higher, omega arith)
  expands_on (apply f h r) = let (higher, later) = expands_on r in (omega arith, omega arith)

  -- an expansion needs as much stack as it gets high; the one that stops for want of stack stops so with less too
  expands_within : {much room : ℕ} {ps : List ℕ} {α : Form} {s s' : Course} {e : Result ⊤ Obstacle}
      → (e ≡ Err obstacles.FullStack → room ≤ much)
      → s'.height ≤ room
      → Expands fits right much output ps α s e s'
      → Expands fits right room output ps α s e s'
  unfolding applied
  expands_within n k finished = finished
  expands_within n k left_over = left_over
  expands_within n k too_short = too_short
  expands_within n k (misfit f) = misfit f
  expands_within n k (no_output h) = no_output h
  expands_within n k (no_stack {α = α} f h) = no_stack {α = α} f (omega (arith, n refl))
  expands_within n k (write h r) = write h (expands_within n k r)
  expands_within {room = room} n k (apply {p = p} {α = α} f h r) =
      let fits_in : length (right p ++ α) ≤ room = omega (arith, (expands_on r).0) in
      apply f fits_in (expands_within n k r)

  -- one that gets higher than the room stops for want of stack before it does
  expands_cut : {much room : ℕ} {ps : List ℕ} {α : Form} {s s' : Course} {e : Result ⊤ Obstacle}
      → Expands fits right much output ps α s e s'
      → s.height ≤ room
      → room < s'.height
      → (c : Course) × Expands fits right room output ps α s (Err obstacles.FullStack) c × (c.moves < s'.moves)
  unfolding wrote applied
  expands_cut finished h k = absurd (omega arith)
  expands_cut left_over h k = absurd (omega arith)
  expands_cut too_short h k = absurd (omega arith)
  expands_cut (misfit f) h k = absurd (omega arith)
  expands_cut (no_output f) h k = absurd (omega arith)
  expands_cut (no_stack f l) h k = absurd (omega arith)
  expands_cut (write f r) h k = let (c, cut, sooner) = expands_cut r h k in (c, write f cut, sooner)
  expands_cut {room = room} {s' = s'} (apply {p = p} {A = A} {ps = ps} {α = α} {s = s} f l r) h k = go (dec_le (length (right p ++ α)) room) (expands_cut r)
    where
      go : Dec (length (right p ++ α) ≤ room)
          → ((applied (right p ++ α) s).height ≤ room → room < s'.height → (c : Course) × Expands fits right room output ps (right p ++ α) (applied (right p ++ α) s) (Err obstacles.FullStack) c × (c.moves < s'.moves))
          → (c : Course) × Expands fits right room output (p ∷ ps) (Nonterminal A ∷ α) s (Err obstacles.FullStack) c × (c.moves < s'.moves)
      go (yes n) again = let (c, cut, sooner) = again (omega arith) k in (c, apply f n cut, sooner)
      go (no n) again = (s, no_stack {α = α} f (omega arith), omega (arith, (expands_on r).1))

  -- what the relation comes to is computed
  expands_is : {room : ℕ} {ps : List ℕ} {α : Form} {s s' : Course} {e : Result ⊤ Obstacle}
      → Expands fits right room output ps α s e s'
      → expand_from fits right room output ps α s ≡ ended e s'
  expands_is {room = room} {s = s} finished = moves.finished_is fits right room output s
  expands_is {room = room} {s = s} (left_over {p = p} {ps = ps}) = moves.left_over_is fits right room output p ps s
  expands_is {room = room} {s = s} (too_short {A = A} {α = α}) = moves.too_short_is fits right room output A α s
  expands_is {room = room} {s = s} (misfit {p = p} {A = A} {ps = ps} {α = α} f) = moves.misfit_is fits right room output p A ps α s f
  expands_is {room = room} {s = s} (no_output {t = t} {ps = ps} {α = α} h) = moves.no_output_is fits right room output t ps α s h
  expands_is {room = room} {s = s} (no_stack {p = p} {A = A} {ps = ps} {α = α} f h) = moves.no_stack_is fits right room output p A ps α s f h
  expands_is {room = room} {s = s} (write {t = t} {ps = ps} {α = α} h r) = moves.write_is fits right room output t ps α s h ∙ expands_is r
  expands_is {room = room} {s = s} (apply {p = p} {A = A} {ps = ps} {α = α} f h r) = moves.apply_is fits right room output p A ps α s f h ∙ expands_is r

module _ (g : Grammar) (output : ℕ) (ps : List ℕ) where
  -- the expansion with so many stack cells
  abbrev expands : ℕ → Expansion
  expands room = expansion g room output ps

  -- the start symbol is on the stack from the beginning
  pub expand_tall : (room : ℕ) → 1 ≤ (expands room).progress.height
  unfolding opened
  expand_tall room = omega (arith, (expands_on (whole g room output ps)).0)

  -- the same way with any other stack
  pub expand_depth_same : (much room : ℕ) → (expands much).ending ≢ Err obstacles.FullStack → (expands much).progress.height ≤ room → expands room ≡ expands much
  unfolding ended
  expand_depth_same much room had low = expands_is (expands_within (λ f. absurd (had f)) low (whole g much output ps))

  -- and however it ended, with one that is not larger
  pub expand_depth_down : (much room : ℕ) → room ≤ much → (expands much).progress.height ≤ room → expands room ≡ expands much
  unfolding ended
  expand_depth_down much room less low = expands_is (expands_within (λ f. less) low (whole g much output ps))

  -- but not so far with one that is lower than it got
  pub expand_depth_short : (much room : ℕ)
      → 1 ≤ room
      → room < (expands much).progress.height
      → (c : Course) × (expands room ≡ ended (Err obstacles.FullStack) c) × (c.moves < (expands much).progress.moves)
  unfolding opened
  expand_depth_short much room some_room low =
      let (c, cut, sooner) = expands_cut (whole g much output ps) (omega arith) low in
      (c, expands_is cut, sooner)
