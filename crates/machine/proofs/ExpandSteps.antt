-- What an expansion counts, from any stack and progress, and the room in which none is too short.
use Rattle.std.specs.Prelude.{⊤, Result}
use mathlib.Core.Path.{◌≡◌, sym, ◌∙◌}
use mathlib.Core.Bool.{Bool}
use mathlib.Core.List.{List, [], ◌∷◌, ◌++◌, append_assoc, append-nil}
use Prim.Native.Nat.{ℕ, suc, ◌+◌, ◌≤◌}
use native.Mathlib.Omega.{arith}
use lib.ListN.{length, length-append}
use Rattle.grammar.specs.Grammar.{Form}
use Rattle.machine.specs.Expansion.{Course, wrote, applied, opened, Spent, WithRoom, completes, misfits}
use Rattle.machine.specs.declared.Obstacle.{Obstacle}
use Rattle.machine.proofs.ExpandTrace.{Expands, finished, left_over, too_short, misfit, no_output, no_stack, write, apply}

-- how many symbols the productions have on their right sides together
unfoldable pub symbols : (ℕ → Form) → List ℕ → ℕ
symbols right [] = 0
symbols right (p ∷ ps) = length (right p) + symbols right ps

module _ {room output n : ℕ} where
  pub counted_opened : Spent room output n opened
  unfolding opened
  counted_opened = omega arith

  pub counted_wrote : (t : ℕ) (s : Course) → suc (length s.written) ≤ output → Spent room output n s → Spent room output n (wrote t s)
  unfolding wrote
  counted_wrote t s h c =
      let one : length (s.written ++ (t ∷ [])) ≡ length s.written + 1 = length-append s.written (t ∷ []) in
      record { moves = omega arith; used = c.used; written = omega arith; height = c.height }

  pub counted_applied : (β : Form) (s : Course) → length β ≤ room → suc s.used ≤ n → Spent room output n s → Spent room output n (applied β s)
  unfolding applied
  counted_applied β s h k c = record { moves = omega arith; used = k; written = c.written; height = omega arith }

nothing_more : (v : List ℕ) → (u : List ℕ) × (v ≡ v ++ u)
nothing_more v = ([], sym (append-nil v))

module _ {fits : ℕ → ℕ → Bool} {right : ℕ → Form} {room output : ℕ} where
  -- the counts stay right to the end
  pub counted_end : {n : ℕ} {ps : List ℕ} {α : Form} {s s' : Course} {e : Result ⊤ Obstacle} → Expands fits right room output ps α s e s' → s.used + length ps ≤ n → Spent room output n s → Spent room output n s'
  unfolding wrote applied
  counted_end finished h c = c
  counted_end left_over h c = c
  counted_end too_short h c = c
  counted_end (misfit f) h c = c
  counted_end (no_output f) h c = c
  counted_end (no_stack f k) h c = c
  counted_end (write {t = t} {s = s} f r) h c = counted_end r h (counted_wrote t s f c)
  counted_end (apply {p = p} {α = α} {s = s} f k r) h c = counted_end r (omega arith) (counted_applied (right p ++ α) s k (omega arith) c)

  pub counted_whole : {ps : List ℕ} {α : Form} {s : Course} {e : Result ⊤ Obstacle} → Expands fits right room output ps α opened e s → Spent room output (length ps) s
  unfolding opened
  counted_whole r = counted_end r (omega arith) counted_opened

  -- what is written stays, and more comes after it
  pub written_grows : {ps : List ℕ} {α : Form} {s s' : Course} {e : Result ⊤ Obstacle} → Expands fits right room output ps α s e s' → (u : List ℕ) × (s'.written ≡ s.written ++ u)
  unfolding wrote applied
  written_grows {s = s} finished = nothing_more s.written
  written_grows {s = s} left_over = nothing_more s.written
  written_grows {s = s} too_short = nothing_more s.written
  written_grows {s = s} (misfit f) = nothing_more s.written
  written_grows {s = s} (no_output f) = nothing_more s.written
  written_grows {s = s} (no_stack f k) = nothing_more s.written
  written_grows {s = s} (write {t = t} f r) = let (u, e) = written_grows r in (t ∷ u, e ∙ append_assoc s.written (t ∷ []) u)
  written_grows (apply f k r) = written_grows r

  -- with a cell for each symbol on the stack or still to come, neither stack nor output is too short
  pub room_enough : {ps : List ℕ} {α : Form} {s s' : Course} {e : Result ⊤ Obstacle} → Expands fits right room output ps α s e s' → length α + symbols right ps ≤ room → length s.written + (length α + symbols right ps) ≤ output → WithRoom e
  unfolding wrote applied symbols
  room_enough finished h k = completes
  room_enough left_over h k = misfits
  room_enough too_short h k = misfits
  room_enough (misfit f) h k = misfits
  room_enough (no_output f) h k = absurd (omega arith)
  room_enough (no_stack {p = p} {α = α} f l) h k = absurd (omega (arith, length-append (right p) α))
  room_enough (write {t = t} {s = s} f r) h k = room_enough r (omega arith) (omega (arith, length-append s.written (t ∷ [])))
  room_enough (apply {p = p} {α = α} f l r) h k = room_enough r (omega (arith, length-append (right p) α)) (omega (arith, length-append (right p) α))
