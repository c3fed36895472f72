-- With room for its list and its states a run is accepted by the machine with room, and with less it stops for room and
-- for nothing else.
use mathlib.Core.Path.{◌≡◌, sym, ◌∙◌}
use mathlib.Core.Logic.{◌⊎◌, inl, inr}
use mathlib.Core.List.{List, [], ◌∷◌, ◌++◌, append_assoc, append-nil}
use mathlib.Core.Option.{Option, some}
use Prim.Native.Nat.{ℕ, suc, ◌+◌, ◌≤◌, ◌<◌, max}
use native.Mathlib.Decide.{dec_lt}
use native.Mathlib.Omega.{arith}
use lib.ListN.{length, drop, length-append}
use Rattle.grammar.specs.Grammar.{Form, Grammar, Column, token, endmark, Rule}
use Rattle.grammar.specs.Machine.{front}
use Rattle.slr.specs.Actions.{Action, shift, reduce, accept}
use Rattle.slr.specs.Machine.{Accepting, accepts, shifts, reduces}
use Rattle.slr.specs.Ends.{EndsAccepting, wants_list, wants_stack, EndsForRoom}
use Rattle.slr.specs.RoomMachine.{Setting, Progress, slr_begun, full_list, full_stack, taken, stopped, shifted, reduced, slr_run_from, left_in, size_in, setting_of, slr_run}
use Rattle.slr.proofs.Held.{most_held, held_least, Ran}
use Rattle.slr.proofs.RoomSteps.{run_accepts, run_shifts, run_shift_full, run_reduces, run_list_full, run_stack_full}

-- where the machine stands after w is read and ps is listed, with so many states held
record After (s : Progress) (w ps : List ℕ) (most : ℕ) (last : Progress) : Type 0 where
  listed : last.listed ≡ s.listed ++ ps
  matched : last.matched ≡ s.matched + length w
  steps : last.steps ≡ s.steps + (length ps + length w)
  height : last.height ≡ max s.height most

-- accepted where there is room, and stopped for room where there is not
data Ending (m : Setting) (s : Progress) (w ps : List ℕ) (most : ℕ) : Type 0 where
  served : most ≤ m.room
      → length s.listed + length ps ≤ m.cells
      → (last : Progress)
      → slr_run_from m w s ≡ taken last
      → After s w ps most last
      → Ending m s w ps most
  lacking : (m.room < most) ⊎ (m.cells < length s.listed + length ps)
      → EndsForRoom (slr_run_from m w s)
      → Ending m s w ps most

-- runs that are the same end alike
ends_same : (m : Setting) (s s' : Progress) (w w' : List ℕ)
    → slr_run_from m w s ≡ slr_run_from m w' s'
    → EndsForRoom (slr_run_from m w' s')
    → EndsForRoom (slr_run_from m w s)
ends_same m s s' w w' e stops =
    record { reason = stops.reason; last = stops.last; ends = e ∙ stops.ends; room = stops.room }

ending_most : {m : Setting} {s : Progress} {w ps : List ℕ} {most n : ℕ}
    → Ending m s w ps most
    → most ≡ n
    → Ending m s w ps n
ending_most h e = rw e at h

module _ (m : Setting) (s : Progress) where
  ending_accepts : m.cell s.top endmark ≡ some accept
      → suc (length s.below) ≤ m.room
      → length s.listed ≤ m.cells
      → suc (length s.below) ≤ s.height
      → Ending m s [] [] (suc (length s.below))
  ending_accepts e room cells high =
      served room (omega arith) s (run_accepts m s e)
      (record {
        listed = sym (append-nil s.listed);
        matched = omega arith;
        steps = omega arith;
        height = omega arith;
      })

  -- a stack that is too short
  ending_stack : (w ps : List ℕ) (most : ℕ)
      → slr_run_from m w s ≡ stopped full_stack s
      → m.room < most
      → Ending m s w ps most
  ending_stack w ps most e h = lacking (inl h) (record { reason = full_stack; last = s; ends = e; room = wants_stack })

  module _ (t j : ℕ) (w ps : List ℕ) (most : ℕ) (e : m.cell s.top (token t) ≡ some (shift j))
      (high : suc (suc (length s.below)) ≤ most) where
    shift_goes_on : suc (length s.below) < m.room → Ending m (shifted j s) w ps most → Ending m s (t ∷ w) ps most
    unfolding shifted
    shift_goes_on room (served tall long last ends after) =
        served tall long last (run_shifts m t j w s e room ∙ ends)
        (record {
          listed = after.listed;
          matched = omega (arith, after.matched);
          steps = omega (arith, after.steps);
          height = omega (arith, after.height);
        })
    shift_goes_on room (lacking lacks stops) =
        lacking lacks (ends_same m s (shifted j s) (t ∷ w) w (run_shifts m t j w s e room) stops)

    ending_shifts : (suc (length s.below) < m.room → Ending m (shifted j s) w ps most) → Ending m s (t ∷ w) ps most
    ending_shifts on = go (dec_lt (suc (length s.below)) m.room)
      where
        go : Dec (suc (length s.below) < m.room) → Ending m s (t ∷ w) ps most
        go (yes h) = shift_goes_on h (on h)
        go (no n) = ending_stack (t ∷ w) ps most (run_shift_full m t j w s e (omega arith)) (omega arith)

  module _ (w ps : List ℕ) (p j k : ℕ) (rest : List ℕ) (most : ℕ) (e : m.cell s.top (front w) ≡ some (reduce p))
      (uncovers : drop (m.size p) (s.top ∷ s.below) ≡ k ∷ rest) (moves : m.move k (m.left p) ≡ some j)
      (high : suc (suc (length rest)) ≤ most) (fits : suc (length s.below) ≤ m.room)
      (so_far : suc (length s.below) ≤ s.height) where
    reduction_goes_on : length s.listed < m.cells
        → suc (length rest) < m.room
        → Ending m (reduced p j (k ∷ rest) s) w ps most
        → Ending m s w (p ∷ ps) (max (suc (length s.below)) most)
    unfolding reduced
    reduction_goes_on cells room (served tall long last ends after) =
        let longer : length s.listed + suc (length ps) ≤ m.cells = omega (arith, length-append s.listed (p ∷ [])) in
        served (omega arith) longer last (run_reduces m w s p j k rest e uncovers moves cells room ∙ ends)
        (record {
          listed = after.listed ∙ append_assoc s.listed (p ∷ []) ps;
          matched = after.matched;
          steps = omega (arith, after.steps);
          height = omega (arith, after.height);
        })
    reduction_goes_on cells room (lacking lacks stops) =
        let same = run_reduces m w s p j k rest e uncovers moves cells room in
        lacking (more lacks) (ends_same m s (reduced p j (k ∷ rest) s) w w same stops)
      where
        more : (m.room < most) ⊎ (m.cells < length (s.listed ++ (p ∷ [])) + length ps)
            → (m.room < max (suc (length s.below)) most) ⊎ (m.cells < length s.listed + suc (length ps))
        more (inl h) = inl (omega arith)
        more (inr h) = inr (omega (arith, length-append s.listed (p ∷ [])))

    ending_reduces : (length s.listed < m.cells
        → suc (length rest) < m.room
        → Ending m (reduced p j (k ∷ rest) s) w ps most)
        → Ending m s w (p ∷ ps) (max (suc (length s.below)) most)
    ending_reduces on = go (dec_lt (length s.listed) m.cells) (dec_lt (suc (length rest)) m.room)
      where
        go : Dec (length s.listed < m.cells)
            → Dec (suc (length rest) < m.room)
            → Ending m s w (p ∷ ps) (max (suc (length s.below)) most)
        go (no n) d =
            let full = run_list_full m w s p j k rest e uncovers moves (omega arith) in
            lacking (inr (omega arith)) (record { reason = full_list; last = s; ends = full; room = wants_list })
        go (yes h) (no n) =
            ending_stack w (p ∷ ps) (max (suc (length s.below)) most)
            (run_stack_full m w s p j k rest e uncovers moves h (omega arith)) (omega arith)
        go (yes h) (yes i) = reduction_goes_on h i (on h i)

pub rule_left : {g : Grammar} {p A : ℕ} {β : Form} → Rule g p A β → left_in g p ≡ A
unfolding left_in
rule_left r = rw (r.at, left_in)

pub rule_size : {g : Grammar} {p A : ℕ} {β : Form} → Rule g p A β → size_in g p ≡ length β
unfolding size_in
rule_size r = rw (r.at, size_in)

abbrev standing : ℕ → List ℕ → List ℕ → (matched steps height : ℕ) → Progress
standing top below listed matched steps height =
    record { top = top; below = below; listed = listed; matched = matched; steps = steps; height = height }

module _ {g : Grammar} {cell : ℕ → Column → Option Action} {move : ℕ → ℕ → Option ℕ} (room cells : ℕ) where
  accepted_ending : {top : ℕ} {below w ps : List ℕ} (a : Accepting g cell move (top ∷ below) w ps)
      (listed : List ℕ) (matched steps height : ℕ)
      → suc (length below) ≤ room
      → length listed ≤ cells
      → suc (length below) ≤ height
      → Ending (setting_of g cell move room cells) (standing top below listed matched steps height) w ps (most_held a)
  unfolding most_held shifted reduced
  accepted_ending (accepts e) listed matched steps height fits few high =
      ending_accepts (setting_of g cell move room cells) _ e fits few high
  accepted_ending (shifts {t = t} {j = j} {below = below} {w = w} {ps = ps} e a) listed matched steps height fits few high =
      let higher : ℕ = max height (suc (suc (length below))) in
      ending_most
      (ending_shifts (setting_of g cell move room cells) _ t j w ps (most_held a) e (held_least a)
      (λ more. accepted_ending a listed (suc matched) (suc steps) higher more few (omega arith)))
      (omega (arith, held_least a))
  accepted_ending (reduces {s = o} {p = p} {k = k} {j = j} {below = below} {rest = rest} {w = w} {ps = ps} e r d leads a)
      listed matched steps height fits few high =
      let uncovers : drop (size_in g p) (o ∷ below) ≡ k ∷ rest = rw (rule_size r) d in
      let moves_to : move k (left_in g p) ≡ some j = rw (rule_left r) leads in
      let higher : ℕ = max height (suc (suc (length rest))) in
      let few_more : length listed < cells → length (listed ++ (p ∷ [])) ≤ cells =
      λ longer. omega (arith, length-append listed (p ∷ [])) in
      ending_reduces (setting_of g cell move room cells) _ w ps p j k rest (most_held a) e uncovers moves_to
      (held_least a) fits high
      (λ longer more. accepted_ending a (listed ++ (p ∷ [])) matched (suc steps) higher more (few_more longer) (omega arith))

  -- the run from the start
  accepted_run : {w ps : List ℕ} {most : ℕ}
      → Ran g cell move (0 ∷ []) w ps most
      → 1 ≤ room
      → Ending (setting_of g cell move room cells) slr_begun w ps most
  unfolding slr_begun
  accepted_run ran fits =
      ending_most (accepted_ending ran.run [] 0 0 1 fits (omega arith) (omega arith)) ran.holds

  module _ {w ps : List ℕ} {most : ℕ} (ran : Ran g cell move (0 ∷ []) w ps most) where
    some_state : 1 ≤ most
    some_state = omega (arith, held_least ran.run, ran.holds)

    pub room_enough : most ≤ room
        → length ps ≤ cells
        → EndsAccepting w ps most (slr_run (setting_of g cell move room cells) w)
    unfolding slr_begun
    room_enough tall long = go (accepted_run ran (omega (arith, some_state)))
      where
        go : Ending (setting_of g cell move room cells) slr_begun w ps most
            → EndsAccepting w ps most (slr_run (setting_of g cell move room cells) w)
        go (served t l last ends after) =
            record {
              last = last;
              ends = ends;
              listed = after.listed;
              matched = omega (arith, after.matched);
              steps = omega (arith, after.steps);
              height = omega (arith, after.height, some_state);
            }
        go (lacking (inl h) stops) = absurd (omega arith)
        go (lacking (inr h) stops) = absurd (omega arith)

    pub room_lacking : 1 ≤ room
        → (room < most) ⊎ (cells < length ps)
        → EndsForRoom (slr_run (setting_of g cell move room cells) w)
    unfolding slr_begun
    room_lacking fits lacks = go lacks (accepted_run ran fits)
      where
        go : (room < most) ⊎ (cells < length ps)
            → Ending (setting_of g cell move room cells) slr_begun w ps most
            → EndsForRoom (slr_run (setting_of g cell move room cells) w)
        go l (lacking k stops) = stops
        go (inl h) (served t l last ends after) = absurd (omega arith)
        go (inr h) (served t l last ends after) = absurd (omega arith)
