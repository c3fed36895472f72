-- What expansion promises, one page: each theorem under the sentence that it proves.
use Rattle.std.specs.Prelude.{Ok, Err}
use mathlib.Core.Path.{◌≡◌}
use mathlib.Core.Logic.{◌↔◌, ◌≢◌}
use mathlib.Core.Bool.{Bool}
use mathlib.Core.List.{List, [], ◌∷◌, ◌++◌}
use Prim.Native.Nat.{ℕ, suc, ◌+◌, ◌≤◌, ◌<◌}
use native.Mathlib.Omega.{arith}
use lib.ListN.{length}
use Rattle.grammar.specs.declared.Symbol.TheVariants.{Nonterminal}
use Rattle.grammar.specs.Grammar.{Form, Grammar, Complete, WellFormed, Useful}
use Rattle.grammar.proofs.Useful.{useful_all}
use Rattle.machine.specs.Expansion.{Course, ended, expand_from, opened, expansion, Spent, WithRoom}
use Rattle.machine.specs.declared.Obstacle.TheVariants.{Unfit}
use Rattle.machine.specs.Room.{right_of, is_of, peak, LongestList}
use Rattle.machine.proofs.ExpandTrace.{traced}
use Rattle.machine.proofs.ExpandSteps.{symbols, counted_end, counted_whole, written_grows, room_enough}
use Rattle.machine.proofs.ExpandWhole.{ended_path, whole, whole_to, whole_sound, whole_progress, whole_within, whole_unfit, whole_longest, whole_complete, whole_exact, whole_refuses}
-- two derivations with one list reach one greatest height, and the place at which a list does not fit is determined
pub use Rattle.machine.proofs.ExpandPeak.{peak_of_list}
pub use Rattle.machine.proofs.ExpandPlace.{list_place_determined}

module _ (fits : ℕ → ℕ → Bool) (right : ℕ → Form) (room output : ℕ) where
  -- from any stack and progress, counts that are right stay right to the end
  pub expand_steps_from : (ps : List ℕ) (α : Form) (s : Course) {n : ℕ}
      → s.used + length ps ≤ n
      → Spent room output n s
      → Spent room output n (expand_from fits right room output ps α s).progress
  expand_steps_from ps α s h c = counted_end (traced fits right room output ps α s) h c

  -- what is written stays, and more comes after it
  pub expand_grows : (ps : List ℕ) (α : Form) (s : Course)
      → (u : List ℕ) × ((expand_from fits right room output ps α s).progress.written ≡ s.written ++ u)
  expand_grows ps α s = written_grows (traced fits right room output ps α s)

module _ (g : Grammar) (room output : ℕ) (ps : List ℕ) where
  -- moves = productions used + tokens written, and of list, output and stack no more is taken than there is
  pub expand_steps : Spent room output (length ps) (expansion g room output ps).progress
  expand_steps = counted_whole (traced (is_of g) (right_of g) room output ps (Nonterminal g.start ∷ []) opened)

  -- done only for a list that is a leftmost derivation of the output
  pub expand_sound : (expansion g room output ps).ending ≡ Ok tt
      → Complete g ps (expansion g room output ps).progress.written ×
      ((expansion g room output ps).progress.used ≡ length ps)
  expand_sound h = whole_sound (whole_to g room output ps h)

  -- given room a complete list expands to the string it derives
  pub expand_complete : {w : List ℕ} (d : Complete g ps w)
      → peak d ≤ room
      → length w ≤ output
      → expansion g room output ps ≡ ended (Ok tt)
      (record { written = w; used = length ps; moves = length ps + length w; height = peak d })
  expand_complete d h k = let e = whole_complete (whole g room output ps) d h k in ended_path e (whole_progress (whole_to g room output ps e) d)

  -- a list that does not fit is no complete list
  pub expand_unfit : (expansion g room output ps).ending ≡ Err Unfit → {w : List ℕ} → ¬ Complete g ps w
  expand_unfit h d = whole_unfit (whole_to g room output ps h) d

  -- with room it is complete exactly if the list is complete
  pub expand_exact : WithRoom (expansion g room output ps).ending
      → ((expansion g room output ps).ending ≡ Ok tt) ↔ ((w : List ℕ) × Complete g ps w)
  expand_exact r =
      (λ h. ((expansion g room output ps).progress.written, (expand_sound h).0), λ d. whole_exact r (whole g room output ps) d.1)

  -- and then of the output
  pub expand_exact_output : WithRoom (expansion g room output ps).ending
      → ((expansion g room output ps).ending ≡ Ok tt) ↔ Complete g ps (expansion g room output ps).progress.written
  expand_exact_output r = (λ h. (expand_sound h).0, λ d. whole_exact r (whole g room output ps) d)

  -- and unfit exactly if it is complete of no string
  pub expand_refuses : WithRoom (expansion g room output ps).ending
      → ((expansion g room output ps).ending ≡ Err Unfit) ↔ ((w : List ℕ) → ¬ Complete g ps w)
  expand_refuses r = (λ h w d. expand_unfit h d, λ n. whole_refuses r (whole g room output ps) n)

  -- where it is unfit, what it has used is the longest beginning of the list that some complete list shares
  pub expand_place : WellFormed g
      → ((A : ℕ) → A < g.nonterminals → Useful g A)
      → (expansion g room output ps).ending ≡ Err Unfit
      → LongestList g ps (expansion g room output ps).progress.used
  expand_place well useful h = whole_longest (useful_all well useful) (whole_to g room output ps h)

  -- a complete list is refused only for room, and exactly if stack or output is too short for it
  pub expand_room : {w : List ℕ} (d : Complete g ps w)
      → 1 ≤ room
      → ((expansion g room output ps).ending ≢ Err Unfit) ×
      (((expansion g room output ps).ending ≡ Ok tt) ↔ ((peak d ≤ room) × (length w ≤ output)))
  expand_room d h =
      (λ e. expand_unfit e d, (λ e. whole_within (whole_to g room output ps e) h d, λ k. whole_complete (whole g room output ps) d k.0 k.1))

-- for every list there is a room in which it is complete or unfit
pub expand_enough : (g : Grammar) (ps : List ℕ)
    → (cells : ℕ) × ((room output : ℕ) → cells ≤ room → cells ≤ output → WithRoom (expansion g room output ps).ending)
unfolding opened
expand_enough g ps =
    (suc (symbols (right_of g) ps), λ room output h k. room_enough (whole g room output ps) (omega arith) (omega arith))
