-- Expansions from the start symbol, as relations: what each ending says of the list.
use Rattle.std.specs.Prelude.{⊤, Result, Ok, Err}
use mathlib.Core.Path.{◌≡◌, refl, ap, subst}
use mathlib.Core.List.{List, [], ◌∷◌}
use Prim.Native.Nat.{ℕ, ◌+◌, ◌≤◌}
use native.Mathlib.Omega.{arith}
use lib.ListN.{length}
use Rattle.grammar.specs.declared.Symbol.TheVariants.{Nonterminal}
use Rattle.grammar.specs.Grammar.{Grammar, Complete, Productive, Reachable}
use Rattle.grammar.proofs.Leftmost.{list_string}
use Rattle.machine.specs.Expansion.{Course, ended, Expansion, opened, expansion, WithRoom, completes, misfits}
use Rattle.machine.specs.declared.Obstacle.{Obstacle}
use Rattle.machine.specs.declared.Obstacle.TheVariants.{Unfit}
use Rattle.machine.specs.Room.{right_of, is_of, peak, LongestList}
use Rattle.machine.proofs.ExpandTrace.{Expands, traced}
use Rattle.machine.proofs.ExpandSteps.{counted_whole}
use Rattle.machine.proofs.Peak.{peak_form}
use Rattle.machine.proofs.ExpandDerivation.{complete_derives, complete_height, room_complete}
use Rattle.machine.proofs.ExpandPlace.{unfit_stuck, stuck_incomplete, stuck_longest}

-- the expansion of ps from the start symbol comes to its ending and its last progress
abbrev pub Whole : Grammar → ℕ → ℕ → List ℕ → Result ⊤ Obstacle → Course → Type 0
Whole g room output ps e s = Expands (is_of g) (right_of g) room output ps (Nonterminal g.start ∷ []) opened e s

progress_path : {a b : Course} → a.written ≡ b.written → a.used ≡ b.used → a.moves ≡ b.moves → a.height ≡ b.height → a ≡ b
progress_path w u m h = λ i. record { written = w i; used = u i; moves = m i; height = h i }

pub ended_path : {x : Expansion} {e : Result ⊤ Obstacle} {s : Course} → x.ending ≡ e → x.progress ≡ s → x ≡ ended e s
unfolding ended
ended_path h k = λ i. record { ending = h i; progress = k i }

module _ {g : Grammar} {room output : ℕ} {ps : List ℕ} where
  module _ {s : Course} where
    pub whole_sound : Whole g room output ps (Ok tt) s → Complete g ps s.written × (s.used ≡ length ps)
    unfolding opened
    whole_sound r = let d = complete_derives r in (rw d.written d.derivation, omega (arith, d.used))

    pub whole_progress : Whole g room output ps (Ok tt) s → {w : List ℕ} (d : Complete g ps w) → s ≡ record { written = w; used = length ps; moves = length ps + length w; height = peak d }
    unfolding opened
    whole_progress r d =
        let (e, u) = whole_sound r in
        let c = counted_whole r in
        let same : s.written ≡ _ = list_string e d in
        progress_path same u (omega (arith, ap length same)) (omega (arith, complete_height r d (omega arith), peak_form d))

    pub whole_within : Whole g room output ps (Ok tt) s → 1 ≤ room → {w : List ℕ} (d : Complete g ps w) → (peak d ≤ room) × (length w ≤ output)
    whole_within r h d =
        let e = whole_progress r d in
        let c = counted_whole r in
        (omega (arith, ap (λ (x : Course). x.height) e), omega (arith, ap (λ (x : Course). length x.written) e))

    pub whole_unfit : Whole g room output ps (Err Unfit) s → {w : List ℕ} → ¬ Complete g ps w
    whole_unfit r d = stuck_incomplete (unfit_stuck r) d

    pub whole_longest : ((A : ℕ) → Reachable g A → Productive g A) → Whole g room output ps (Err Unfit) s → LongestList g ps s.used
    unfolding opened
    whole_longest productive r = stuck_longest productive (unfit_stuck r) refl

  pub whole_complete : {e : Result ⊤ Obstacle} {s : Course} → Whole g room output ps e s → {w : List ℕ} (d : Complete g ps w) → peak d ≤ room → length w ≤ output → e ≡ Ok tt
  unfolding opened
  whole_complete r d h k = room_complete r d h (omega arith)

  -- with room: complete for a complete list, unfit for any other
  pub whole_exact : {e : Result ⊤ Obstacle} {s : Course} {w : List ℕ} → WithRoom e → Whole g room output ps e s → Complete g ps w → e ≡ Ok tt
  whole_exact completes r d = refl
  whole_exact misfits r d = absurd (whole_unfit r d)

  pub whole_refuses : {e : Result ⊤ Obstacle} {s : Course} → WithRoom e → Whole g room output ps e s → ((w : List ℕ) → ¬ Complete g ps w) → e ≡ Err Unfit
  whole_refuses completes r n = absurd (n _ (whole_sound r).0)
  whole_refuses misfits r n = refl

module _ (g : Grammar) (room output : ℕ) (ps : List ℕ) where
  -- what the definition computes is such a relation
  pub whole : Whole g room output ps (expansion g room output ps).ending (expansion g room output ps).progress
  whole = traced (is_of g) (right_of g) room output ps (Nonterminal g.start ∷ []) opened

  pub whole_to : {e : Result ⊤ Obstacle} → (expansion g room output ps).ending ≡ e → Whole g room output ps e (expansion g room output ps).progress
  whole_to h = subst (λ (e : Result ⊤ Obstacle). Whole g room output ps e (expansion g room output ps).progress) h whole
