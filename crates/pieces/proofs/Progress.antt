-- The loop over the line: the pieces so far and what they leave in the buffers; what is left, cut, completes them to the whole.
use mathlib.Core.Path.{◌≡◌, refl, sym, ap, ◌∙◌}
use mathlib.Core.List.{List, [], ◌∷◌, ◌++◌, append_assoc, append-nil, map-append}
use Rattle.std.specs.Prelude.{Ok}
use Prim.Native.Nat.{ℕ, ◌+◌, ◌-◌, ◌≤◌, ◌<◌}
use native.Mathlib.Numerals.{add-one}
use native.Mathlib.Nat.{sub-zero}
use native.Mathlib.Omega.{arith}
use lib.ListN.{length, take, drop, set, length-append, length-map, length-take, length-drop}
use lib.Seq.{take-nil}
use Rattle.answers.specs.declared.Answer.{Answer}
use Rattle.answers.specs.Buffers.{over}
use Rattle.pieces.specs.Cut.{Ending}
use Rattle.pieces.specs.declared.Move.TheVariants.{Skip, Take}
use Rattle.pieces.specs.Cut.{Piece, behind, numbers_of, ends_of, Cut, answer_of}
use Rattle.pieces.specs.Calls.{CutWithOutcome}
use Rattle.pieces.specs.Moves.{DoneAt}
use Rattle.pieces.specs.Rows.{Says}
use Rattle.pieces.proofs.Moving.{skip_cuts, taken, take_cuts, skip_inside, take_inside}
use Rattle.pieces.proofs.Written.{over_next, over_taken}

pub record Progress
    (M : ℕ → List ℕ → Type 0)
    (line tokens₀ ends₀ : List ℕ)
    (at count : ℕ)
    (tokens ends : List ℕ) : Type 0 where
  pub pieces : List Piece
  pub counted : length pieces ≡ count
  pub within : at ≤ length line
  pub room : count ≤ length tokens₀
  pub completes : (rest : List Piece) (ending : Ending)
      → Cut M (length tokens₀ - count) at (drop at line) rest ending
      → Cut M (length tokens₀) 0 line (pieces ++ rest) ending
  pub numbers : tokens ≡ over (numbers_of pieces) tokens₀
  pub places : ends ≡ over (take (length ends₀) (ends_of pieces)) ends₀

numbers_length : (pieces : List Piece) → length (numbers_of pieces) ≡ length pieces
unfolding numbers_of
numbers_length pieces = length-map pieces (λ p. p.number)

ends_length : (pieces : List Piece) → length (ends_of pieces) ≡ length pieces
unfolding ends_of
ends_length pieces = length-map pieces (λ p. behind p)

numbers_next : (pieces : List Piece) (p : Piece) → numbers_of (pieces ++ (p ∷ [])) ≡ numbers_of pieces ++ (p.number ∷ [])
unfolding numbers_of
numbers_next pieces p = map-append (λ p. p.number) pieces (p ∷ [])

ends_next : (pieces : List Piece) (p : Piece) → ends_of (pieces ++ (p ∷ [])) ≡ ends_of pieces ++ (behind p ∷ [])
unfolding ends_of
ends_next pieces p = map-append (λ p. behind p) pieces (p ∷ [])

-- the piece that is taken ends at `end`
taken_behind : (line : List ℕ) (at k end : ℕ) → at < end → end ≤ length line → behind (taken line at k end) ≡ end
taken_behind line at k end some within = simp (length-take, length-drop) (omega arith)

module _ {M : ℕ → List ℕ → Type 0} {line tokens₀ ends₀ : List ℕ} where
  -- nothing cut yet
  pub progress_none : Progress M line tokens₀ ends₀ 0 0 tokens₀ ends₀
  unfolding numbers_of ends_of
  progress_none =
      record {
        pieces = [];
        counted = refl;
        within = omega arith;
        room = omega arith;
        completes = λ rest ending cut. rw sub-zero at cut;
        numbers = refl;
        places = rw (take-nil (length ends₀));
      }

  module _ {at count : ℕ} {tokens ends : List ℕ} (p : Progress M line tokens₀ ends₀ at count tokens ends) where
    pub progress_skip : DoneAt M line at (length tokens₀ - count) (Ok Skip) → Progress M line tokens₀ ends₀ (at + 1) count tokens ends
    progress_skip moves =
        record {
          pieces = p.pieces;
          counted = p.counted;
          within = omega (arith, skip_inside moves);
          room = p.room;
          completes = λ rest ending cut. p.completes rest ending (skip_cuts moves (rw add-one at cut));
          numbers = p.numbers;
          places = p.places;
        }

    pub progress_take : {k end : ℕ}
        → DoneAt M line at (length tokens₀ - count) (Ok (Take k end))
        → Progress M line tokens₀ ends₀ end (count + 1) (set tokens count k) (set ends count end)
    progress_take {k} {end} moves =
        let next = taken line at k end in
        let inside = take_inside moves in
        let left : length tokens₀ - (count + 1) ≡ length tokens₀ - count - 1 = omega arith in
        let numbers : set tokens count k ≡ over (numbers_of (p.pieces ++ (next ∷ []))) tokens₀ =
        rw (p.numbers, ← p.counted, ← numbers_length p.pieces, numbers_next p.pieces next)
        (over_next (numbers_of p.pieces) tokens₀ k (omega (arith, inside.2, p.counted, numbers_length p.pieces))) in
        let ends_there = taken_behind line at k end inside.0 inside.1 in
        let places : set ends count end ≡ over (take (length ends₀) (ends_of (p.pieces ++ (next ∷ [])))) ends₀ =
        rw (p.places, ← p.counted, ← ends_length p.pieces, ends_next p.pieces next, ends_there)
        (over_taken (ends_of p.pieces) ends₀ end) in
        record {
          pieces = p.pieces ++ (next ∷ []);
          counted = simp length-append (omega (arith, p.counted));
          within = inside.1;
          room = omega (arith, inside.2);
          completes = λ rest ending cut.
              rw append_assoc (p.completes (next ∷ rest) ending (take_cuts moves (rw left at cut)));
          numbers = numbers;
          places = places;
        }

-- the cut ends
pub progress_ends : {machine line tokens₀ ends₀ tokens ends : List ℕ} {at count : ℕ} {ending : Ending} {answer : Answer}
    → Progress (Says machine) line tokens₀ ends₀ at count tokens ends
    → Cut (Says machine) (length tokens₀ - count) at (drop at line) [] ending
    → answer ≡ answer_of ending count
    → CutWithOutcome machine line tokens₀ ends₀ answer tokens ends
progress_ends {ending = ending} p cut answered =
    record {
      pieces = p.pieces;
      ending = ending;
      cut = rw append-nil at (p.completes [] ending cut);
      answered = answered ∙ ap (answer_of ending) (sym p.counted);
      numbers = p.numbers;
      places = p.places;
    }
