-- The places of a book's records, cell by cell.
use mathlib.Core.Path.{◌≡◌, refl, ap, ◌∙◌}
use mathlib.Core.List.{List, [], ◌∷◌, ◌++◌}
use Prim.Native.Nat.{ℕ, zero, suc, ◌+◌, ◌≤◌, ◌<◌, min}
use native.Mathlib.Nat.{add-zero, zero-add}
use native.Mathlib.Omega.{arith}
use lib.ListN.{length, get_or, drop, replicate, length-replicate, get_or-eq_default}
use lib.Seq.{sets, sets-eq, length-sets, get_or-drop}
use Rattle.answers.specs.Limits.{most_productions}
use Rattle.reader.specs.Fields.{place_of_record, places_from, places_of}

pub zero_cell : (size i : ℕ) → ◌≡◌ {A = ℕ} (get_or (replicate size 0) i 0) 0
zero_cell zero i = refl
zero_cell (suc size) zero = refl
zero_cell (suc size) (suc i) = zero_cell size i

pub zeros_behind : (cells behind : List ℕ) (i : ℕ) → ((j : ℕ) → get_or behind j 0 ≡ 0) → get_or (cells ++ behind) i 0 ≡ get_or cells i 0
zeros_behind [] behind i zeros = zeros i
zeros_behind (cell ∷ cells) behind zero zeros = refl
zeros_behind (cell ∷ cells) behind (suc i) zeros = zeros_behind cells behind i zeros

written_over_zeros : (size : ℕ) (cells : List ℕ) (i : ℕ) → length cells ≤ size → get_or (sets (replicate size 0) 0 cells) i 0 ≡ get_or cells i 0
written_over_zeros size cells i fits =
    let inside : 0 + length cells ≤ length (replicate {A = ℕ} size 0) = rw (zero-add, length-replicate {A = ℕ} size 0) fits in
    ap (λ (l : List ℕ). get_or l i 0) (sets-eq cells (replicate size 0) 0 inside)
    ∙ zeros_behind cells (drop (0 + length cells) (replicate size 0)) i (λ j. get_or-drop (0 + length cells) (replicate size 0) j 0 ∙ zero_cell size _)

module _ (b : List ℕ) where
  length_from : (count p : ℕ) → length (places_from b count p) ≡ count
  unfolding places_from
  length_from zero p = refl
  length_from (suc count) p = ap suc (length_from count (suc p))

  cell_from : (count p i : ℕ) → i < count → get_or (places_from b count p) i 0 ≡ place_of_record b (p + i)
  unfolding places_from
  cell_from zero p i h = absurd (omega arith)
  cell_from (suc count) p zero h = rw add-zero
  cell_from (suc count) p (suc i) h = cell_from count (suc p) i (omega arith) ∙ ap (place_of_record b) (omega arith)

  module _ (count : ℕ) where
    cell_of : (p : ℕ) → get_or (places_of b count) p 0 ≡ get_or (places_from b (min count most_productions) 0) p 0
    unfolding places_of
    cell_of p = written_over_zeros most_productions (places_from b (min count most_productions) 0) p (omega (arith, length_from (min count most_productions) 0))

    pub places_length : length (places_of b count) ≡ most_productions
    unfolding places_of
    places_length = length-sets (replicate most_productions 0) 0 (places_from b (min count most_productions) 0)

    pub places_cell : (p : ℕ) → p < min count most_productions → get_or (places_of b count) p 0 ≡ place_of_record b p
    places_cell p h = cell_of p ∙ cell_from (min count most_productions) 0 p h ∙ ap (place_of_record b) (zero-add p)

    pub places_rest : (p : ℕ) → min count most_productions ≤ p → get_or (places_of b count) p 0 ≡ 0
    places_rest p h = cell_of p ∙ get_or-eq_default (places_from b (min count most_productions) 0) 0 (omega (arith, length_from (min count most_productions) 0))
