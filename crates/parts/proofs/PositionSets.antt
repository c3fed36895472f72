-- Sets of positions as their words: the set with one, a union, and a set of positions as a set of points.
use mathlib.Core.Path.{◌≡◌, refl}
use mathlib.Core.Logic.{inr, ⊎_elim}
use mathlib.Core.Bool.{true, false}
use mathlib.Core.List.{List, [], ◌∷◌}
use Prim.Native.Nat.{ℕ, ◌+◌}
use native.Mathlib.Omega.{arith}
use lib.ListN.{length, get_or, get_or-eq_default}
use Rattle.answers.specs.Limits.{position_words, point_words}
use Rattle.sets.specs.Words.{places, value_of}
use Rattle.sets.proofs.Promise.{places_are, exactly_none, exactly_alike}
use Rattle.points.specs.Points.{words_at, points_at, Put, Unite}
use Rattle.points.proofs.Promise.{put_exactly, unite_unites}
use Rattle.pattern.specs.Pattern.{Class, one}
use Rattle.pattern.specs.Positions.{size}
use Rattle.pattern.proofs.Promise.{null_of_one, first_of_one, last_of_one}
use Rattle.parts.specs.declared.Part.{Part}
use Rattle.parts.specs.Rows.{Rows}
use Rattle.parts.specs.Parts.{positions_in, capped, Told}
use Rattle.parts.specs.Leading.{points_in, Leads, Led}
use Rattle.parts.specs.Joins.{Only, Through}

no_positions : positions_in (0 ∷ 0 ∷ 0 ∷ 0 ∷ []) ≡ 0
unfolding points_at words_at value_of
no_positions = refl

-- one position put into the set with none
pub only_one : {position : ℕ} {after : List ℕ}
    → Put (0 ∷ 0 ∷ 0 ∷ 0 ∷ []) 0 position_words position after
    → Only position after
only_one {position} put below =
    exactly_alike (λ k. (⊎_elim absurd (λ e. e), inr))
    (put_exactly put (omega arith) (omega (arith, places_are position_words)) (rw no_positions (exactly_none (places position_words) (λ k none. none))))

pub through_passed : {own other after : List ℕ}
    → length own ≡ position_words
    → Unite own 0 position_words other 0 after
    → Through true own other after
through_passed long unite = unite_unites unite (omega arith)

-- past their four words there is no point
pub positions_points : (words : List ℕ) → length words ≡ position_words → points_in words ≡ positions_in words
unfolding points_at words_at value_of
positions_points words long =
    let none : get_or words 4 0 ≡ 0 = get_or-eq_default words 0 (omega arith) in
    rw none

pub led_positions : (last first : List ℕ) {follow after : List ℕ}
    → length first ≡ position_words
    → Led last first follow after
    → Rows point_words follow after (Leads (positions_in last) (positions_in first))
led_positions last first long led = rw (positions_points first long) at led

-- a part of one position
pub lone_told : {r : Part} (n : ℕ)
    → r.count ≡ capped (n + 1)
    → r.empty ≡ false
    → Only n r.first
    → Only n r.last
    → (c : Class)
    → Told n (one c) r
unfolding size
lone_told n count empty first last c =
    record {
      count = count;
      empty = rw empty null_of_one;
      first = λ h. exactly_alike (λ k. (first_of_one.1, first_of_one.0)) (first (omega arith));
      last = λ h. exactly_alike (λ k. (last_of_one.1, last_of_one.0)) (last (omega arith));
    }
