-- What the end of a good pattern and its first positions add to the rows.
use mathlib.Core.Path.{◌≡◌, refl, sym, subst}
use mathlib.Core.Logic.{◌⊎◌, inl, inr, ⊎_elim}
use mathlib.Core.Bool.{true}
use mathlib.Core.List.{List, [], ◌∷◌}
use Prim.Native.Nat.{ℕ, ◌+◌, ◌*◌, ◌<◌}
use native.Mathlib.Omega.{arith}
use lib.ListN.{length}
use Rattle.answers.specs.Limits.{most_patterns, most_positions, position_words, point_words}
use Rattle.sets.specs.Sets.{member, Exactly}
use Rattle.sets.specs.Words.{places, value_of}
use Rattle.sets.proofs.Promise.{places_are, exactly_none, exactly_alike}
use Rattle.points.specs.Points.{words_at, points_at, Put, Unite}
use Rattle.points.proofs.Promise.{put_exactly}
use Rattle.parts.specs.Rows.{Rows}
use Rattle.parts.specs.Parts.{positions_in}
use Rattle.parts.specs.Leading.{points_in, Leads, Led}
use Rattle.parts.proofs.Promise.{rows_then, rows_alike, rows_unite, positions_points}
use Rattle.patterns.specs.Gathering.{Finishes, ends, starts}

abbrev no_points : List ℕ
no_points = 0 ∷ 0 ∷ 0 ∷ 0 ∷ 0 ∷ []

none_there : points_in no_points ≡ 0
unfolding points_at words_at value_of
none_there = refl

module _ {number : ℕ} {end : List ℕ}
    (few : number < most_patterns)
    (put : Put no_points 0 point_words (most_positions + number) end) where
  -- the set with the end of the pattern alone
  only_end : Exactly (places point_words) (points_in end) (λ (k : ℕ). k ≡ most_positions + number)
  only_end =
      exactly_alike (λ k. (⊎_elim absurd (λ e. e), inr))
      (put_exactly put (omega arith) (omega (arith, places_are point_words))
      (rw none_there (exactly_none (places point_words) (λ k none. none))))

  module _ (last first : List ℕ) (long : length first ≡ position_words) where
    abbrev Adds : ℕ → ℕ → Type 0
    Adds p q =
        Leads (positions_in last) (points_in end) p q
        ⊎ ((p ≡ most_positions) × (member q (points_in first) ≡ true))

    abbrev Claims : ℕ → ℕ → Type 0
    Claims = Finishes (positions_in last) (positions_in first) number

    adds_claims : (p q : ℕ) → Adds p q → Claims p q
    adds_claims p q (inl leads) = subst (Claims p) (sym (only_end.sound q leads.to)) (ends leads.from)
    adds_claims p q (inr (e, m)) =
        subst (λ (i : ℕ). Claims i q) (sym e) (starts (rw (positions_points first long) at m))

    claims_adds : (p q : ℕ) → Claims p q → Adds p q
    claims_adds p q (ends m) =
        inl (record { from = m; to = only_end.complete (most_positions + number) refl })
    claims_adds p q (starts m) = inr (refl, rw (positions_points first long) m)

    pub finished : {follow between after : List ℕ}
        → Led last end follow between
        → Unite between (most_positions * point_words) point_words first 0 after
        → Rows point_words follow after Claims
    finished led unite =
        rows_alike (λ p q. (adds_claims p q, claims_adds p q))
        (rows_then led (rows_unite most_positions unite))
