-- The points that can come first, or after a set by a byte, make a set of points or there are none: it can be decided.
use mathlib.Core.Path.{◌≡◌, sym, subst, ◌∙◌}
use mathlib.Core.Bool.{true, false≢true}
use mathlib.Core.List.{List}
use Prim.Native.Nat.{ℕ, ◌≤◌, ◌<◌}
use native.Mathlib.Decide.{ℕ_discrete}
use native.Mathlib.Omega.{arith}
use lib.ListN.{length}
use Rattle.sets.specs.Sets.{member, Exactly}
use Rattle.sets.specs.Words.{places}
use Rattle.sets.proofs.Promise.{member_none, exactly_none, exactly_unique, fits_members}
use Rattle.answers.specs.Limits.{most_patterns, most_positions, point_words}
use Rattle.numbering.specs.Numbering.{Decided}
use Rattle.pattern.specs.Pattern.{Expression}
use Rattle.pattern.specs.Positions.{positions, Point, position, end_of, Start, Moved, moved, ReadsIn, Onward}
use Rattle.pattern.proofs.Promise.{start_position_below, start_end_below, onward_position_below, onward_end_below, reads_below}
use Rattle.patterns.specs.Calls.{point_at}
use Rattle.cut.specs.Patterns.{InSet, SomePoints, point_states}
use Rattle.cut.proofs.Pointing.{HasPlace, low_position, low_end, PlaceOf, place_of, place_below, point_position, place_of_position}
use Rattle.cut.proofs.Deciding.{as_decided, both_decided, true_decided, below_decided, start_decided, onward_decided, reads_in_decided, set_of_lem}

module _ {S : Point → Type 0} (decide : (t : Point) → Dec (S t)) (have : (t : Point) → S t → HasPlace t) where
  points_set : (x : ℕ) × Exactly (places point_words) x (λ q. S (point_at q))
  points_set = set_of_lem (places point_words) (λ q. decide (point_at q)) (λ q p. place_below q (have (point_at q) p))

  -- there is a set of them, or none of them
  pub points_decided : Dec ((x : ℕ) × SomePoints S x)
  points_decided = go points_set
    where
      judged : (x : ℕ) → Exactly (places point_words) x (λ q. S (point_at q)) → Dec (x ≡ 0) → Dec ((x : ℕ) × SomePoints S x)
      judged x exact (yes empty) = no (λ (y, some). some.nonempty (exactly_unique y x some.exact exact ∙ empty))
      judged x exact (no full) = yes (x, record { exact = exact; nonempty = full })

      go : (x : ℕ) × Exactly (places point_words) x (λ q. S (point_at q)) → Dec ((x : ℕ) × SomePoints S x)
      go (x, exact) = judged x exact (ℕ_discrete x 0)

  -- where there is a point there is a set
  pub points_some : (t : Point) → S t → (x : ℕ) × SomePoints S x
  points_some t s =
      let (x, exact) = points_set in
      (x, record { exact = exact; nonempty = λ empty. some_member x exact empty (place_of (have t s)) })
    where
      some_member : (x : ℕ) → Exactly (places point_words) x (λ q. S (point_at q)) → x ≡ 0 → PlaceOf t → ⊥
      some_member x exact empty at =
          let there : member at.place x ≡ true = exact.complete at.place (subst S (sym at.point) s) in
          false≢true (sym (member_none at.place) ∙ rw empty at there)

-- and where there is a set there is a point
pub some_point : {S : Point → Type 0} {x : ℕ} → SomePoints S x → (t : Point) × S t
some_point {S} {x} some = go (below_decided (places point_words) (λ q. true_decided (member q x)))
  where
    go : Dec ((q : ℕ) × (q < places point_words) × (member q x ≡ true)) → (t : Point) × S t
    go (yes (q, below, there)) = (point_at q, some.exact.sound q there)
    go (no empty) =
        let fits = some.exact.fits in
        let itself : Exactly (places point_words) x (λ q. member q x ≡ true) =
        record { fits = fits; sound = λ q m. m; complete = λ q m. m } in
        absurd (some.nonempty (exactly_unique x 0 itself
        (exactly_none (places point_words) (λ q m. empty (q, fits_members (places point_words) q x fits m, m)))))

-- at most as many patterns and positions as there are places for
module _ {rs : List Expression} (few : length rs ≤ most_patterns) (fit : positions rs ≤ most_positions) where
  pub start_place : (t : Point) → Start rs t → HasPlace t
  start_place (position p) s = low_position {p = p} (omega (arith, start_position_below s))
  start_place (end_of k) s = low_end {k = k} (omega (arith, start_end_below s))

  pub moved_place : {S : Point → Type 0} {b : ℕ} (t : Point) → Moved rs S b t → HasPlace t
  moved_place (position q) (moved s r o) = low_position {p = q} (omega (arith, onward_position_below o))
  moved_place (end_of k) (moved s r o) = low_end {k = k} (omega (arith, onward_end_below o))

  pub moved_decided : (x b : ℕ) (t : Point) → Dec (Moved rs (InSet x) b t)
  moved_decided x b t =
      as_decided (to, from)
      (below_decided most_positions (λ p.
      both_decided (true_decided (member p x)) (both_decided (reads_in_decided rs p b) (onward_decided rs p t))))
    where
      to : Moved rs (InSet x) b t
          → (p : ℕ) × (p < most_positions) × ((member p x ≡ true) × (ReadsIn rs p b × Onward rs p t))
      to (moved {p = p} i r o) =
          (p, omega (arith, reads_below r), (rw (place_of_position i.place i.point) at i.there, (r, o)))

      from : ((p : ℕ) × (p < most_positions) × ((member p x ≡ true) × (ReadsIn rs p b × Onward rs p t)))
          → Moved rs (InSet x) b t
      from (p, below, (there, (r, o))) =
          moved {p = p} (record { place = p; point = point_position p below; there = there }) r o

  -- whether there is a start, and whether a byte leads anywhere
  pub states_decided : Decided (point_states rs)
  states_decided =
      record {
        starts = points_decided (start_decided rs) start_place;
        moves = λ x b. points_decided (moved_decided x b) moved_place;
        same = ℕ_discrete;
      }
