-- Which point stands at a place of a set of points, and what a set holds exactly, point by point.
use mathlib.Core.Path.{◌≡◌, refl, sym, subst, ◌∙◌}
use mathlib.Core.Bool.{true}
use mathlib.Core.Logic.{◌↔◌}
use Prim.Native.Nat.{ℕ, ◌+◌, ◌-◌, ◌^◌, ◌<◌}
use native.Mathlib.Decide.{dec_lt}
use native.Mathlib.Omega.{arith}
use borrow.Author.Tests.{lt-ltb, le-ltb}
use Rattle.sets.specs.Sets.{member, Exactly}
use Rattle.sets.specs.Words.{places}
use Rattle.sets.proofs.Promise.{places_are}
use Rattle.answers.specs.Limits.{most_patterns, most_positions, point_words}
use Rattle.pattern.specs.Positions.{Point, position, end_of}
use Rattle.patterns.specs.Calls.{point_at}
use Rattle.cut.specs.Patterns.{InSet}

pub point_position : (q : ℕ) → q < most_positions → point_at q ≡ position q
unfolding point_at
point_position q h = rw (lt-ltb q most_positions h)

pub point_end : (k : ℕ) → point_at (most_positions + k) ≡ end_of k
unfolding point_at
point_end k =
    let number : most_positions + k - most_positions ≡ k = omega arith in
    rw (le-ltb (most_positions + k) most_positions (omega arith), number)

-- a point stands at one place
pub place_of_position : (q : ℕ) {p : ℕ} → point_at q ≡ position p → q ≡ p
place_of_position q {p} e = go (dec_lt q most_positions)
  where
    go : Dec (q < most_positions) → q ≡ p
    go (yes h) = let same : position q ≡ position p = sym (point_position q h) ∙ e in cc
    go (no h) =
        let k = q - most_positions in
        let there : most_positions + k ≡ q = omega arith in
        let bad : ◌≡◌ {A = ℕ} 0 1 = let other : end_of k ≡ position p = sym (point_end k) ∙ (rw there e) in cc in
        absurd (omega arith)

pub place_of_end : (q : ℕ) {k : ℕ} → point_at q ≡ end_of k → q ≡ most_positions + k
place_of_end q {k} e = go (dec_lt q most_positions)
  where
    go : Dec (q < most_positions) → q ≡ most_positions + k
    go (yes h) =
        let bad : ◌≡◌ {A = ℕ} 0 1 = let other : position q ≡ end_of k = sym (point_position q h) ∙ e in cc in
        absurd (omega arith)
    go (no h) =
        let j = q - most_positions in
        let there : most_positions + j ≡ q = omega arith in
        let same : end_of j ≡ end_of k = sym (point_end j) ∙ (rw there e) in
        let number : j ≡ k = cc in
        omega arith

-- the end of pattern k is in a set exactly if the set has its place
pub in_set_end : (x k : ℕ) → InSet x (end_of k) ↔ (member (most_positions + k) x ≡ true)
in_set_end x k = (
  λ i. rw (place_of_end i.place i.point) at i.there,
  λ m. record { place = most_positions + k; point = point_end k; there = m },
)

-- x holds the points of which S holds
pub record Holds (x : ℕ) (S : Point → Type 0) : Type 0 where
  pub sound : (t : Point) → InSet x t → S t
  pub complete : (t : Point) → S t → InSet x t

-- the points that have a place
pub data HasPlace : Point → Type 0 where
  low_position : {p : ℕ} → p < most_positions → HasPlace (position p)
  low_end : {k : ℕ} → k < most_patterns → HasPlace (end_of k)

pub record PlaceOf (t : Point) : Type 0 where
  pub place : ℕ
  pub point : point_at place ≡ t

pub place_of : {t : Point} → HasPlace t → PlaceOf t
place_of (low_position {p = p} below) = record { place = p; point = point_position p below }
place_of (low_end {k = k} below) = record { place = most_positions + k; point = point_end k }

-- their places are those of sets of points
pub place_below : (q : ℕ) → HasPlace (point_at q) → q < places point_words
place_below q h = go refl h
  where
    go : {t : Point} → point_at q ≡ t → HasPlace t → q < places point_words
    go e (low_position below) = omega (arith, places_are point_words, place_of_position q e)
    go e (low_end below) = omega (arith, places_are point_words, place_of_end q e)

pub exactly_holds : {x w : ℕ} {S : Point → Type 0} → ((t : Point) → S t → HasPlace t)
    → Exactly w x (λ q. S (point_at q))
    → Holds x S
exactly_holds {S = S} have exact =
    record {
      sound = λ t i. subst S i.point (exact.sound i.place i.there);
      complete = λ t s.
          let at = place_of (have t s) in
          record { place = at.place; point = at.point; there = exact.complete at.place (subst S (sym at.point) s) };
    }

-- no two places have the same point
place_unique : (p q : ℕ) → point_at p ≡ point_at q → p ≡ q
place_unique p q e = go (dec_lt q most_positions)
  where
    go : Dec (q < most_positions) → p ≡ q
    go (yes h) = place_of_position p (e ∙ point_position q h)
    go (no h) =
        let k = q - most_positions in
        let there : most_positions + k ≡ q = omega arith in
        let point : point_at q ≡ end_of k = subst (λ (i : ℕ). point_at i ≡ end_of k) there (point_end k) in
        place_of_end p (e ∙ point) ∙ there

pub holds_exactly : {x w : ℕ} {S : Point → Type 0} → x < 2 ^ w → Holds x S → Exactly w x (λ q. S (point_at q))
holds_exactly {x} fits h =
    record {
      fits = fits;
      sound = λ q m. h.sound (point_at q) (record { place = q; point = refl; there = m });
      complete = λ q s.
          let i = h.complete (point_at q) s in
          rw (place_unique i.place q i.point) at i.there;
    }
