-- Which point stands at a place of a set of points, and what one pattern more adds to the rows of the tables.
use mathlib.Core.Path.{◌≡◌, refl, sym, subst}
use mathlib.Core.Logic.{◌↔◌, ◌⊎◌, inl, inr, ⊎_elim}
use mathlib.Core.List.{List, [], ◌∷◌, ◌++◌}
use Prim.Native.Nat.{ℕ, ◌+◌, ◌-◌, ◌≤◌, ◌<◌}
use native.Mathlib.Decide.{dec_lt}
use native.Mathlib.Omega.{arith}
use lib.ListN.{length}
use borrow.Author.Tests.{lt-ltb, le-ltb}
use Rattle.answers.specs.Limits.{most_positions}
use Rattle.sets.specs.Sets.{Exactly}
use Rattle.pattern.specs.Pattern.{Expression}
use Rattle.pattern.specs.Positions.{size, Null, FirstPosition, LastPosition, FollowPosition, positions, Point}
use Rattle.pattern.specs.Positions.{position, end_of, Start, Onward}
use Rattle.pattern.proofs.Promise.{first_inside, last_inside, follow_inside, follower_inside, start_position_more}
use Rattle.pattern.proofs.Promise.{start_end_more, onward_position_more, onward_end_more}
use Rattle.patterns.specs.Calls.{point_at}
use Rattle.patterns.specs.Gathering.{Finishes, ends, starts, NextIn, after_position, at_the_start}

pub point_position : (q : ℕ) → q < most_positions → point_at q ≡ position q
unfolding point_at
point_position q h = rw (lt-ltb q most_positions h)

pub point_end : (q : ℕ) → most_positions ≤ q → point_at q ≡ end_of (q - most_positions)
unfolding point_at
point_end q h = rw (le-ltb q most_positions h)

module _ (rs : List Expression) (x : Expression) where
  abbrev more : List Expression
  more = rs ++ (x ∷ [])

  onward_keeps : {p : ℕ} (t : Point) → Onward rs p t → Onward more p t
  onward_keeps (position q) o = (onward_position_more rs x).1 (inl o)
  onward_keeps (end_of k) o = (onward_end_more rs x).1 (inl o)

  start_keeps : (t : Point) → Start rs t → Start more t
  start_keeps (position q) s = (start_position_more rs x).1 (inl s)
  start_keeps (end_of k) s = (start_end_more rs x).1 (inl s)

  module _ {last first : ℕ} {w v : ℕ}
      (few : positions rs + size x ≤ most_positions)
      (full : ¬ Null x)
      (lasts : Exactly w last (LastPosition (positions rs) x))
      (firsts : Exactly v first (FirstPosition (positions rs) x)) where
    abbrev Added : ℕ → ℕ → Type 0
    Added p q = FollowPosition (positions rs) x p q ⊎ Finishes last first (length rs) p q

    new_follow : {p q : ℕ} → FollowPosition (positions rs) x p q → NextIn more p q
    new_follow {p} {q} f =
        after_position {p = p} {q = q} (omega (arith, (follow_inside f).high))
        (rw (point_position q (omega (arith, (follower_inside f).high))) ((onward_position_more rs x).1 (inr f)))

    new_point : {p q : ℕ} → Finishes last first (length rs) p q → NextIn more p q
    new_point (ends {p = p} m) =
        let l : LastPosition (positions rs) x p = lasts.sound p m in
        let number : most_positions + length rs - most_positions ≡ length rs = omega arith in
        after_position {p = p} {q = most_positions + length rs} (omega (arith, (last_inside l).high))
        (rw (point_end (most_positions + length rs) (omega arith), number) ((onward_end_more rs x).1 (inr (refl, l))))
    new_point (starts {q = q} m) =
        let f : FirstPosition (positions rs) x q = firsts.sound q m in
        at_the_start {q = q}
        (rw (point_position q (omega (arith, (first_inside f).high))) ((start_position_more rs x).1 (inr f)))

    old_or_onward : {p : ℕ} (q : ℕ) → p < most_positions → Dec (q < most_positions) → Onward more p (point_at q)
        → NextIn rs p q ⊎ Added p q
    old_or_onward {p} q below (yes h) o =
        ⊎_elim (λ old. inl (after_position below (rw (point_position q h) old))) (λ f. inr (inl f))
        ((onward_position_more rs x).0 (rw (point_position q h) at o))
    old_or_onward {p} q below (no h) o =
        let past : most_positions ≤ q = omega arith in
        ⊎_elim (λ old. inl (after_position below (rw (point_end q past) old)))
        (λ w.
        let there : q ≡ most_positions + length rs = omega (arith, w.0) in
        inr (inr (subst (Finishes last first (length rs) p) (sym there) (ends (lasts.complete p w.1)))))
        ((onward_end_more rs x).0 (rw (point_end q past) at o))

    old_or_start : (q : ℕ) → Dec (q < most_positions) → Start more (point_at q) → NextIn rs most_positions q ⊎ Added most_positions q
    old_or_start q (yes h) s =
        ⊎_elim (λ old. inl (at_the_start (rw (point_position q h) old))) (λ f. inr (inr (starts (firsts.complete q f))))
        ((start_position_more rs x).0 (rw (point_position q h) at s))
    old_or_start q (no h) s =
        let past : most_positions ≤ q = omega arith in
        ⊎_elim (λ old. inl (at_the_start (rw (point_end q past) old))) (λ w. absurd (full w.1))
        ((start_end_more rs x).0 (rw (point_end q past) at s))

    to_more : (p q : ℕ) → NextIn rs p q ⊎ Added p q → NextIn more p q
    to_more p q (inl (after_position below o)) = after_position below (onward_keeps (point_at q) o)
    to_more p q (inl (at_the_start s)) = at_the_start (start_keeps (point_at q) s)
    to_more p q (inr (inl f)) = new_follow f
    to_more p q (inr (inr f)) = new_point f

    from_more : (p q : ℕ) → NextIn more p q → NextIn rs p q ⊎ Added p q
    from_more p q (after_position below o) = old_or_onward q below (dec_lt q most_positions) o
    from_more p q (at_the_start s) = old_or_start q (dec_lt q most_positions) s

    -- what the rows have with one pattern more
    pub next_more : (p q : ℕ) → (NextIn rs p q ⊎ Added p q) ↔ NextIn more p q
    next_more p q = (to_more p q, from_more p q)
