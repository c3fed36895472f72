-- Laws of states that the crates above cite: one byte more, equal sets move alike, every point is of the list.
use mathlib.Core.Path.{refl}
use mathlib.Core.Logic.{◌↔◌}
use mathlib.Core.List.{List, [], ◌∷◌, ◌++◌}
use Prim.Native.Nat.{ℕ}
use lib.ListN.{take}
use Rattle.pattern.specs.Pattern.{Expression, Pattern}
use Rattle.pattern.specs.Positions.{positions, Point, position, end_of, Start, start_end, Moved, moved, AfterFrom, After}
use Rattle.pattern.proofs.NullExact.{null_exact}
use Rattle.pattern.proofs.PlacedPatterns.{PointOf, start_point_of, onward_point_of}

module _ (rs : List Expression) where
  append_from : (S : Point → Type 0) (w : List ℕ) (b : ℕ) (t : Point)
      → AfterFrom rs S (w ++ (b ∷ [])) t
      ↔ Moved rs (AfterFrom rs S w) b t
  unfolding AfterFrom
  append_from S [] b t = (λ m. m, λ m. m)
  append_from S (c ∷ w) b t = append_from (Moved rs S c) w b t

  -- once one byte more was read, the points have moved by it
  pub after_append : (w : List ℕ) (b : ℕ) (t : Point) → After rs (w ++ (b ∷ [])) t ↔ Moved rs (After rs w) b t
  after_append w b t = append_from (Start rs) w b t

  -- at first, the points that can come first
  pub after_empty : (t : Point) → After rs [] t ↔ Start rs t
  unfolding AfterFrom
  after_empty t = (λ s. s, λ s. s)

  -- the end of pattern k can come first exactly if pattern k matches the empty string
  pub start_null : (k : ℕ) → Start rs (end_of k) ↔ Pattern rs k []
  start_null k = (to, from)
    where
      to : Start rs (end_of k) → Pattern rs k []
      to (start_end {x = x} a z) = record { meaning = x; at = a.at; matches = null_exact.0 z }

      from : Pattern rs k [] → Start rs (end_of k)
      from m = start_end {n = positions (take k rs)} (record { at = m.at; from = refl }) (null_exact.1 m.matches)

  point_of_from : (S : Point → Type 0)
      → ((t : Point) → S t → PointOf rs t)
      → (w : List ℕ) (t : Point)
      → AfterFrom rs S w t
      → PointOf rs t
  unfolding AfterFrom
  point_of_from S point_of [] t s = point_of t s
  point_of_from S point_of (b ∷ w) t s = point_of_from (Moved rs S b) step w t s
    where
      step : (t : Point) → Moved rs S b t → PointOf rs t
      step t (moved h r o) = onward_point_of o

  -- every point that can come next is of the list
  pub after_point_of : (w : List ℕ) (t : Point) → After rs w t → PointOf rs t
  after_point_of w t s = point_of_from (Start rs) (λ r h. start_point_of h) w t s

module _ {rs : List Expression} where
  moved_within : {S R : Point → Type 0} {b : ℕ} {t : Point}
      → ((s : Point) → S s → R s)
      → Moved rs S b t
      → Moved rs R b t
  moved_within within (moved {p = p} s r o) = moved (within (position p) s) r o

  -- sets of the same points move to the same points
  pub moved_same : {S R : Point → Type 0} {b : ℕ} {t : Point}
      → ((s : Point) → S s ↔ R s)
      → Moved rs S b t ↔ Moved rs R b t
  moved_same same = (moved_within (λ s. (same s).0), moved_within (λ s. (same s).1))
