-- Positions of a list of patterns: each lies in one pattern only, and every point is of the list.
use mathlib.Core.Path.{◌≡◌, sym, ◌∙◌, ap, subst}
use mathlib.Core.List.{List, [], ◌∷◌}
use mathlib.Core.Option.{some}
use Prim.Native.Nat.{ℕ, zero, suc, ◌+◌, ◌≤◌, ◌<◌}
use native.Mathlib.Decide.{dec_lt}
use native.Mathlib.Omega.{arith}
use lib.ListN.{get_elem?, length, take}
use lib.Seq.{take-length}
use Rattle.pattern.specs.Pattern.{Expression}
use Rattle.pattern.specs.Positions.{size, positions, Point, position, end_of, Placed, Start, start_position, start_end, Onward, onward_position, onward_end, ReadsIn, reads_in}
use Rattle.pattern.proofs.PositionBounds.{PositionOf, first_inside, last_inside, follow_inside, follower_inside, reads_inside}

-- the positions of pattern k come before those of each later pattern
numbers_rise : (rs : List Expression) (k j : ℕ) {x : Expression}
    → get_elem? rs k ≡ some x
    → k < j
    → positions (take k rs) + size x ≤ positions (take j rs)
unfolding positions
numbers_rise [] k j e h = let bad : ◌≡◌ {A = ℕ} 0 1 = cc in absurd (omega arith)
numbers_rise (y ∷ rs) zero zero e h = absurd (omega arith)
numbers_rise (y ∷ rs) zero (suc j) {x} e h = let same : y ≡ x = cc in omega (arith, ap size same)
numbers_rise (y ∷ rs) (suc k) zero e h = absurd (omega arith)
numbers_rise (y ∷ rs) (suc k) (suc j) e h = omega (arith, numbers_rise rs k j e (omega arith))

-- a pattern's number is below the list's length
pub below_length : (rs : List Expression) (k : ℕ) {x : Expression} → get_elem? rs k ≡ some x → k < length rs
below_length [] k e = let bad : ◌≡◌ {A = ℕ} 0 1 = cc in absurd (omega arith)
below_length (y ∷ rs) zero e = omega arith
below_length (y ∷ rs) (suc k) e = omega (arith, below_length rs k e)

-- a position below the count of all, or the end of a pattern of the list
abbrev pub PointOf : List Expression → Point → Type 0
PointOf rs (position p) = p < positions rs
PointOf rs (end_of k) = k < length rs

module _ {rs : List Expression} where
  -- a position lies in one pattern only
  same_pattern : {k j n m p : ℕ} {x y : Expression}
      → Placed rs k n x
      → Placed rs j m y
      → PositionOf n x p
      → PositionOf m y p
      → k ≡ j
  same_pattern {k} {j} a b i h = go (dec_lt k j) (dec_lt j k)
    where
      go : Dec (k < j) → Dec (j < k) → k ≡ j
      go (yes l) d = absurd (omega (arith, numbers_rise rs k j a.at l))
      go (no l) (yes g) = absurd (omega (arith, numbers_rise rs j k b.at g))
      go (no l) (no g) = omega arith

  placed_same : {k n m : ℕ} {x y : Expression} → Placed rs k n x → Placed rs k m y → (m ≡ n) × (y ≡ x)
  placed_same a b = (b.from ∙ sym a.from, cc)

  -- what holds of a position in one pattern holds of it in whichever pattern has it
  pub placed_moves : (P : ℕ → Expression → Type 0) {k j n m p : ℕ} {x y : Expression}
      → Placed rs k n x
      → PositionOf n x p
      → Placed rs j m y
      → PositionOf m y p
      → P m y
      → P n x
  placed_moves P {k} {j} {n} {m} {p} {x} {y} a i b h d =
      let e : j ≡ k = same_pattern b a h i in
      let there : Placed rs k m y = subst (λ (s : ℕ). Placed rs s m y) e b in
      let (f, g) = placed_same a there in
      subst (λ (z : Expression). P n z) g (subst (λ (s : ℕ). P s y) f d)

  below_positions : {k n p : ℕ} {x : Expression} → Placed rs k n x → PositionOf n x p → p < positions rs
  below_positions {k} a i =
      let inside : k < length rs = below_length rs k a.at in
      omega (arith, numbers_rise rs k (length rs) a.at inside, ap positions (take-length rs))

  pub start_point_of : {t : Point} → Start rs t → PointOf rs t
  start_point_of (start_position a f) = below_positions a (first_inside f)
  start_point_of (start_end {k = k} a z) = below_length rs k a.at

  pub onward_point_of : {p : ℕ} {t : Point} → Onward rs p t → PointOf rs t
  onward_point_of (onward_position a f) = below_positions a (follower_inside f)
  onward_point_of (onward_end {k = k} a l) = below_length rs k a.at

  -- only positions of the list lead on
  pub onward_below : {p : ℕ} {t : Point} → Onward rs p t → p < positions rs
  onward_below (onward_position a f) = below_positions a (follow_inside f)
  onward_below (onward_end a l) = below_positions a (last_inside l)

  -- and only they read
  pub reads_in_below : {p b : ℕ} → ReadsIn rs p b → p < positions rs
  reads_in_below (reads_in a r) = below_positions a (reads_inside r)
