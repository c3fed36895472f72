-- What stands at which place of a list, and which cells are of which row: laws that know nothing of states.
use mathlib.Core.Path.{◌≡◌, refl, ap}
use mathlib.Core.Logic.{◌⊎◌, inl, inr}
use mathlib.Core.List.{List, [], ◌∷◌, ◌++◌}
use mathlib.Core.Option.{some, none-ne-some, some-injective}
use Prim.Native.Nat.{ℕ, zero, suc, ◌*◌, ◌/◌, ◌≤◌, ◌<◌}
use native.Mathlib.Decide.{dec_le}
use native.Mathlib.Nat.{mul_comm, div-lt_iff_lt-mul, le-div_iff_mul-le, mul-div-le, zero-mul, div-zero}
use native.Mathlib.Omega.{arith}
use lib.ListN.{length, get_elem?, take}

module _ {A : Type 0} where
  -- below the length of a list there is an element
  pub element : (xs : List A) (i : ℕ) → i < length xs → (x : A) × (get_elem? xs i ≡ some x)
  element [] i h = absurd (omega arith)
  element (x ∷ xs) zero h = (x, refl)
  element (x ∷ xs) (suc i) h = element xs i (omega arith)

  pub inside : (xs : List A) (i : ℕ) {x : A} → get_elem? xs i ≡ some x → i < length xs
  inside [] i {x} e = absurd (none-ne-some x e)
  inside (x ∷ xs) zero e = omega arith
  inside (x ∷ xs) (suc i) e = omega (arith, inside xs i e)

  pub at_append : (xs ys : List A) (i : ℕ) {x : A} → get_elem? xs i ≡ some x → get_elem? (xs ++ ys) i ≡ some x
  at_append [] ys i {x} e = absurd (none-ne-some x e)
  at_append (x ∷ xs) ys zero e = e
  at_append (x ∷ xs) ys (suc i) e = at_append xs ys i e

  pub at_last : (xs : List A) (x : A) → get_elem? (xs ++ (x ∷ [])) (length xs) ≡ some x
  at_last [] x = refl
  at_last (y ∷ xs) x = at_last xs x

  -- with one element more, a place is one of before or the last
  pub at_cases : (xs : List A) (x : A) (i : ℕ) {y : A}
      → get_elem? (xs ++ (x ∷ [])) i ≡ some y
      → (get_elem? xs i ≡ some y) ⊎ ((i ≡ length xs) × (x ≡ y))
  at_cases [] x zero {y} e = inr (refl, some-injective x y e)
  at_cases [] x (suc i) {y} e = absurd (none-ne-some y e)
  at_cases (z ∷ xs) x zero e = inl e
  at_cases (z ∷ xs) x (suc i) e = go (at_cases xs x i e)
    where
      go : {y : A} → (get_elem? xs i ≡ some y) ⊎ ((i ≡ length xs) × (x ≡ y)) → (get_elem? xs i ≡ some y) ⊎ ((suc i ≡ suc (length xs)) × (x ≡ y))
      go (inl k) = inl k
      go (inr k) = inr (ap suc k.0, k.1)

  -- a list whose elements stand in another at their places begins it
  pub begins_take : (xs ys : List A) → ((i : ℕ) (x : A) → get_elem? xs i ≡ some x → get_elem? ys i ≡ some x) → xs ≡ take (length xs) ys
  begins_take [] [] h = refl
  begins_take [] (y ∷ ys) h = refl
  begins_take (x ∷ xs) [] h = absurd (none-ne-some x (h zero x refl))
  begins_take (x ∷ xs) (y ∷ ys) h =
      let heads : y ≡ x = some-injective y x (h zero x refl) in
      let tails : xs ≡ take (length xs) ys = begins_take xs ys (λ i z e. h (suc i) z e) in
      cc

module _ (columns : ℕ) where
  -- with a cell there are columns
  pub some_column : (t n : ℕ) → t < columns * n → 0 < columns
  some_column t n h = go (dec_le 1 columns)
    where
      go : Dec (1 ≤ columns) → 0 < columns
      go (yes k) = k
      go (no k) =
          let nothing : columns ≡ 0 = omega arith in
          absurd (omega (arith, ap (λ (c : ℕ). c * n) nothing, zero-mul n))

  -- a cell of n rows is of a row below n
  pub row_inside : (t n : ℕ) → t < columns * n → t / columns < n
  row_inside t n h = (div-lt_iff_lt-mul (some_column t n h)).1 (omega (arith, mul_comm columns n))

  -- a cell of a row below n is a cell of n rows
  pub row_cell : (t n : ℕ) → 0 < columns → t / columns < n → t < columns * n
  row_cell t n h k = omega (arith, (div-lt_iff_lt-mul h).0 k, mul_comm columns n)

  -- of two cells the later has no lower row
  pub row_rises : (s t : ℕ) → s ≤ t → s / columns ≤ t / columns
  row_rises s t h = go (dec_le 1 columns)
    where
      go : Dec (1 ≤ columns) → s / columns ≤ t / columns
      go (yes k) = (le-div_iff_mul-le k).1 (omega (arith, mul-div-le s columns, mul_comm columns (s / columns)))
      go (no k) =
          let nothing : columns ≡ 0 = omega arith in
          omega (arith, ap (λ (c : ℕ). s / c) nothing, div-zero s)

  -- the cell of a lower row is earlier
  pub row_earlier : (s t : ℕ) → s / columns < t / columns → s < t
  row_earlier s t h = go (dec_le (suc s) t)
    where
      go : Dec (s < t) → s < t
      go (yes k) = k
      go (no k) = omega (arith, row_rises t s (omega arith))
