-- No statement of the crate allows a second outcome: the table and the first conflict of a grammar.
use mathlib.Core.Path.{◌≡◌, refl, sym, ap, ◌∙◌, subst}
use mathlib.Core.Bool.{Bool, true, false}
use mathlib.Core.Logic.{◌⊎◌, inl, inr}
use mathlib.Core.List.{List}
use mathlib.Core.Option.{Option, some, none, none-ne-some}
use Prim.Native.Nat.{ℕ, ◌≤◌, ◌<◌}
use native.Mathlib.Decide.{dec_lt}
use native.Mathlib.Omega.{arith}
use borrow.Author.Tests.{eqb-true}
use lib.Dec.{eqb}
use lib.ListN.{get_or}
use lib.Seq.{ext_get_or}
use Rattle.grammar.specs.Grammar.{Grammar, Column, Cell, only, vacant}
use Rattle.table.specs.Table.{size, row_at, column_at, held, TableOf, FirstConflict}

module _ {g : Grammar} where
  pub cell_unique : {A : ℕ} {c : Column} {o o' : Option ℕ} → Cell g A c o → Cell g A c o' → o ≡ o'
  cell_unique (only {p = p} k one) (only {p = q} l other) = ap some (other p k)
  cell_unique (only {p = p} k one) (vacant none_claims) = absurd (none_claims p k)
  cell_unique (vacant none_claims) (only {p = q} l other) = absurd (none_claims q l)
  cell_unique (vacant n) (vacant m) = refl

-- a cell is determined by what it holds
pub held_unique : (x y : ℕ) → held x ≡ held y → x ≡ y
unfolding held
held_unique x y e = go (eqb x 255) (eqb y 255) refl refl e
  where
    keep : Bool → ℕ → Option ℕ
    keep b x = elim b [ true ↦ none | false ↦ some x ]

    go : (b d : Bool) → eqb x 255 ≡ b → eqb y 255 ≡ d → keep b x ≡ keep d y → x ≡ y
    go true true p q e = eqb-true x 255 p ∙ sym (eqb-true y 255 q)
    go true false p q e = absurd (none-ne-some y e)
    go false true p q e = absurd (none-ne-some x (sym e))
    go false false p q e = cc

module _ {g : Grammar} where
  pub table_unique : (xs ys : List ℕ) → TableOf g xs → TableOf g ys → xs ≡ ys
  table_unique xs ys s t =
      ext_get_or 255 xs ys (s.sized ∙ sym t.sized)
      (λ i h. let inside : i < size g = omega (arith, s.sized) in held_unique (get_or xs i 255) (get_or ys i 255) (cell_unique (s.cells i inside) (t.cells i inside)))

  -- two claimants of one cell leave no table
  pub conflict_no_table : {i p q : ℕ} {cells : List ℕ} → FirstConflict g i p q → TableOf g cells → ⊥
  conflict_no_table {i} {p} {q} k t = go (t.cells i k.inside)
    where
      go : {o : Option ℕ} → Cell g (row_at g i) (column_at g i) o → ⊥
      go (only c one) = omega (arith, one p k.lowest, one q k.next, k.order)
      go (vacant n) = n p k.lowest

  lower_claim : {i p q r s : ℕ} → FirstConflict g i p q → FirstConflict g i r s → (p ≡ r) × (q ≡ s)
  lower_claim {i} {p} {q} {r} {s} k l = go (k.others r l.lowest) (l.others p k.lowest) (k.others s l.next) (l.others q k.next)
    where
      go : (r ≡ p) ⊎ (q ≤ r) → (p ≡ r) ⊎ (s ≤ p) → (s ≡ p) ⊎ (q ≤ s) → (q ≡ r) ⊎ (s ≤ q) → (p ≡ r) × (q ≡ s)
      go (inl a) b (inl c) d = absurd (omega (arith, k.order, l.order))
      go (inl a) b (inr c) (inl d) = absurd (omega (arith, k.order, l.order))
      go (inl a) b (inr c) (inr d) = omega arith
      go (inr a) (inl b) c d = absurd (omega (arith, k.order, l.order))
      go (inr a) (inr b) c d = absurd (omega (arith, k.order, l.order))

  -- the first conflict and its two lowest claimants are determined
  pub first_conflict_unique : {i j p q r s : ℕ} → FirstConflict g i p q → FirstConflict g j r s → (i ≡ j) × (p ≡ r) × (q ≡ s)
  first_conflict_unique {i} {j} {p} {q} {r} {s} k l = go (dec_lt i j) (dec_lt j i)
    where
      go : Dec (i < j) → Dec (j < i) → (i ≡ j) × (p ≡ r) × (q ≡ s)
      go (yes h) m = absurd (omega (arith, l.earlier i h p q k.lowest k.next, k.order))
      go (no n) (yes h) = absurd (omega (arith, k.earlier j h r s l.lowest l.next, l.order))
      go (no n) (no m) =
          let same : j ≡ i = omega arith in
          let (p_same, q_same) = lower_claim k (subst (λ (c : ℕ). FirstConflict g c r s) same l) in
          (sym same, p_same, q_same)
