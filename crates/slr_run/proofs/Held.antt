-- The states in the first cells of the stack: reading, popping and pushing.
use mathlib.Core.Path.{◌≡◌, refl, ◌∙◌, ap}
use mathlib.Core.List.{List, [], ◌∷◌}
use Prim.Native.Nat.{ℕ, zero, suc, ◌-◌, ◌≤◌}
use native.Mathlib.Nat.{sub-zero}
use native.Mathlib.Omega.{arith}
use lib.ListN.{length, get_or, drop, set}
use lib.Seq.{get_or-set_other}
use Rattle.slr_run.specs.Stages.{held_by}

pub length_held : (stack : List ℕ) (height : ℕ) → length (held_by stack height) ≡ height
unfolding held_by
length_held stack zero = refl
length_held stack (suc h) = ap suc (length_held stack h)

pub held_none : (stack : List ℕ) {height : ℕ} → height ≡ 0 → held_by stack height ≡ []
unfolding held_by
held_none stack e = rw e

pub held_more : (stack : List ℕ) {height : ℕ} (below : ℕ)
    → height ≡ suc below
    → held_by stack height ≡ get_or stack below 0 ∷ held_by stack below
unfolding held_by
held_more stack below e = rw e

-- the state on top apart
pub held_top : (stack : List ℕ) (height : ℕ) {top : ℕ}
    → 1 ≤ height
    → top ≡ get_or stack (height - 1) 0
    → top ∷ held_by stack (height - 1) ≡ held_by stack height
unfolding held_by
held_top stack zero h e = absurd (omega arith)
held_top stack (suc below) h e = let one : suc below - 1 ≡ below = omega arith in rw (e, one)

-- so many are popped
pub drop_held : (stack : List ℕ) (n height : ℕ) → drop n (held_by stack height) ≡ held_by stack (height - n)
unfolding held_by
drop_held stack zero height = rw (sub-zero height)
drop_held stack (suc n) zero = let none : zero - suc n ≡ zero = omega arith in rw none
drop_held stack (suc n) (suc h) = let less : suc h - suc n ≡ h - n = omega arith in drop_held stack n h ∙ rw less

-- a cell above is written
pub held_set : (stack : List ℕ) (i x height : ℕ) → height ≤ i → held_by (set stack i x) height ≡ held_by stack height
unfolding held_by
held_set stack i x zero h = refl
held_set stack i x (suc below) h =
    rw (get_or-set_other stack i below x 0 (λ e. omega arith), held_set stack i x below (omega arith))
