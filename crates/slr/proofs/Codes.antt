-- Tests on numbers as equations, and the numbers of actions and moves read back.
use mathlib.Core.Path.{◌≡◌, refl}
use mathlib.Core.Logic.{◌≢◌}
use mathlib.Core.Bool.{Bool, true, false, not}
use mathlib.Core.Option.{some}
use Prim.Native.Nat.{ℕ, ◌+◌, ◌-◌, ◌≤◌, ◌<◌}
use native.Mathlib.Omega.{arith}
use lib.Dec.{T, eqb, leb, ltb, eqb→eq, le→leb, lt→ltb, not_T}
use lib.Arith.{lt→nleb, le→nltb}
use Rattle.slr.specs.Actions.{Action, shift, reduce, accept}
use Rattle.slr.specs.Cells.{code_of, action_of, move_of}

pub is_true : {b : Bool} → T b → b ≡ true
is_true {b} = go b
  where
    go : (b : Bool) → T b → b ≡ true
    go true t = refl
    go false t = absurd t

pub is_false : {b : Bool} → T (not b) → b ≡ false
is_false {b} = go b
  where
    go : (b : Bool) → T (not b) → b ≡ false
    go true t = absurd t
    go false t = refl

pub below_true : {m n : ℕ} → m < n → ltb m n ≡ true
below_true {m} {n} h = is_true (lt→ltb m n h)

pub below_false : {m n : ℕ} → n ≤ m → ltb m n ≡ false
below_false {m} {n} h = is_false (le→nltb m n h)

equal_false : {m n : ℕ} → m ≢ n → eqb m n ≡ false
equal_false {m} {n} h = is_false (not_T (eqb m n) (λ t. h (eqb→eq m n t)))

-- numbers that mean one action only
pub data Coded : Action → Type 0 where
  coded_shift : {j : ℕ} → j < 512 → Coded (shift j)
  coded_reduce : {p : ℕ} → p < 511 → Coded (reduce p)
  coded_accept : Coded accept

pub code_action : {a : Action} → Coded a → action_of (code_of a) ≡ some a
unfolding action_of code_of
code_action (coded_shift {j = j} h) =
    let filled : eqb j 65535 ≡ false = equal_false (λ (e : j ≡ 65535). omega arith) in
    let other : eqb j 1023 ≡ false = equal_false (λ (e : j ≡ 1023). omega arith) in
    rw (filled, other, is_false {b = leb 512 j} (lt→nleb 512 j h), action_of)
code_action (coded_reduce {p = p} h) =
    let filled : eqb (512 + p) 65535 ≡ false = equal_false (λ (e : 512 + p ≡ 65535). omega arith) in
    let other : eqb (512 + p) 1023 ≡ false = equal_false (λ (e : 512 + p ≡ 1023). omega arith) in
    let from : 512 ≤ 512 + p = omega arith in
    let less : 512 + p - 512 ≡ p = omega arith in
    rw (filled, other, is_true {b = leb 512 (512 + p)} (le→leb 512 (512 + p) from), less, action_of)
code_action coded_accept = refl

pub code_move : {j : ℕ} → j < 512 → move_of j ≡ some j
unfolding move_of
code_move {j} h = rw (equal_false {m = j} {n = 65535} (omega arith), move_of)
