-- What comes next: the first of what is left, or the end.
use Rattle.std.specs.Prelude.{Option, Some, None, MatchOption, HoldsAt, option_copied}
use denote.Bor.{Bor}
use mathlib.Core.Path.{◌≡◌, refl}
use mathlib.Core.List.{List, [], ◌∷◌}
use Prim.Native.Nat.{ℕ, ◌≤◌, ◌<◌}
use native.Mathlib.Omega.{arith}
use lib.ListN.{length, drop, drop_of_length-le}
use lib.Seq.{drop-cons}
use Rattle.stack.specs.Ahead.{ahead_in}

-- what a lookup lends is the first of what is left, or none
pub ahead_lent : (bytes : List ℕ) (i : ℕ) (lent : Option (Bor ℕ))
    → MatchOption lent (length bytes ≤ i) (λ x. (i < length bytes) × HoldsAt (λ y. x.now ≡ y) bytes i)
    → option_copied lent ≡ ahead_in (drop i bytes)
unfolding ahead_in
ahead_lent bytes i None h = rw (drop_of_length-le bytes h)
ahead_lent bytes i (Some x) (h, at) = rw (at 0, drop-cons bytes i 0 h)

-- where a byte comes next it is the first of what is left, and at the end nothing is left
pub next_first : {a : Option ℕ} {p : ℕ} (rest : List ℕ) → a ≡ ahead_in rest → a ≡ Some p → (v : List ℕ) × (rest ≡ p ∷ v)
unfolding ahead_in
next_first [] e f = let bad : ◌≡◌ {A = ℕ} 0 1 = cc in absurd (omega arith)
next_first (q ∷ rest) e f = (rest, (cc))

pub end_none : {a : Option ℕ} (rest : List ℕ) → a ≡ ahead_in rest → a ≡ None → rest ≡ []
unfolding ahead_in
end_none [] e f = refl
end_none (q ∷ rest) e f = let bad : ◌≡◌ {A = ℕ} 0 1 = cc in absurd (omega arith)
