-- Whether a pattern matches the empty string is decided by its parts.
use mathlib.Core.Path.{◌≡◌, refl}
use mathlib.Core.Bool.{Bool, true, false, ◌&&◌, ◌||◌}
use mathlib.Core.List.{[]}
use Prim.Native.Nat.{ℕ}
use native.Mathlib.Omega.{arith}
use Rattle.pattern.specs.Pattern.{Expression, one, cat, alt, plus, opt, Matches}
use Rattle.pattern.specs.Positions.{Null, null_cat, null_left, null_right, null_plus, null_opt}
use Rattle.pattern.proofs.NullExact.{null_exact}

unfoldable pub nullable : Expression → Bool
nullable (one c) = false
nullable (cat x y) = nullable x && nullable y
nullable (alt x y) = nullable x || nullable y
nullable (plus x) = nullable x
nullable (opt x) = true

both_null : {x y : Expression} (t : Bool)
    → t && nullable y ≡ true
    → (t ≡ true → Null x)
    → (nullable y ≡ true → Null y)
    → Null (cat x y)
both_null true e left right = null_cat (left refl) (right e)
both_null false e left right = let bad : ◌≡◌ {A = ℕ} 0 1 = cc in absurd (omega arith)

either_null : {x y : Expression} (t : Bool)
    → t || nullable y ≡ true
    → (t ≡ true → Null x)
    → (nullable y ≡ true → Null y)
    → Null (alt x y)
either_null true e left right = null_left (left refl)
either_null false e left right = null_right (right e)

pub nullable_null : (x : Expression) → nullable x ≡ true → Null x
unfolding nullable
nullable_null (one c) e = let bad : ◌≡◌ {A = ℕ} 0 1 = cc in absurd (omega arith)
nullable_null (cat x y) e = both_null (nullable x) e (nullable_null x) (nullable_null y)
nullable_null (alt x y) e = either_null (nullable x) e (nullable_null x) (nullable_null y)
nullable_null (plus x) e = null_plus (nullable_null x e)
nullable_null (opt x) e = null_opt

or_true : (t : Bool) → t || true ≡ true
or_true true = refl
or_true false = refl

pub null_nullable : {x : Expression} → Null x → nullable x ≡ true
unfolding nullable
null_nullable (null_cat a b) = rw (null_nullable a) (null_nullable b)
null_nullable (null_left a) = rw (null_nullable a)
null_nullable (null_right {x = x} b) = rw (null_nullable b) (or_true (nullable x))
null_nullable (null_plus a) = null_nullable a
null_nullable null_opt = refl

-- the decision is that of matching the empty string
pub null_matches : (x : Expression) → nullable x ≡ true → Matches x []
null_matches x e = null_exact.0 (nullable_null x e)

pub matches_null : {x : Expression} → Matches x [] → nullable x ≡ true
matches_null m = null_nullable (null_exact.1 m)
