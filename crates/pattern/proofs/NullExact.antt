-- Repetition and the empty string: `star` once unrolled, and `Null` as matching the empty string.
use mathlib.Core.Path.{◌≡◌, refl, sym, subst}
use mathlib.Core.Logic.{◌↔◌, ◌⊎◌, inl, inr}
use mathlib.Core.List.{List, [], ◌∷◌, ◌++◌, append-nil}
use Prim.Native.Nat.{ℕ}
use native.Mathlib.Omega.{arith}
use Rattle.pattern.specs.Pattern.{Expression, star, Matches, byte, in_turn, either_left, either_right, once, again, nothing, itself}
use Rattle.pattern.specs.Positions.{Null, null_cat, null_left, null_right, null_plus, null_opt}

-- the string u is nothing, or a match of x followed by one of `star x`
abbrev pub NoneOrMore : Expression → List ℕ → Type 0
NoneOrMore x u = (u ≡ []) ⊎ ((v : List ℕ) × (w : List ℕ) × (u ≡ v ++ w) × Matches x v × Matches (star x) w)

star_cases : {x : Expression} {u : List ℕ} → Matches (star x) u → NoneOrMore x u
star_cases nothing = inl refl
star_cases (itself (once {u = u} m)) = inr (u, [], sym (append-nil u), m, nothing)
star_cases (itself (again {u = u} {v = v} m l)) = inr (u, v, refl, m, itself l)

star_before : {x : Expression} {v w : List ℕ} → Matches x v → Matches (star x) w → Matches (star x) (v ++ w)
star_before {v = v} m nothing = rw (append-nil v) (itself (once m))
star_before m (itself l) = itself (again m l)

cases_star : {x : Expression} {u : List ℕ} → NoneOrMore x u → Matches (star x) u
cases_star {x} (inl e) = subst (λ (s : List ℕ). Matches (star x) s) (sym e) nothing
cases_star (inr (v, w, e, m, l)) = rw e (star_before m l)

pub star_iff : {x : Expression} {u : List ℕ} → Matches (star x) u ↔ NoneOrMore x u
star_iff = (star_cases, cases_star)

pub null_matches : {x : Expression} → Null x → Matches x []
null_matches (null_cat a b) = in_turn (null_matches a) (null_matches b)
null_matches (null_left a) = either_left (null_matches a)
null_matches (null_right b) = either_right (null_matches b)
null_matches (null_plus a) = once (null_matches a)
null_matches null_opt = nothing

empty_left : (u v : List ℕ) → u ++ v ≡ [] → u ≡ []
empty_left [] v e = refl
empty_left (b ∷ u) v e = let bad : ◌≡◌ {A = ℕ} 0 1 = cc in absurd (omega arith)

empty_right : (u v : List ℕ) → u ++ v ≡ [] → v ≡ []
empty_right [] v e = e
empty_right (b ∷ u) v e = let bad : ◌≡◌ {A = ℕ} 0 1 = cc in absurd (omega arith)

matches_null : {x : Expression} {u : List ℕ} → Matches x u → u ≡ [] → Null x
matches_null (byte h) e = let bad : ◌≡◌ {A = ℕ} 0 1 = cc in absurd (omega arith)
matches_null (in_turn {u = u} {v = v} m l) e =
    null_cat (matches_null m (empty_left u v e)) (matches_null l (empty_right u v e))
matches_null (either_left m) e = null_left (matches_null m e)
matches_null (either_right m) e = null_right (matches_null m e)
matches_null (once m) e = null_plus (matches_null m e)
matches_null (again {u = u} {v = v} m l) e = null_plus (matches_null m (empty_left u v e))
matches_null nothing e = null_opt
matches_null (itself m) e = null_opt

pub null_exact : {x : Expression} → Null x ↔ Matches x []
null_exact = (null_matches, λ m. matches_null m refl)
