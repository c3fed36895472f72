-- What holds of every element of a list: of its parts, at each place, and after passes that keep it.
use mathlib.Core.Path.{◌≡◌, refl, subst}
use mathlib.Core.List.{List, [], ◌∷◌, ◌++◌}
use mathlib.Core.Option.{some}
use Prim.Native.Nat.{ℕ, zero, suc}
use native.Mathlib.Omega.{arith}
use lib.ListN.{get_elem?}
use Rattle.grammar.specs.Grammar.{Every, nothing, each}

pub every_append : {A : Type 0} {P : A → Type 0} (xs ys : List A) → Every P xs → Every P ys → Every P (xs ++ ys)
every_append [] ys h k = k
every_append (x ∷ xs) ys (each p h) k = each p (every_append xs ys h k)

pub every_left : {A : Type 0} {P : A → Type 0} (xs ys : List A) → Every P (xs ++ ys) → Every P xs
every_left [] ys h = nothing
every_left (x ∷ xs) ys (each p h) = each p (every_left xs ys h)

pub every_right : {A : Type 0} {P : A → Type 0} (xs ys : List A) → Every P (xs ++ ys) → Every P ys
every_right [] ys h = h
every_right (x ∷ xs) ys (each p h) = every_right xs ys h

pub every_map : {A : Type 0} {P Q : A → Type 0} → ((x : A) → P x → Q x) → {xs : List A} → Every P xs → Every Q xs
every_map f nothing = nothing
every_map f (each {x = x} p h) = each (f x p) (every_map f h)

pub every_at : {A : Type 0} {P : A → Type 0} {xs : List A} → Every P xs → (i : ℕ) (x : A) → get_elem? xs i ≡ some x → P x
every_at nothing i x e = let bad : ◌≡◌ {A = ℕ} 0 1 = cc in absurd (omega arith)
every_at {P = P} (each p h) zero x e = subst P (cc) p
every_at (each p h) (suc i) x e = every_at h i x e

pub at_every : {A : Type 0} {P : A → Type 0} (xs : List A) → ((i : ℕ) (x : A) → get_elem? xs i ≡ some x → P x) → Every P xs
at_every [] f = nothing
at_every (x ∷ xs) f = each (f zero x refl) (at_every xs (λ i y e. f (suc i) y e))

-- a pass made so many times
unfoldable pub repeated : {A : Type 0} → ℕ → (List A → List A) → List A → List A
repeated zero f xs = xs
repeated (suc n) f xs = repeated n f (f xs)

pub every_repeated : {A : Type 0} {P : A → Type 0} (f : List A → List A) → ((xs : List A) → Every P xs → Every P (f xs)) → (n : ℕ) (xs : List A) → Every P xs → Every P (repeated n f xs)
unfolding repeated
every_repeated f k zero xs h = h
every_repeated f k (suc n) xs h = every_repeated f k n (f xs) (k xs h)
