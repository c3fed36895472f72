-- Tests that compute: members of lists, and what holds of all of them.
use mathlib.Core.Path.{◌≡◌, subst}
use mathlib.Core.Bool.{Bool, true, false, ◌&&◌, ◌||◌}
use mathlib.Core.List.{List, [], ◌∷◌, ◌++◌}
use Prim.Native.Nat.{ℕ, zero, suc, ◌<◌}
use native.Mathlib.Decide.{ℕ_discrete}
use native.Mathlib.Omega.{arith}
use lib.Dec.{T}
use Rattle.grammar.specs.Grammar.{Every, nothing, each}

pub and_left : (a b : Bool) → T (a && b) → T a
and_left true b t = tt
and_left false b t = t

pub and_right : (a b : Bool) → T (a && b) → T b
and_right true b t = t
and_right false b t = absurd t

pub and_both : (a b : Bool) → T a → T b → T (a && b)
and_both true b s t = t
and_both false b s t = s

pub or_left : (a b : Bool) → T a → T (a || b)
or_left true b t = tt
or_left false b t = absurd t

pub or_right : (a b : Bool) → T b → T (a || b)
or_right true b t = tt
or_right false b t = t

pub or_elim {ℓ} : {C : Type ℓ} (a b : Bool) → (T a → C) → (T b → C) → T (a || b) → C
or_elim true b f g t = f tt
or_elim false b f g t = g t

-- the test holds of every element
unfoldable pub all : {A : Type 0} → (A → Bool) → List A → Bool
all f [] = true
all f (x ∷ xs) = f x && all f xs

-- the test holds of some element
unfoldable pub any : {A : Type 0} → (A → Bool) → List A → Bool
any f [] = false
any f (x ∷ xs) = f x || any f xs

pub all_every : {A : Type 0} (f : A → Bool) (xs : List A) → T (all f xs) → Every (λ x. T (f x)) xs
unfolding all
all_every f [] t = nothing
all_every f (x ∷ xs) t = each (and_left (f x) (all f xs) t) (all_every f xs (and_right (f x) (all f xs) t))

pub any_append_left : {A : Type 0} (f : A → Bool) (xs ys : List A) → T (any f xs) → T (any f (xs ++ ys))
unfolding any
any_append_left f [] ys t = absurd t
any_append_left f (x ∷ xs) ys t = or_elim (f x) (any f xs) (λ h. or_left (f x) (any f (xs ++ ys)) h) (λ h. or_right (f x) (any f (xs ++ ys)) (any_append_left f xs ys h)) t

pub any_append_right : {A : Type 0} (f : A → Bool) (xs ys : List A) → T (any f ys) → T (any f (xs ++ ys))
unfolding any
any_append_right f [] ys t = t
any_append_right f (x ∷ xs) ys t = or_right (f x) (any f (xs ++ ys)) (any_append_right f xs ys t)

-- what holds of every element holds of one that the test finds
pub any_of : {A : Type 0} {P : A → Type 0} {C : Type 0} (f : A → Bool) {xs : List A} → Every P xs → ((x : A) → P x → T (f x) → C) → T (any f xs) → C
unfolding any
any_of f nothing k t = absurd t
any_of f (each {x = x} {xs = xs} p h) k t = or_elim (f x) (any f xs) (λ s. k x p s) (λ s. any_of f h k s) t

-- the test holds of every number below n
unfoldable pub below : ℕ → (ℕ → Bool) → Bool
below zero f = true
below (suc n) f = f n && below n f

pub below_each : (n : ℕ) (f : ℕ → Bool) → T (below n f) → (k : ℕ) → k < n → T (f k)
unfolding below
below_each zero f t k h = absurd (omega arith)
below_each (suc n) f t k h = go (ℕ_discrete n k) (λ l. below_each n f (and_right (f n) (below n f) t) k l)
  where
    go : Dec (n ≡ k) → (k < n → T (f k)) → T (f k)
    go (yes e) rest = subst (λ (i : ℕ). T (f i)) e (and_left (f n) (below n f) t)
    go (no d) rest = rest (omega arith)
