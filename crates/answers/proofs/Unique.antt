-- What allows one outcome at most.
use mathlib.Core.Path.{◌≡◌}
use mathlib.Core.Logic.{◌⊎◌, inl, inr}

-- R allows one outcome at most
abbrev pub Unique : {X : Type 0} → (X → Type 0) → Type 0
Unique {X} R = (x y : X) → R x → R y → x ≡ y

-- where one case excludes the other
pub either_unique : {X : Type 0} {R S : X → Type 0} → Unique R → Unique S → ((x y : X) → R x → S y → ⊥) → Unique (λ x. R x ⊎ S x)
either_unique r s apart x y (inl a) (inl b) = r x y a b
either_unique r s apart x y (inl a) (inr b) = absurd (apart x y a b)
either_unique r s apart x y (inr a) (inl b) = absurd (apart y x b a)
either_unique r s apart x y (inr a) (inr b) = s x y a b
