-- What each function of the crate answers, told by membership, with the bound that keeps a set within its width.
-- Document 01, "Sets and table": the members of a set, and the join of two.
use Rattle.std.specs.Prelude.{◌≡◌, Bool, true, false, not, cond, ◌&&◌, ◌||◌, List, ℕ, ◌^◌, ◌<◌, eqb, ltb, get_or, set}
use Rattle.sets.specs.declared.Set.{Set}
use Rattle.sets.specs.Sets.{member, Subset, Disjoint, width, empty_string}

-- the number that a set is
abbrev pub number : Set → ℕ
number s = s.word

-- the set with no member
abbrev pub no_set : Set
no_set = record { word = 0 }

pub record None (r : Set) : Type 0 where
  pub fits : number r < 2 ^ width
  pub members : (k : ℕ) → member k (number r) ≡ false

pub record Single (bit : ℕ) (r : Set) : Type 0 where
  pub fits : number r < 2 ^ width
  pub members : (k : ℕ) → member k (number r) ≡ eqb k bit && ltb bit width

-- a place past the width adds nothing
pub record With (s : Set) (bit : ℕ) (r : Set) : Type 0 where
  pub fits : number r < 2 ^ width
  pub members : (k : ℕ) → member k (number r) ≡ member k (number s) || (eqb k bit && ltb bit width)

pub record Without (s : Set) (bit : ℕ) (r : Set) : Type 0 where
  pub fits : number r < 2 ^ width
  pub members : (k : ℕ) → member k (number r) ≡ member k (number s) && not (eqb k bit)

pub record Union (x y r : Set) : Type 0 where
  pub fits : number r < 2 ^ width
  pub members : (k : ℕ) → member k (number r) ≡ member k (number x) || member k (number y)

-- x if it lacks the empty string; otherwise x without it, united with y
pub record Join (x y r : Set) : Type 0 where
  pub fits : number r < 2 ^ width
  pub members : (k : ℕ)
      → member k (number r)
      ≡ cond (member empty_string (number x))
      ((member k (number x) && not (eqb k empty_string)) || member k (number y))
      (member k (number x))

-- the answer r says whether A holds
abbrev pub Decides : Bool → Type 0 → Type 0
Decides true A = A
Decides false A = A → ⊥

abbrev pub Within : Set → Set → Bool → Type 0
Within x y r = Decides r (Subset (number x) (number y))

abbrev pub Apart : Set → Set → Bool → Type 0
Apart x y r = Decides r (Disjoint (number x) (number y))

abbrev pub Same : Set → Set → Bool → Type 0
Same x y r = Decides r (number x ≡ number y)

-- set number n of a family that is kept flat; past its end, no member
abbrev pub set_at : List ℕ → ℕ → ℕ
set_at sets n = get_or sets n 0

pub record Load (sets : List ℕ) (n : ℕ) (r : Set) : Type 0 where
  pub fits : number r < 2 ^ width
  pub loaded : number r ≡ set_at sets n

-- the family with set number n replaced by x; past its end, unchanged
abbrev pub stored : List ℕ → ℕ → ℕ → List ℕ
stored sets n x = set sets n x
