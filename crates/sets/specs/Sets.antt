-- A set is a number: bit k of it says whether k is a member. Membership, the operations on such numbers, and the places
-- that stand for no token. Document 01, "Sets and table".
use Rattle.std.specs.Prelude.{◌≡◌, Bool, true, cond, ℕ, ◌/◌, ◌%◌, ◌^◌, ◌<◌, eqb, ltb}
use Rattle.std.specs.Int.Bits.{bit_or, bit_xor}

-- how many places a set has; those below the end mark's are the tokens
abbrev pub width : ℕ
width = 64

abbrev pub end_mark : ℕ
end_mark = 62

abbrev pub empty_string : ℕ
empty_string = 63

unfoldable pub member : ℕ → ℕ → Bool
member k x = eqb (x / 2 ^ k % 2) 1

-- every member of x is one of y
abbrev pub Subset : ℕ → ℕ → Type 0
Subset x y = (k : ℕ) → member k x ≡ true → member k y ≡ true

-- no member of x is one of y
abbrev pub Disjoint : ℕ → ℕ → Type 0
Disjoint x y = (k : ℕ) → member k x ≡ true → ¬ (member k y ≡ true)

-- x is the number of w places whose members are those k of which P holds
pub record Exactly (w x : ℕ) (P : ℕ → Type 0) : Type 0 where
  pub fits : x < 2 ^ w
  pub sound : (k : ℕ) → member k x ≡ true → P k
  pub complete : (k : ℕ) → P k → member k x ≡ true

-- the set with the one member k
unfoldable pub only : ℕ → ℕ
only k = 2 ^ k

unfoldable pub united : ℕ → ℕ → ℕ
united x y = bit_or x y

unfoldable pub added : ℕ → ℕ → ℕ
added k x = united x (only k)

-- k is put in, whether or not it was there, and then taken out
unfoldable pub removed : ℕ → ℕ → ℕ
removed k x = bit_xor (added k x) (only k)

-- x if it lacks e, the empty string's place; otherwise x without e, united with y
unfoldable pub joined : ℕ → ℕ → ℕ → ℕ
joined e x y = cond (member e x) (united (removed e x) y) x

-- the place of a column of a table with T tokens: column T is the end mark
abbrev pub column_place : ℕ → ℕ → ℕ
column_place column T = cond (ltb column T) column end_mark
