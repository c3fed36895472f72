-- How two meanings of patterns can be related, and when a meaning decides a line. Definitions only.
use Rattle.std.specs.Prelude.{List, ◌↔◌, ◌⊎◌, ℕ, ◌<◌, take, drop}
use Rattle.pieces.specs.Cut.{TokenAt, NoTokenAt}

-- the two say the same of every string
abbrev pub Agree : (M N : ℕ → List ℕ → Type 0) → Type 0
Agree M N = (k : ℕ) (u : List ℕ) → M k u ↔ N k u

-- of every string N says the lowest pattern that matches it by M, and nothing where none does
pub record Picks (N M : ℕ → List ℕ → Type 0) : Type 0 where
  pub matches : (k : ℕ) (u : List ℕ) → N k u → M k u
  pub lowest : (j k : ℕ) (u : List ℕ) → N k u → j < k → M j u → ⊥
  pub some : (j : ℕ) (u : List ℕ) → M j u → (k : ℕ) × N k u

-- M, of the strings that have Q
abbrev pub Only : (Q : List ℕ → Type 0) → (M : ℕ → List ℕ → Type 0) → ℕ → List ℕ → Type 0
Only Q M k u = M k u × Q u

-- every part of w has Q
pub record OfParts (Q : List ℕ → Type 0) (w : List ℕ) : Type 0 where
  pub part : (i n : ℕ) → Q (take n (drop i w))

-- a string begins with a token or with none
abbrev pub TokenKnown : (M : ℕ → List ℕ → Type 0) → List ℕ → Type 0
TokenKnown M w = ((k : ℕ) × (n : ℕ) × TokenAt M w k n) ⊎ NoTokenAt M w
