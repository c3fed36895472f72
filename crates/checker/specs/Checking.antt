-- What checking goes by: the columns that the productions of each row claim, the first cell that two of them claim, its
-- two lowest claimants, and the first cell that is not the one of its claimant.
-- Document 02, W8. Only contracts inside the crate cite what stands here.
use Rattle.std.specs.Prelude.{◌≡◌, true, false, ◌≢◌, List, ℕ, ◌+◌, ◌*◌, ◌/◌, ◌%◌, ◌≤◌, ◌<◌, length, get_or, Option}
use Rattle.sets.specs.Sets.{member, united, column_place}
use Rattle.sets.specs.Calls.{set_at, stored}
use Rattle.answers.specs.declared.Answer.{Answer}
use Rattle.answers.specs.Answers.{refusal}
use Rattle.answers.specs.Refusals as refusals
use Rattle.answers.specs.Lowest.{LowestIn}
use Rattle.book.specs.declared.Index.{Index}
use Rattle.book.specs.Judging.{Indexes}
use Rattle.follow.specs.Families.{Lookaheads}
use Rattle.table.specs.Fitting.{FitTable}
use Rattle.table.specs.Claims.{ClaimsAt, claims, Rivals}

-- the row of a cell of a table with so many tokens, and the bit of its column
abbrev pub row_of : (tokens i : ℕ) → ℕ
row_of tokens i = i / (tokens + 1)

abbrev pub bit_of : (tokens i : ℕ) → ℕ
bit_of tokens i = column_place (i % (tokens + 1)) tokens

-- C holds of p, which is one of the first so many
pub record Before (count : ℕ) (C : ℕ → Type 0) (p : ℕ) : Type 0 where
  pub below : p < count
  pub claim : C p

-- C holds of two numbers
pub record Twice (C : ℕ → Type 0) : Type 0 where
  pub one : ℕ
  pub other : ℕ
  pub distinct : one ≢ other
  pub claims_one : C one
  pub claims_other : C other

-- the first so many productions claim a cell: by their left sides, and by a lookahead for each
abbrev pub claims_before : (left look : ℕ → ℕ) (tokens count cell : ℕ) → ℕ → Type 0
claims_before left look tokens count cell = Before count (claims left look tokens cell)

-- the set of each row has the bits that the lookaheads of its productions have, of the first so many
pub record Tallied (left look : ℕ → ℕ) (count : ℕ) (claimed : List ℕ) : Type 0 where
  pub sound : (row bit : ℕ)
      → member bit (set_at claimed row) ≡ true
      → (p : ℕ) × Before count (ClaimsAt left look row bit) p
  pub complete : (row bit p : ℕ)
      → Before count (ClaimsAt left look row bit) p
      → member bit (set_at claimed row) ≡ true

-- both sets have a bit
pub record Both (x y bit : ℕ) : Type 0 where
  pub in_one : member bit x ≡ true
  pub in_other : member bit y ≡ true

-- a cell of the row has its column in both sets
pub record Shared (row x y tokens cell : ℕ) : Type 0 where
  pub of_row : row_of tokens cell ≡ row
  pub both : Both x y (bit_of tokens cell)

-- one production more, of this row and with this lookahead: the lowest cell before a bound that it contests, and the
-- row's set
pub record ClaimsAdded
    (row ahead tokens : ℕ) (claimed : List ℕ) (bound : ℕ) (r : Option ℕ) (claimed' : List ℕ) : Type 0 where
  pub contested : LowestIn (Shared row (set_at claimed row) ahead tokens) bound r
  pub united : claimed' ≡ stored claimed row (united (set_at claimed row) ahead)

-- each of so many records has its row among the sets, in which there is no member
pub record Countable (left : ℕ → ℕ) (count : ℕ) (claimed : List ℕ) : Type 0 where
  pub rows : (p : ℕ) → p < count → left p < length claimed
  pub blank : (row : ℕ) → set_at claimed row ≡ 0

-- the first of so many cells that two productions claim, and the columns that each row's productions claim
pub record Contested
    (left look : ℕ → ℕ) (tokens count cells : ℕ) (r : Option ℕ) (claimed : List ℕ) : Type 0 where
  pub first : LowestIn (λ i. Twice (claims_before left look tokens count i)) cells r
  pub tallied : Tallied left look count claimed

-- p claims, and is not before a number
pub record From (from : ℕ) (C : ℕ → Type 0) (p : ℕ) : Type 0 where
  pub reached : from ≤ p
  pub claim : C p

-- the refusal of a cell with its two lowest claimants
pub data Disputed (C : ℕ → Type 0) (cell : ℕ) : Answer → Type 0 where
  disputed : {p q : ℕ} → Rivals C p q → Disputed C cell (refusal refusals.conflict cell (p * 256 + q))

-- a byte is not the one of a cell in whose column the row's claimed set has a bit or not: it is 255 although a
-- production claims the cell, or a production that does not claim it
pub data Differs (claimed : ℕ) (ahead : List ℕ) (bit byte : ℕ) : Type 0 where
  missing : byte ≡ 255 → member bit claimed ≡ true → Differs claimed ahead bit byte
  strange : byte ≢ 255 → member bit (set_at ahead byte) ≡ false → Differs claimed ahead bit byte

-- cell i of a table
abbrev pub DiffersAt : (claimed ahead : List ℕ) (tokens : ℕ) (table : List ℕ) → ℕ → Type 0
DiffersAt claimed ahead tokens table i =
    Differs (set_at claimed (row_of tokens i)) ahead (bit_of tokens i) (get_or table i 255)

-- the lookaheads of the grammar that the book serves are known, and the table fits it
pub record Comparable (book : List ℕ) (index : Index) (ahead table : List ℕ) : Type 0 where
  pub given : Indexes book index
  pub looks : Lookaheads given.grammar ahead
  pub fits : FitTable given.grammar table
