-- What building goes by: which productions claim a cell by their left sides and lookaheads, and what is kept of the
-- claims laid so far: the lowest claimant of each cell, and the first cell with two.
-- Document 01, "Sets and table" and refusal 8.
-- Only contracts inside the crate, and those inside `checker`, cite what stands here.
use Rattle.std.specs.Prelude.{◌≡◌, Bool, true, false, ◌⊎◌, ◌≢◌, List, ℕ, ◌+◌, ◌*◌, ◌/◌, ◌%◌, ◌≤◌, ◌<◌, length, get_or, set, Option, Some, None, MatchOption, IfSome, IsSomeAnd, ⊤, Result, Ok, Err}
use Rattle.sets.specs.Sets.{member, column_place}
use Rattle.sets.specs.Calls.{set_at}
use Rattle.answers.specs.declared.Answer.{Answer}
use Rattle.answers.specs.Answers.{refusal}
use Rattle.answers.specs.Refusals as refusals
use Rattle.answers.specs.Buffers.{over}
use Rattle.reader.specs.Fields.{left_at}
use Rattle.table.specs.declared.claims.Contest.{Contest}

-- production p is of this row, and its lookahead has this bit
pub record ClaimsAt (left look : ℕ → ℕ) (row bit p : ℕ) : Type 0 where
  pub of_row : left p ≡ row
  pub has_bit : member bit (look p) ≡ true

-- the claims on each cell of a table with so many tokens
abbrev pub claims : (left look : ℕ → ℕ) (tokens cell : ℕ) → ℕ → Type 0
claims left look tokens cell = ClaimsAt left look (cell / (tokens + 1)) (column_place (cell % (tokens + 1)) tokens)

-- the left side of record p of those that an index lists
abbrev pub left_of : (book places : List ℕ) → ℕ → ℕ
left_of book places p = left_at book (get_or places p 0)

-- the claims by these left sides, and by a lookahead for each
abbrev pub book_claims : (book places ahead : List ℕ) (tokens cell : ℕ) → ℕ → Type 0
book_claims book places ahead = claims (left_of book places) (set_at ahead)

-- the claims of the productions before p, and of p those on the cells before f
pub record Laid (C : ℕ → ℕ → Type 0) (p f : ℕ) (cell q : ℕ) : Type 0 where
  pub claim : C cell q
  pub turn : (q < p) ⊎ ((q ≡ p) × (cell < f))

-- p and q are the two lowest numbers of which C holds
pub record Rivals (C : ℕ → Type 0) (p q : ℕ) : Type 0 where
  pub lowest : C p
  pub next : C q
  pub order : p < q
  pub others : (r : ℕ) → C r → (r ≡ p) ⊎ (q ≤ r)

-- C holds of one number at most
abbrev pub AtMostOne : (ℕ → Type 0) → Type 0
AtMostOne C = (r s : ℕ) → C r → C s → r ≡ s

-- the byte of a cell: the lowest claimant, or 255 where there is none
pub data Holds (C : ℕ → Type 0) : ℕ → Type 0 where
  lowest : {p : ℕ} → C p → ((q : ℕ) → q < p → ¬ C q) → Holds C p
  vacant : ((p : ℕ) → ¬ C p) → Holds C 255

-- the contest is of the first of so many cells that has rivals, and of these
pub record FirstContest (C : ℕ → ℕ → Type 0) (n : ℕ) (contest : Contest) : Type 0 where
  pub inside : contest.cell < n
  pub rivals : Rivals (C contest.cell) contest.lowest contest.next
  pub earlier : (j : ℕ) → j < contest.cell → AtMostOne (C j)

-- the first contest is known; where none is, no cell has rivals
abbrev pub KnownContest : (C : ℕ → ℕ → Type 0) (n : ℕ) → Option Contest → Type 0
KnownContest C n known = MatchOption known ((j : ℕ) → j < n → AtMostOne (C j)) (FirstContest C n)

-- each cell holds its lowest claimant, and the first contest is known
pub record Ledger (C : ℕ → ℕ → Type 0) (table : List ℕ) (known : Option Contest) : Type 0 where
  pub held : (i : ℕ) → i < length table → Holds (C i) (get_or table i 0)
  pub contest : KnownContest C (length table) known

-- p claims a cell or not: a vacant one is entered, and one that is held is contested, which counts if no cell up to it
-- is known to be
pub data Claimed (table : List ℕ) (cell p : ℕ) (known : Option Contest) : Bool → Option Contest → List ℕ → Type 0 where
  passes : Claimed table cell p known false known table
  enters : get_or table cell 0 ≡ 255 → Claimed table cell p known true known (set table cell p)
  contests : get_or table cell 0 ≢ 255
      → IfSome known (λ first. cell < first.cell)
      → Claimed table cell p known true (Some (record { cell = cell; lowest = get_or table cell 0; next = p })) table
  follows : get_or table cell 0 ≢ 255
      → IsSomeAnd known (λ first. first.cell ≤ cell)
      → Claimed table cell p known true known table

-- whatever else is claimed, the claims of a production of this row and with this lookahead are laid
pub record RowClaimed
    (row ahead tokens p : ℕ) (table : List ℕ) (known : Option Contest) (table' : List ℕ) (known' : Option Contest)
    : Type 0 where
  pub laid : (left look : ℕ → ℕ)
      → left p ≡ row
      → look p ≡ ahead
      → Ledger (Laid (claims left look tokens) p 0) table known
      → Ledger (Laid (claims left look tokens) (p + 1) 0) table' known'

-- each of so many records has its row among so many cells
pub record Rowed (book places : List ℕ) (count tokens n : ℕ) : Type 0 where
  pub numbered : count ≤ 128
  pub rows : (p : ℕ) → p < count → (left_of book places p + 1) * (tokens + 1) ≤ n

-- and every cell is vacant
pub record Claimable (book places : List ℕ) (count tokens : ℕ) (table : List ℕ) : Type 0 where
  pub rowed : Rowed book places count tokens (length table)
  pub blank : (i : ℕ) → i < length table → get_or table i 0 ≡ 255

-- the answer to a contest
abbrev pub conflict_of : Contest → Answer
conflict_of contest = refusal refusals.conflict contest.cell (contest.lowest * 256 + contest.next)

-- every claim C is laid on so many cells: the first that is contested is refused and the table kept, or they are
-- written
pub data Tabulated (C : ℕ → ℕ → Type 0) (n : ℕ) (table : List ℕ) : Result ⊤ Answer → List ℕ → Type 0 where
  disputed : {cells : List ℕ} {contest : Contest}
      → length cells ≡ n
      → Ledger C cells (Some contest)
      → Tabulated C n table (Err (conflict_of contest)) table
  written : {cells : List ℕ}
      → length cells ≡ n
      → Ledger C cells None
      → Tabulated C n table (Ok tt) (over cells table)
