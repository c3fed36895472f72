-- What building answers and leaves in the lent buffers, for every book and buffer.
-- Document 01, "Refusals and their numbers" and "Sets and table".
use Rattle.std.specs.Prelude.{◌≡◌, List, ℕ, ◌+◌, ◌*◌, ◌<◌, ◌≤◌, length}
use Rattle.grammar.specs.Grammar.{Grammar}
use Rattle.answers.specs.declared.Answer.{Answer}
use Rattle.answers.specs.Answers.{done, refusal}
use Rattle.answers.specs.Refusals.{room, table_room}
use Rattle.answers.specs.Refusals as refusals
use Rattle.answers.specs.Buffers.{over}
use Rattle.book.specs.Judging.{Refuses, Serves}
use Rattle.first.specs.Numbers.{FirstSets}
use Rattle.follow.specs.Families.{FollowSets}
use Rattle.follow.specs.Calls.{SetsRoom, SetsFit}
use Rattle.table.specs.Table.{size, TableOf, FirstConflict}

-- the sets and the table into the lent buffers
pub data BuildOutcome (book first follow table : List ℕ) : Answer → List ℕ → List ℕ → List ℕ → Type 0 where
  refused : {a : Answer}
      → Refuses book a
      → BuildOutcome book first follow table a first follow table
  no_room : {g : Grammar} {a : Answer}
      → Serves book g
      → SetsRoom g first follow a
      → BuildOutcome book first follow table a first follow table
  no_table : {g : Grammar}
      → Serves book g
      → SetsFit g first follow
      → length table < size g
      → BuildOutcome book first follow table (refusal room (size g) table_room) first follow table
  conflict : {g : Grammar} {i p q : ℕ}
      → Serves book g
      → SetsFit g first follow
      → size g ≤ length table
      → FirstConflict g i p q
      → BuildOutcome book first follow table (refusal refusals.conflict i (p * 256 + q)) first follow table
  served : {g : Grammar} {xs ys cells : List ℕ}
      → Serves book g
      → SetsFit g first follow
      → size g ≤ length table
      → FirstSets g xs
      → FollowSets g ys
      → TableOf g cells
      → BuildOutcome book first follow table (done 0) (over xs first) (over ys follow) (over cells table)

-- what a call of build leaves: the answer, both set buffers and the table's
abbrev pub BuildResult : Type 0
BuildResult = Answer × List ℕ × List ℕ × List ℕ

-- the answer is the first conflict in cell order, with its two lowest claimants, and every buffer is kept
pub record ReportsConflict (book first follow table : List ℕ) (x : BuildResult) : Type 0 where
  pub grammar : Grammar
  pub serves : Serves book grammar
  pub cell : ℕ
  pub lowest : ℕ
  pub next : ℕ
  pub first_conflict : FirstConflict grammar cell lowest next
  pub is : x ≡ (refusal refusals.conflict cell (lowest * 256 + next), first, follow, table)
