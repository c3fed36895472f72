-- What is found of one production by the columns of an index, and what the profile of a judged book comes to.
-- Request W14. Only contracts inside the crate cite what stands here.
use Rattle.std.specs.Prelude.{◌≡◌, Bool, Result, MatchResult, ⊤, List, ℕ, ◌<◌, get_or}
use Rattle.grammar.specs.Grammar.{Grammar}
use Rattle.grammar.specs.Plain.{Breaks, LowestBreak}
use Rattle.sets.specs.Calls.{Decides}
use Rattle.answers.specs.declared.Answer.{Answer}
use Rattle.answers.specs.Answers.{refusal}
use Rattle.answers.specs.Refusals.{profile}
use Rattle.book.specs.declared.Index.{Index}
use Rattle.book.specs.Columns.{grammar_in, Lefts, Lengths, Heads}
use Rattle.book.specs.Judging.{Serves}
use Rattle.profile.specs.Entering.{PlainBook}

-- two productions have the same left side and the same first byte
pub record Alike (lefts heads : List ℕ) (q p : ℕ) : Type 0 where
  pub left : get_or lefts q 0 ≡ get_or lefts p 0
  pub head : get_or heads q 0 ≡ get_or heads p 0

-- a lower production has those of p
pub record Shared (lefts heads : List ℕ) (p : ℕ) : Type 0 where
  pub lower : ℕ
  pub below : lower < p
  pub alike : Alike lefts heads lower p

-- whether p breaks the profile of any book with these columns, where no lower production does
pub record BreaksAt (lefts lengths heads : List ℕ) (p : ℕ) (r : Bool) : Type 0 where
  pub decides : (book : List ℕ) (i : Index)
      → Lefts book i lefts
      → Lengths book i lengths
      → Heads book i heads
      → p < i.outline.productions
      → ((q : ℕ) → q < p → ¬ Breaks (grammar_in book i) q)
      → Decides r (Breaks (grammar_in book i) p)

-- refusal 21 at the lowest production that breaks the profile
pub data PlainRefused (book : List ℕ) : Answer → Type 0 where
  unfit : {g : Grammar} {p : ℕ} → Serves book g → LowestBreak g p → PlainRefused book (refusal profile p 0)

-- a judged book is plain, or what it is refused with
abbrev pub Profiled : List ℕ → Index → Result ⊤ Answer → Type 0
Profiled book i r = MatchResult r (λ done. PlainBook book i) (PlainRefused book)
