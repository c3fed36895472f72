-- All that a table is built from: the index of a book, the sets of each nonterminal, the lookahead of each production.
-- Document 01, "Sets and table".
use Rattle.std.specs.Prelude.{◌≡◌, List, ℕ, replicate, Result, MatchResult}
use Rattle.answers.specs.declared.Answer.{Answer}
use Rattle.answers.specs.Limits.{most_nonterminals, most_productions}
use Rattle.book.specs.declared.Index.{Index}
use Rattle.book.specs.Judging.{Refuses, Indexes}
use Rattle.first.specs.Numbers.{FirstFamily}
use Rattle.follow.specs.Families.{FollowFamily, Lookaheads}

-- the index of the grammar that the book serves, FIRST and FOLLOW of each nonterminal, and the lookahead of each
-- production
pub record AllServed (book first follow ahead : List ℕ) (index : Index) : Type 0 where
  pub given : Indexes book index
  pub firsts : FirstFamily given.grammar first
  pub follows : FollowFamily given.grammar follow
  pub looks : Lookaheads given.grammar ahead

-- all of them; with a refusal no member anywhere
abbrev pub WorkedOut : List ℕ → Result Index Answer → (first follow ahead : List ℕ) → Type 0
WorkedOut book r first follow ahead =
    MatchResult r (AllServed book first follow ahead)
    (λ a.
    Refuses book a
    × (first ≡ replicate most_nonterminals 0)
    × (follow ≡ replicate most_nonterminals 0)
    × (ahead ≡ replicate most_productions 0))

-- what working out leaves: an index or a refusal, and the three families
abbrev pub WorkedOutResult : Type 0
WorkedOutResult = Result Index Answer × List ℕ × List ℕ × List ℕ
