-- FOLLOW of each nonterminal and the lookahead of each production, as numbers. Document 01, "Sets and table".
use Rattle.std.specs.Prelude.{◌≡◌, List, ℕ, ◌≤◌, length, get_or}
use Rattle.grammar.specs.Grammar.{Form, Grammar, Rule, Follow, Lookahead}
use Rattle.answers.specs.Limits.{most_productions}
use Rattle.first.specs.Numbers.{IsSet, Sets, FamilyOf}

abbrev pub FollowSets : Grammar → List ℕ → Type 0
FollowSets g cells = Sets g (Follow g) cells

abbrev pub FollowFamily : Grammar → List ℕ → Type 0
FollowFamily g cells = FamilyOf g (Follow g) cells

-- the lookahead of each production, in order, and no member beyond them
pub record Lookaheads (g : Grammar) (cells : List ℕ) : Type 0 where
  pub sized : length cells ≡ most_productions
  pub each : {p A : ℕ} {α : Form} → Rule g p A α → IsSet (get_or cells p 0) (Lookahead g A α)
  pub beyond : (p : ℕ) → length g.productions ≤ p → get_or cells p 0 ≡ 0
