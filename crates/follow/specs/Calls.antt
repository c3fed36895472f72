-- What sets and a lookahead answer and leave in the lent buffers, for every book and buffer.
-- Document 01, "Refusals and their numbers" and "Sets and table"; document 02, W5.
use Rattle.std.specs.Prelude.{List, ℕ, ◌<◌, ◌≤◌, length, Result, MatchResult}
use Rattle.grammar.specs.Grammar.{Form, Grammar, Rule, Lookahead}
use Rattle.answers.specs.declared.Answer.{Answer}
use Rattle.answers.specs.Answers.{done, refusal}
use Rattle.answers.specs.Refusals.{room, first_room, follow_room, production}
use Rattle.answers.specs.Buffers.{over}
use Rattle.book.specs.Judging.{Refuses, Serves}
use Rattle.first.specs.declared.forms.Trail.{Trail}
use Rattle.first.specs.Numbers.{FirstSets}
use Rattle.first.specs.Calls.{SetFor}
use Rattle.follow.specs.Families.{FollowSets}

-- both set buffers have room for N sets, or the first that has not is named
pub data SetsRoom (g : Grammar) (first follow : List ℕ) : Answer → Type 0 where
  no_first : length first < g.nonterminals
      → SetsRoom g first follow (refusal room g.nonterminals first_room)
  no_follow : g.nonterminals ≤ length first
      → length follow < g.nonterminals
      → SetsRoom g first follow (refusal room g.nonterminals follow_room)

pub record SetsFit (g : Grammar) (first follow : List ℕ) : Type 0 where
  pub first_fits : g.nonterminals ≤ length first
  pub follow_fits : g.nonterminals ≤ length follow

-- FIRST and FOLLOW of each nonterminal into the lent buffers
pub data SetsOutcome (book first follow : List ℕ) : Answer → List ℕ → List ℕ → Type 0 where
  refused : {a : Answer}
      → Refuses book a
      → SetsOutcome book first follow a first follow
  no_room : {g : Grammar} {a : Answer}
      → Serves book g
      → SetsRoom g first follow a
      → SetsOutcome book first follow a first follow
  served : {g : Grammar} {xs ys : List ℕ}
      → Serves book g
      → SetsFit g first follow
      → FirstSets g xs
      → FollowSets g ys
      → SetsOutcome book first follow (done 0) (over xs first) (over ys follow)

-- what a call of sets leaves: the answer and both set buffers
abbrev pub SetsResult : Type 0
SetsResult = Answer × List ℕ × List ℕ

-- the refusal of the book, or of a number that is no production's
pub data LookaheadRefused (book : List ℕ) (number : ℕ) : Answer → Type 0 where
  refused : {a : Answer}
      → Refuses book a
      → LookaheadRefused book number a
  no_production : {g : Grammar}
      → Serves book g
      → length g.productions ≤ number
      → LookaheadRefused book number (refusal production number 0)

-- the lookahead of a production, and how many leading symbols of its right side can vanish
pub record LookaheadTold (book : List ℕ) (number : ℕ) (t : Trail) : Type 0 where
  pub grammar : Grammar
  pub left : ℕ
  pub right : Form
  pub serves : Serves book grammar
  pub rule : Rule grammar number left right
  pub told : SetFor (Lookahead grammar left right) grammar right t

-- one of them
abbrev pub LookaheadOutcome : (book : List ℕ) (number : ℕ) → Result Trail Answer → Type 0
LookaheadOutcome book number r = MatchResult r (LookaheadTold book number) (LookaheadRefused book number)
