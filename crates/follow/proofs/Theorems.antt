-- What FOLLOW and lookaheads promise, one page: each theorem under the sentence that it proves.
use mathlib.Core.Path.{◌≡◌}
use mathlib.Core.List.{List}
use Prim.Native.Nat.{ℕ, ◌^◌, ◌≤◌, ◌<◌}
use lib.ListN.{length, take, get_or}
use Rattle.std.specs.Prelude.{Result}
use Rattle.grammar.specs.Grammar.{Form, Grammar, Rule, First, Follow, Lookahead}
use Rattle.grammar.specs.Occurrence.{Behind}
use Rattle.sets.specs.Sets.{width, empty_string, united, joined}
use Rattle.sets.specs.Calls.{set_at, stored}
use Rattle.answers.specs.declared.Answer.{Answer}
use Rattle.reader.specs.Book.{Limits}
use Rattle.book.specs.declared.Index.{Index}
use Rattle.book.specs.Judging.{AllUseful}
use Rattle.first.specs.declared.forms.Trail.{Trail}
use Rattle.first.specs.Numbers.{IsSet, FirstSets}
use Rattle.first.specs.Trail.{trail, Inside, FirstSound, FirstAt}
use Rattle.first.proofs.Promise.{sets_at, at_taken}
use Rattle.follow.specs.Families.{FollowSets}
use Rattle.follow.specs.Walks.{FollowSound, FollowClosed}
use Rattle.follow.specs.Calls.{SetsOutcome, SetsResult, LookaheadOutcome}
use Rattle.follow.specs.WorkedOut.{WorkedOut, WorkedOutResult}
use Rattle.follow.proofs.Additions as additions
use Rattle.follow.proofs.Closed as closed
use Rattle.follow.proofs.Outcomes as outcomes
use Rattle.follow.proofs.Joined as joins

module _ {g : Grammar} (limits : Limits g) where
  -- each single addition to FOLLOW is sound, where every nonterminal is useful
  pub follow_addition_sound : {fs ys : List ℕ}
      → FirstSound g fs
      → AllUseful g
      → FollowSound g ys
      → {p A B : ℕ} {β v : Form} {x : ℕ}
      → Rule g p B β
      → Behind A v β
      → Inside (Follow g B) x
      → FollowSound g (stored ys A (united (set_at ys A) (trail fs x v)))
  follow_addition_sound first useful sound = additions.follow_addition_sound limits first useful sound

  -- FOLLOW: what is sound and closed is exact
  pub follow_sets_lem : {fs ys : List ℕ}
      → FirstAt g fs
      → g.nonterminals ≤ length ys
      → ((A : ℕ) → A < g.nonterminals → get_or ys A 0 < 2 ^ width)
      → FollowSound g ys
      → FollowClosed g fs ys
      → FollowSets g (take g.nonterminals ys)
  follow_sets_lem first room fits sound c = at_taken room (closed.follow_words_exact limits first fits sound c)

  -- the lookahead of a production is its right side's trail that ends with FOLLOW of its left side
  pub lookahead_is : {xs ys : List ℕ}
      → FirstSets g xs
      → FollowSets g ys
      → {p A : ℕ} {α : Form}
      → Rule g p A α
      → IsSet (trail xs (get_or ys A 0) α) (Lookahead g A α)
  lookahead_is first follow = closed.lookahead_is limits (sets_at first) (sets_at follow)

  -- and so the join of FIRST of the right side with FOLLOW of the left side
  pub lookahead_joined : {p A : ℕ} {α : Form} {x y : ℕ}
      → Rule g p A α
      → IsSet x (First g α)
      → IsSet y (Follow g A)
      → IsSet (joined empty_string x y) (Lookahead g A α)
  lookahead_joined rule = joins.lookahead_joined limits rule

-- any two outcomes that a promise allows of the same inputs are equal, the answer and every buffer: of the sets
pub sets_outcome_unique : {book first follow : List ℕ} {a b : Answer} {f w x y : List ℕ}
    → SetsOutcome book first follow a f w
    → SetsOutcome book first follow b x y
    → ◌≡◌ {A = SetsResult} (a, f, w) (b, x, y)
sets_outcome_unique {book} {first} {follow} = outcomes.sets_outcome_unique book first follow

-- of a lookahead
pub lookahead_outcome_unique : (book : List ℕ) (production : ℕ) (r s : Result Trail Answer)
    → LookaheadOutcome book production r
    → LookaheadOutcome book production s
    → r ≡ s
lookahead_outcome_unique = outcomes.lookahead_outcome_unique

-- and of all that is worked out of a book
pub worked_out_unique : (book : List ℕ) {f w a x y z : List ℕ} (r s : Result Index Answer)
    → WorkedOut book r f w a
    → WorkedOut book s x y z
    → ◌≡◌ {A = WorkedOutResult} (r, f, w, a) (s, x, y, z)
worked_out_unique = outcomes.worked_out_unique
