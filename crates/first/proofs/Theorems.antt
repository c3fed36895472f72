-- What FIRST promises, one page: each theorem under the sentence that it proves.
use mathlib.Core.Path.{◌≡◌}
use mathlib.Core.Bool.{true}
use mathlib.Core.Logic.{◌↔◌}
use mathlib.Core.List.{List, [], ◌∷◌, ◌++◌}
use mathlib.Core.Option.{Option}
use Prim.Native.Nat.{ℕ, ◌^◌, ◌≤◌, ◌<◌}
use lib.ListN.{length, take, get_or}
use Rattle.std.specs.Prelude.{Result, Ok, IsOk}
use Rattle.grammar.specs.declared.Symbol.TheVariants.{Nonterminal}
use Rattle.grammar.specs.Grammar.{Form, Grammar, Column, Member, Every, Known, Rule, First, Useful}
use Rattle.grammar.specs.Vanishing.{Vanishes}
use Rattle.grammar.specs.Machine.{Exact, Continues}
use Rattle.grammar.specs.Next.{ConsumesAll}
use Rattle.sets.specs.Sets.{width, end_mark, empty_string, only, united, joined, member}
use Rattle.sets.specs.Calls.{set_at, stored, number}
use Rattle.answers.specs.declared.Answer.{Answer}
use Rattle.answers.specs.Limits.{most_symbols}
use Rattle.reader.specs.Book.{Limits}
use Rattle.book.specs.declared.Index.{Index}
use Rattle.first.specs.Numbers.{IsSet, Sets, FirstSets, FamilyOf}
use Rattle.first.specs.declared.forms.Trail.{Trail}
use Rattle.first.specs.Trail.{trail, vanishing, Trailed, FirstSound, FirstAt, FirstClosed}
use Rattle.first.specs.Calls.{FirstWorkedOut, FirstResult, FirstOutcome}
use Rattle.first.specs.Joined.{FirstJoined}
use Rattle.first.specs.Examples.{HouseJoined}
use Rattle.first.proofs.Trail as trails
use Rattle.first.proofs.Additions as additions
use Rattle.first.proofs.Closed as closed
use Rattle.first.proofs.Coming as coming
use Rattle.first.proofs.Unique as unique
use Rattle.first.proofs.Outcomes as answers
use Rattle.first.proofs.Joined as joins
use Rattle.first.proofs.JoinedCalls as calls
use Rattle.first.proofs.WholeCalls as whole
use Rattle.first.proofs.Vanishing as leading
use Rattle.first.proofs.Examples as examples

module _ {g : Grammar} (limits : Limits g) where
  -- each single addition to FIRST is sound
  pub first_addition_sound : {fs : List ℕ}
      → FirstSound g fs
      → {p A : ℕ} {β : Form}
      → Rule g p A β
      → FirstSound g (stored fs A (united (set_at fs A) (trail fs (only empty_string) β)))
  first_addition_sound sound = additions.first_addition_sound limits sound

  -- FIRST: what is sound and closed is exact
  pub first_sets_lem : {fs : List ℕ}
      → g.nonterminals ≤ length fs
      → ((A : ℕ) → A < g.nonterminals → get_or fs A 0 < 2 ^ width)
      → FirstSound g fs
      → FirstClosed g fs
      → FirstSets g (take g.nonterminals fs)
  first_sets_lem room fits sound c = closed.at_taken room (closed.first_words_exact limits fits sound c)

  -- FIRST of a form is its trail that ends with the empty string
  pub first_is : {xs : List ℕ}
      → FirstSets g xs
      → {α : Form}
      → Every (Known g) α
      → IsSet (trail xs (only empty_string) α) (First g α)
  first_is first = closed.first_is limits (closed.sets_at first)

  -- what can come after the tokens u is the trail, ending with the end mark, of the stack right after they are matched
  pub next_set_is : {xs : List ℕ}
      → FirstSets g xs
      → {cell : ℕ → Column → Option ℕ}
      → Exact g cell
      → ((A : ℕ) → A < g.nonterminals → Useful g A)
      → {u ps : List ℕ} {σ : Form}
      → ConsumesAll g cell (Nonterminal g.start ∷ []) u ps σ
      → IsSet (trail xs (only end_mark) σ) (Continues g u)
  next_set_is sets exact useful h = coming.next_set_is limits (closed.sets_at sets) exact useful h

  -- and how many of its leading symbols can vanish is told by their sets
  pub vanishing_is : {fs : List ℕ}
      → FirstAt g fs
      → {α : Form}
      → Every (Known g) α
      → Vanishes g α (vanishing fs α)
  vanishing_is = leading.vanishing_is limits

  -- FIRST of two strings put together is the join of their FIRST sets
  pub first_joined : (α β : Form) {x y : ℕ}
      → Every (Known g) α
      → IsSet x (First g α)
      → IsSet y (First g β)
      → IsSet (joined empty_string x y) (First g (α ++ β))
  first_joined = joins.first_joined limits

-- the trail of two forms put together, and of a form with a set behind it
pub trail_append : (fs : List ℕ) (k : ℕ) (α β : Form) → trail fs k (α ++ β) ≡ trail fs (trail fs k β) α
trail_append = joins.trail_append

pub trail_joined : (fs : List ℕ) (k : ℕ) (α : Form)
    → trail fs k α ≡ joined empty_string (trail fs (only empty_string) α) k
trail_joined = joins.trail_joined

module _ {book : List ℕ} (xs ys : List ℕ) where
  -- of the calls: where both parts are done, the whole is done with the join of their sets
  pub first_of_joined : {r s : Trail} (t : Result Trail Answer)
      → FirstOutcome book xs (Ok r)
      → FirstOutcome book ys (Ok s)
      → FirstOutcome book (xs ++ ys) t
      → length (xs ++ ys) ≤ most_symbols
      → FirstJoined r s t
  first_of_joined t front back whole short = calls.first_of_joined xs ys short front back t whole

  -- and where the whole is done, so are both parts
  pub first_of_split : (r s : Result Trail Answer) {t : Trail}
      → FirstOutcome book xs r
      → FirstOutcome book ys s
      → FirstOutcome book (xs ++ ys) (Ok t)
      → length (xs ++ ys) ≤ most_symbols
      → IsOk r × IsOk s
  first_of_split r s front back whole short = calls.first_of_split xs ys short whole r s front back

-- FIRST of a string that is done has the empty string exactly if the number is that of all its symbols
pub first_of_whole : {book symbols : List ℕ} {t : Trail}
    → FirstOutcome book symbols (Ok t)
    → (member empty_string (number t.set) ≡ true) ↔ (t.vanishing ≡ length symbols)
first_of_whole = whole.first_of_whole

-- the premises above are met: the calls for n2, n3 and n2 n3 of the house book are done, and their sets join
pub house_joined : HouseJoined
house_joined = examples.house_joined

module _ {g : Grammar} {P : ℕ → Member → Type 0} {xs ys : List ℕ} where
  -- the sets of a grammar are determined, in a list of their own
  pub sets_unique : Sets g P xs → Sets g P ys → xs ≡ ys
  sets_unique = unique.sets_unique xs ys

  -- and in a family with cells beyond them
  pub family_unique : FamilyOf g P xs → FamilyOf g P ys → xs ≡ ys
  family_unique = unique.family_unique xs ys

-- any two outcomes that a promise allows of the same inputs are equal: of the trail of a form
pub trailed_unique : {fs : List ℕ} {k : ℕ} {α : Form} {r s : Trail} → Trailed fs k α r → Trailed fs k α s → r ≡ s
trailed_unique {fs} {k} {α} {r} {s} = trails.trailed_unique fs k α r s

-- of FIRST of a symbol string
pub first_outcome_unique : (book symbols : List ℕ) (r s : Result Trail Answer)
    → FirstOutcome book symbols r
    → FirstOutcome book symbols s
    → r ≡ s
first_outcome_unique = answers.first_outcome_unique

-- and of FIRST of each nonterminal
pub first_worked_out_unique : (book : List ℕ) {x y : List ℕ} (r s : Result Index Answer)
    → FirstWorkedOut book r x
    → FirstWorkedOut book s y
    → ◌≡◌ {A = FirstResult} (r, x) (s, y)
first_worked_out_unique = answers.first_worked_out_unique
