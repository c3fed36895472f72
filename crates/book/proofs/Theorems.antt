-- What judging promises, one page: each theorem under the sentence that it proves.
-- Document 01, "The book" and "Refusals and their numbers"; the contract of `judge` is `Judged`.
use mathlib.Core.Path.{◌≡◌}
use mathlib.Core.List.{List}
use Prim.Native.Nat.{ℕ, suc, ◌≤◌}
use native.Mathlib.Omega.{arith}
use lib.ListN.{take}
use Rattle.grammar.specs.Grammar.{Grammar, Productive, Reachable, Useful}
use Rattle.grammar.specs.House.{house}
use Rattle.grammar.proofs.Useful.{useful_start}
use Rattle.answers.specs.Limits.{longest_book}
use Rattle.answers.specs.declared.Answer.{Answer}
use Rattle.answers.specs.Answers.{refusal}
use Rattle.answers.specs.Refusals.{useless}
use Rattle.reader.specs.Book.{reads, spells, Limits}
use Rattle.reader.proofs.Promise.{read_limits}
use Rattle.std.specs.Prelude.{Result, Ok, Err}
use Rattle.book.specs.declared.Index.{Index}
use Rattle.book.specs.Examples.{house_book, useless_book}
use Rattle.book.specs.Judging.{LowestUseless, index_of, Refuses, useless_one, Serves, Judged}
use Rattle.book.specs.Served.{Served}
use Rattle.book.proofs.Examples as examples
use Rattle.book.proofs.Promise as promise
use Rattle.book.proofs.Unique as unique

-- judging allows one outcome
pub judged_unique : (b : List ℕ) (r s : Result Index Answer)
    → Judged b r
    → Judged b s
    → r ≡ s
judged_unique = unique.judged_unique

module _ {b : List ℕ} where
  -- where an index comes out, the book serves a grammar, and the index is that grammar's
  pub judged_done : {i : Index}
      → Judged b (Ok i)
      → (g : Grammar) × Serves b g × (i ≡ index_of g)
  judged_done x = (x.grammar, x.serves, x.index)

  -- otherwise the book is refused with the answer that comes out
  pub judged_refused : {a : Answer}
      → Judged b (Err a)
      → Refuses b a
  judged_refused x = x

  -- a refused book has one of the numbers 1 to 6
  pub refuses_number : {answer : Answer}
      → Refuses b answer
      → (1 ≤ answer.number) × (answer.number ≤ 6)
  refuses_number = promise.refuses_number

  -- no book is both refused and served
  pub refuses_not_serves : {answer : Answer} {g : Grammar}
      → Refuses b answer
      → Serves b g
      → ⊥
  refuses_not_serves = unique.refuses_not_serves

  -- a book serves one grammar
  pub serves_unique : {g h : Grammar}
      → Serves b g
      → Serves b h
      → g ≡ h
  serves_unique = unique.serves_unique

module _ {b : List ℕ} {g : Grammar} (s : Serves b g) where
  -- the grammar that a book serves is within the limits
  pub serves_limits : Limits g
  serves_limits = promise.serves_limits s

  -- every nonterminal in a form that the start symbol derives, derives a token string
  pub serves_productive : (A : ℕ) → Reachable g A → Productive g A
  serves_productive = promise.serves_productive s

  -- its index gives the grammar back through the accessors of the book's bytes
  pub served : {i : Index}
      → i ≡ index_of g
      → Served b g i
  served = promise.served s

-- at most one nonterminal is the lowest useless one
pub lowest_useless_unique : {g : Grammar} {A B : ℕ}
    → LowestUseless g A
    → LowestUseless g B
    → A ≡ B
lowest_useless_unique = unique.lowest_unique

-- where the start symbol derives no token string, every nonterminal is useless
pub all_useless : {g : Grammar}
    → ¬ Productive g g.start
    → (A : ℕ)
    → ¬ Useful g A
all_useless dead A useful = dead (useful_start useful)

-- so the book is refused with 6, and nonterminal 0 is named
pub dead_start_refused : (b : List ℕ) {g : Grammar}
    → spells b ≡ reads g
    → ¬ Productive g g.start
    → Refuses b (refusal useless 0 0)
dead_start_refused b read dead =
    useless_one read
    (record {
      inside = (read_limits b read).some_nonterminal;
      useless = all_useless dead 0;
      lowest = λ B below. absurd (omega arith);
    })

-- a longer book is judged by its beginning, of one byte more than the longest book has
pub judged_by_beginning : (b : List ℕ) (r : Result Index Answer)
    → Judged (take (suc longest_book) b) r
    → Judged b r
judged_by_beginning = promise.judged_by_beginning (suc longest_book) (omega arith)

-- H serves the house grammar
pub house_serves : Serves house_book house
house_serves = examples.house_serves

-- and I is refused with 6, its nonterminal 1 being the lowest useless one
pub useless_refused : Refuses useless_book (refusal useless 1 0)
useless_refused = examples.useless_refused
