-- What crates above cite of judging: a judged book is refused, or it serves a grammar, which the index gives back
-- through the accessors of `reader::fields`.
use mathlib.Core.Path.{◌≡◌, refl, ◌∙◌}
use mathlib.Core.Logic.{◌≢◌}
use mathlib.Core.List.{List}
use Prim.Native.Nat.{ℕ, suc, ◌≤◌}
use native.Mathlib.Omega.{arith}
use lib.ListN.{take}
use Rattle.grammar.specs.Grammar.{Grammar, Productive, Reachable, WellFormed}
use Rattle.grammar.proofs.Useful.{useful_all}
use Rattle.answers.specs.Limits.{longest_book}
use Rattle.answers.specs.declared.Answer.{Answer}
use Rattle.answers.specs.Answers.{refusal}
use Rattle.reader.specs.Book.{spells, Limits}
use Rattle.reader.proofs.Promise.{refused_number, read_limits, judged_by_first}
use Rattle.std.specs.Prelude.{Result, Ok, Err}
use Rattle.book.specs.declared.Index.{Index}
use Rattle.book.specs.Judging.{index_of, Refuses, misread, useless_one, Serves, Judged}
use Rattle.book.proofs.Indexing.{record_indexed, symbol_indexed, place_fits, place_within, places_in_length}
pub use Rattle.book.specs.Served.{Entry, Served}
pub use Rattle.book.proofs.Examples.{house_reads, house_serves, useless_refused}
pub use Rattle.book.proofs.IndexGrammar.{outlined_sized, production_found, production_missing}
pub use Rattle.book.proofs.IndexGrammar.{index_grammar, reading_grammar}
pub use Rattle.book.proofs.ColumnLaws.{is_of_rule, rule_is_of}
pub use Rattle.book.proofs.ColumnLaws.{lefts_unique, lengths_unique, heads_unique}
pub use Rattle.book.proofs.ColumnLaws.{is_of_unique}
pub use Rattle.book.proofs.Unique.{refuses_unique, refuses_not_serves, serves_unique, indexes_unique, judged_unique}

module _ {b : List ℕ} where
  -- a refused book has one of the numbers 1 to 6
  pub refuses_number : {answer : Answer} → Refuses b answer → (1 ≤ answer.number) × (answer.number ≤ 6)
  unfolding refusal
  refuses_number (misread e) = omega (arith, refused_number b e)
  refuses_number (useless_one e h) = omega arith

  pub refuses_some : {answer : Answer} → Refuses b answer → 1 ≤ answer.number
  refuses_some x = (refuses_number x).0

  -- and its answer is not done
  pub refuses_not_done : {answer : Answer} → Refuses b answer → answer.number ≢ 0
  refuses_not_done x none = absurd (omega (arith, refuses_some x))

module _ {b : List ℕ} {g : Grammar} (s : Serves b g) where
  pub serves_limits : Limits g
  serves_limits = read_limits b s.read

  pub serves_well_formed : WellFormed g
  serves_well_formed = serves_limits.well_formed

  -- what a sentential form holds derives a token string
  pub serves_productive : (A : ℕ) → Reachable g A → Productive g A
  serves_productive = useful_all serves_well_formed s.useful.useful

  index_served : Served b g (index_of g)
  unfolding index_of
  index_served =
      record {
        tokens = refl;
        nonterminals = refl;
        start = refl;
        productions = refl;
        cells = places_in_length g.productions serves_limits.productions_fit;
        entry = λ {p} {A} {β} rule.
            record {
              place_fits = place_fits b s.read rule;
              within = place_within b s.read rule;
              length_fits = serves_limits.lengths_fit rule;
              left = (record_indexed b s.read rule).left;
              size = (record_indexed b s.read rule).size;
              symbols = symbol_indexed b s.read rule;
            };
      }

  pub served : {i : Index} → i ≡ index_of g → Served b g i
  served same = rw same index_served

-- books that spell the same are judged alike
module _ (b c : List ℕ) (same : spells b ≡ spells c) where
  pub refuses_alike : {answer : Answer} → Refuses c answer → Refuses b answer
  refuses_alike (misread e) = misread (same ∙ e)
  refuses_alike (useless_one e h) = useless_one (same ∙ e) h

  pub serves_alike : {g : Grammar} → Serves c g → Serves b g
  serves_alike s = record { read = same ∙ s.read; useful = s.useful }

  pub judged_alike : (r : Result Index Answer) → Judged c r → Judged b r
  judged_alike (Ok i) x = record { grammar = x.grammar; serves = serves_alike x.serves; index = x.index }
  judged_alike (Err a) x = refuses_alike x

-- a longer book is judged by its first 2,567 bytes
pub judged_by_beginning : (m : ℕ) → suc longest_book ≤ m → (b : List ℕ) (r : Result Index Answer) → Judged (take m b) r → Judged b r
judged_by_beginning m enough b = judged_alike b (take m b) (judged_by_first m enough b)
