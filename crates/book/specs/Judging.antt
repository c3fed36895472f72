-- What judging a book answers: the refusal 1 to 5 that its bytes spell, refusal 6, or the index of its grammar.
-- Document 01, "The book" and "Refusals and their numbers".
use Rattle.std.specs.Prelude.{◌≡◌, List, [], ◌∷◌, ◌++◌, ℕ, ◌+◌, ◌-◌, ◌<◌, length, replicate, Result, MatchResult}
use Rattle.grammar.specs.Grammar.{Production, Grammar, Useful}
use Rattle.answers.specs.Limits.{most_productions}
use Rattle.answers.specs.declared.Answer.{Answer}
use Rattle.answers.specs.Answers.{refusal}
use Rattle.answers.specs.declared.refusals.Refusal.{Refusal}
use Rattle.answers.specs.Refusals.{number_of, useless}
use Rattle.reader.specs.Book.{refused, reads, spells}
use Rattle.book.specs.declared.Index.{Index}

pub record AllUseful (g : Grammar) : Type 0 where
  pub useful : (A : ℕ) → A < g.nonterminals → Useful g A

-- A is the lowest nonterminal that occurs in no derivation of a token string from the start symbol
pub record LowestUseless (g : Grammar) (A : ℕ) : Type 0 where
  pub inside : A < g.nonterminals
  pub useless : ¬ Useful g A
  pub lowest : (B : ℕ) → B < A → Useful g B

-- the place of each record, the first of them at a place
unfoldable pub record_places : ℕ → List Production → List ℕ
record_places at [] = []
record_places at (r ∷ rest) = at ∷ record_places (at + 4 + length r.right) rest

-- the places of a grammar's records, and 0 in each of the 128 cells beyond them
unfoldable pub places_in : List Production → List ℕ
places_in ps = record_places 6 ps ++ replicate (most_productions - length ps) 0

unfoldable pub index_of : Grammar → Index
index_of g =
    record {
      outline =
          record {
            tokens = g.tokens;
            nonterminals = g.nonterminals;
            start = g.start;
            productions = length g.productions;
          };
      places = places_in g.productions;
    }

-- the book is refused with this answer, 1 to 5 or 6
pub data Refuses (book : List ℕ) : Answer → Type 0 where
  misread : {why : Refusal} {place : ℕ} → spells book ≡ refused why place → Refuses book (refusal (number_of why) place 0)
  useless_one : {g : Grammar} {A : ℕ}
      → spells book ≡ reads g
      → LowestUseless g A
      → Refuses book (refusal useless A 0)

-- the book spells this grammar and is not refused
pub record Serves (book : List ℕ) (g : Grammar) : Type 0 where
  pub read : spells book ≡ reads g
  pub useful : AllUseful g

-- the index of the grammar that the book serves
pub record Indexes (book : List ℕ) (i : Index) : Type 0 where
  pub grammar : Grammar
  pub serves : Serves book grammar
  pub index : i ≡ index_of grammar

-- an index, or the answer with which the book is refused
abbrev pub Judged : List ℕ → Result Index Answer → Type 0
Judged book r = MatchResult r (Indexes book) (Refuses book)
