-- What working out FIRST and FIRST of a symbol string answer, for every book.
-- Document 01, "Refusals and their numbers" and "Sets and table"; document 02, W5.
use Rattle.std.specs.Prelude.{◌≡◌, ◌≢◌, List, map, ℕ, ◌<◌, ◌≤◌, length, get_or, replicate, Result, MatchResult}
use Rattle.std.proofs.Math.Option.{some}
use Rattle.grammar.specs.declared.Symbol.{Symbol}
use Rattle.grammar.specs.Grammar.{Form, Grammar, Member, First}
use Rattle.grammar.specs.Vanishing.{Vanishes}
use Rattle.sets.specs.Calls.{number}
use Rattle.answers.specs.declared.Answer.{Answer}
use Rattle.answers.specs.Answers.{refusal}
use Rattle.answers.specs.Refusals.{limit, symbol}
use Rattle.answers.specs.Limits.{most_nonterminals, most_symbols}
use Rattle.book.specs.declared.Index.{Index}
use Rattle.reader.specs.Book.{symbol_of}
use Rattle.book.specs.Judging.{Refuses, Serves, Indexes}
use Rattle.first.specs.declared.forms.Trail.{Trail}
use Rattle.first.specs.Numbers.{IsSet, FirstFamily}

-- the index of the grammar that the book serves, and FIRST of each of its nonterminals
pub record FirstServed (book first : List ℕ) (index : Index) : Type 0 where
  pub given : Indexes book index
  pub family : FirstFamily given.grammar first

-- an index and FIRST of each nonterminal; with a refusal no member anywhere
abbrev pub FirstWorkedOut : List ℕ → Result Index Answer → List ℕ → Type 0
FirstWorkedOut book r first =
    MatchResult r (FirstServed book first) (λ a. Refuses book a × (first ≡ replicate most_nonterminals 0))

abbrev pub FirstResult : Type 0
FirstResult = Result Index Answer × List ℕ

-- a set, and how many leading symbols of a form can vanish
pub record SetFor (P : Member → Type 0) (g : Grammar) (α : Form) (t : Trail) : Type 0 where
  pub holds : IsSet (number t.set) P
  pub leading : Vanishes g α t.vanishing

-- the bytes before index i are symbols of the grammar, that at i is not
pub record FirstStranger (g : Grammar) (symbols : List ℕ) (i : ℕ) : Type 0 where
  pub inside : i < length symbols
  pub stranger : (s : Symbol) → symbol_of g.tokens g.nonterminals (get_or symbols i 0) ≢ some s
  pub earlier : (j : ℕ)
      → j < i
      → (s : Symbol) × (symbol_of g.tokens g.nonterminals (get_or symbols j 0) ≡ some s)

-- the refusal of the book, or of a symbol string
pub data FirstRefused (book symbols : List ℕ) : Answer → Type 0 where
  refused : {a : Answer}
      → Refuses book a
      → FirstRefused book symbols a
  too_long : {g : Grammar}
      → Serves book g
      → most_symbols < length symbols
      → FirstRefused book symbols (refusal limit most_symbols 0)
  strange : {g : Grammar} {i : ℕ}
      → Serves book g
      → length symbols ≤ most_symbols
      → FirstStranger g symbols i
      → FirstRefused book symbols (refusal symbol i 0)

-- FIRST of the form that a symbol string spells, and how many of its leading symbols can vanish
pub record FirstTold (book symbols : List ℕ) (t : Trail) : Type 0 where
  pub grammar : Grammar
  pub form : Form
  pub serves : Serves book grammar
  pub short : length symbols ≤ most_symbols
  pub spelled : map (symbol_of grammar.tokens grammar.nonterminals) symbols ≡ map some form
  pub told : SetFor (First grammar form) grammar form t

-- one of them
abbrev pub FirstOutcome : (book symbols : List ℕ) → Result Trail Answer → Type 0
FirstOutcome book symbols r = MatchResult r (FirstTold book symbols) (FirstRefused book symbols)
