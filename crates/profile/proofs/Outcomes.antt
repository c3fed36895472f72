-- What is at hand on the way to a run on a plain book, and what the run comes to.
use Rattle.std.specs.Prelude.{Ok}
use mathlib.Core.Path.{◌≡◌, ◌∙◌, sym, ap, subst}
use mathlib.Core.List.{List}
use Prim.Native.Nat.{ℕ, ◌+◌, ◌*◌, ◌≤◌}
use native.Mathlib.Omega.{arith}
use lib.ListN.{take}
use Rattle.grammar.specs.Grammar.{Grammar}
use Rattle.grammar.proofs.Theorems.{plain_no_conflict}
use Rattle.answers.specs.declared.Answer.{Answer}
use Rattle.book.specs.declared.Index.{Index}
use Rattle.book.specs.Columns.{grammar_in}
use Rattle.book.specs.Judging.{index_of}
use Rattle.book.proofs.Promise.{reading_grammar, serves_limits}
use Rattle.table.specs.Table.{TableOf, BuiltWithoutConflict}
use Rattle.table.specs.Vacancy.{Vacancy}
use Rattle.table.proofs.Promise.{given_size, taken_vacant, table_fits}
use Rattle.run.specs.Judged.{RanOn, no_stack, ended, JudgedRun, refused, ran_on}
use Rattle.run.specs.Running.{RunOutcome}
use Rattle.run.specs.Running as running
use Rattle.run.specs.Tokens.{BarredTokens, KnownTokens}
use Rattle.run.proofs.Promise.{tokens_barred}
use Rattle.profile.specs.Breaking.{PlainRefused}
use Rattle.profile.specs.Breaking as breaking
use Rattle.profile.specs.Entering.{Enterable, PlainBook, PlainCells}
use Rattle.profile.specs.Plain.{PlainRunOutcome, runs}
use Rattle.profile.specs.Plain as plain

-- what the profile refuses is refused of a run too
pub told_refused : {book tokens stack list : List ℕ} {a : Answer}
    → PlainRefused book a
    → PlainRunOutcome book tokens stack list a stack list
told_refused (breaking.unfit s l) = plain.unfit s l

-- the grammar of a plain book is what its index finds
module _ {book : List ℕ} {i : Index} (x : PlainBook book i) where
  grammar_is : grammar_in book i ≡ x.given.grammar
  grammar_is = reading_grammar x.given.serves x.given.index

  -- of enough vacant cells the first are cells for its table
  pub cells_ready : {most : ℕ} {cells : List ℕ}
      → i.outline.nonterminals * (i.outline.tokens + 1) ≤ most
      → Vacancy most cells
      → PlainCells book i (take (i.outline.nonterminals * (i.outline.tokens + 1)) cells)
  cells_ready {cells = cells} fits vacancy =
      record {
        book_is = x;
        vacant = subst (λ (n : ℕ). Vacancy n (take (i.outline.nonterminals * (i.outline.tokens + 1)) cells)) (given_size x.given) (taken_vacant fits vacancy);
      }

module _ {book : List ℕ} {i : Index} {cells : List ℕ} (x : PlainCells book i cells) where
  pub ready_heads : Enterable (grammar_in book i) cells
  ready_heads =
      subst (λ (g : Grammar). Enterable g cells) (sym (grammar_is x.book_is))
      (record { plain = x.book_is.plain; limits = serves_limits x.book_is.given.serves; vacant = x.vacant })

  module _ {table : List ℕ} (entered : TableOf (grammar_in book i) table) where
    made : TableOf x.book_is.given.grammar table
    made = subst (λ (h : Grammar). TableOf h table) (grammar_is x.book_is) entered

    abbrev built : BuiltWithoutConflict book table
    built =
        record {
          grammar = x.book_is.given.grammar;
          serves = x.book_is.given.serves;
          no_conflict = plain_no_conflict x.book_is.plain;
          built = made;
        }

    tokens_same : i.outline.tokens ≡ x.book_is.given.grammar.tokens
    unfolding index_of
    tokens_same = ap (λ (y : Index). y.outline.tokens) x.book_is.given.index

    module _ {tokens stack list : List ℕ} where
      -- a string that is refused is refused alike on the table
      pub entered_barred : {a : Answer}
          → BarredTokens i.outline.tokens tokens a
          → PlainRunOutcome book tokens stack list a stack list
      entered_barred bad =
          runs built x.book_is.plain (running.barred x.book_is.given.serves (tokens_barred tokens_same (table_fits made) bad))

      -- and otherwise the run on the judged book is the run
      pub entered_ran : {r : Answer} {stack' list' : List ℕ}
          → KnownTokens i.outline.tokens tokens
          → JudgedRun book (Ok i) table tokens stack list r stack' list'
          → PlainRunOutcome book tokens stack list r stack' list'
      entered_ran told ran = runs built x.book_is.plain (go ran)
        where
          known : KnownTokens x.book_is.given.grammar.tokens tokens
          known = subst (λ (t : ℕ). KnownTokens t tokens) tokens_same told

          on : {r : Answer} {s l : List ℕ} → RanOn x.book_is.given.grammar table tokens stack list r s l → RunOutcome book table tokens stack list r s l
          on (no_stack e) =
              running.barred x.book_is.given.serves (running.no_stack (table_fits made) known.short known.known e)
          on (ended h) =
              running.ended x.book_is.given.serves
              (record { fits = table_fits made; short = known.short; known = known.known; stacked = h })

          go : {r : Answer} {s l : List ℕ} → JudgedRun book (Ok i) table tokens stack list r s l → RunOutcome book table tokens stack list r s l
          go (refused e) = let bad : ◌≡◌ {A = ℕ} 0 1 = cc in absurd (omega arith)
          go {r} {s} {l} (ran_on {index = j} e p) =
              let same : i ≡ j = cc in
              on (subst (λ (h : Grammar). RanOn h table tokens stack list r s l) (ap (λ (y : Index). grammar_in book y) (sym same) ∙ grammar_is x.book_is) p)
