-- A run stage by stage, with the number of tokens that it matched: checks and steps on a grammar, then the judging too.
-- Document 01, "Running and expanding". Only contracts inside the crate cite what stands here.
use Rattle.std.specs.Prelude.{◌≡◌, List, ℕ}
use Rattle.grammar.specs.Grammar.{Grammar}
use Rattle.book.specs.Judging.{Serves}
use Rattle.run.specs.Running.{RunOutcome, matched_in}
use Rattle.run.specs.declared.Account.{Account}

-- a run, and the number of tokens that it matched
pub record Accounted (book table tokens stack list : List ℕ) (r : Account) (stack' list' : List ℕ) : Type 0 where
  pub run : RunOutcome book table tokens stack list r.answer stack' list'
  pub matched : r.matched ≡ matched_in run

-- of any book that serves the grammar
pub record AccountedOn (g : Grammar) (table tokens stack list : List ℕ) (r : Account) (stack' list' : List ℕ)
    : Type 0 where
  pub served : {book : List ℕ} → Serves book g → Accounted book table tokens stack list r stack' list'
