-- `prepare` meets its contract: with no pattern the machine is that of empty tables; else the tables are long enough, and
-- what they make is the patterns' machine.
use mathlib.Core.Path.{sym, ◌∙◌}
use Prim.Native.Nat.{ℕ}
use native.Mathlib.Omega.{arith}
use borrow.Author.Tests.{eqb-true}
use lib.ListN.{replicate, length-replicate}
use Rattle.patterns.specs.Calls.{readers_length, follow_length, TablesFit}
use Rattle.cut.proofs.Preparing.{prepared_refused, prepared_made, prepared_nothing}
use Rattle.cut.proofs.prepare.Goals as goal

tables_fit : TablesFit (replicate readers_length 0) (replicate follow_length 0)
tables_fit =
    record {
      readers_fit = omega (arith, length-replicate {A = ℕ} readers_length 0);
      follow_fit = omega (arith, length-replicate {A = ℕ} follow_length 0);
    }

pub returns-then-is_empty : goal.returns-then-is_empty
returns-then-is_empty c =
    prepared_nothing c.args.lengths.now (eqb-true _ 0 (sym c.is_empty.ensures ∙ c.if-is_empty.true)) c.make.ensures

pub returns-then-answer-ne-DONE : goal.returns-then-answer-ne-DONE
returns-then-answer-ne-DONE c = prepared_refused tables_fit c.read-answer.ensures c.if-answer-ne-DONE.true

pub returns : goal.returns
returns c =
    prepared_made tables_fit c.read-answer.ensures c.if-answer-ne-DONE.false
    c.make-2.ensures
