-- The invariant: the columns passed are collected.
use mathlib.Core.Path.{◌≡◌}
use Rattle.grammar.specs.Grammar.{Grammar}
use Rattle.sets.specs.Calls.{number}
use Rattle.book.specs.Columns.{Outlines}
use Rattle.slr_run.specs.Running.{slr_filled_below}
use Rattle.slr_run.proofs.answering.expects.Given as goal

abbrev pub invariant-loop-column : goal.invariant-loop-column
invariant-loop-column l =
    (g : Grammar) → Outlines l.outline g → number l.columns ≡ slr_filled_below g l.table l.state l.column
