-- The invariant: the columns passed are collected.
use mathlib.Core.Path.{◌≡◌}
use Rattle.grammar.specs.Grammar.{Grammar}
use Rattle.sets.specs.Calls.{number}
use Rattle.book.specs.Columns.{Outlines}
use Rattle.offer.specs.Stops.{filled_below}
use Rattle.run.proofs.answering.row_columns.Given as goal

abbrev pub invariant-loop-j : goal.invariant-loop-j
invariant-loop-j l =
    (g : Grammar) → Outlines l.outline g → number l.columns ≡ filled_below g l.table l.n l.j
