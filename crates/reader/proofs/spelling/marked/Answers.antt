-- The letter, then `R`.
use mathlib.Core.Path.{sym, ◌∙◌}
use native.Mathlib.Numerals.{add-one}
use Rattle.std.proofs.lemmas.Result.{err_from_is_err_and}
use Rattle.reader.specs.Verdicts.{and_then}
use Rattle.reader.specs.Positional.{marked_from, wanted_from}
use Rattle.reader.proofs.spelling.marked.Goals as goal

pub returns-in_err-next : goal.returns-in_err-next
unfolding marked_from wanted_from and_then
returns-in_err-next c =
    let p = err_from_is_err_and c.from_residual.result c.from_residual.ensures.1 in
    rw (p.1, p.2, rw add-one at (sym c.wanted.ensures ∙ c.in_err-next.was))

pub returns : goal.returns
unfolding marked_from
returns c = rw (c.wanted-2.ensures, rw add-one at (sym c.wanted.ensures ∙ c.in_ok-next.was))
