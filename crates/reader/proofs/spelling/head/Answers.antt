-- `PR`, the left side, the length, each where the one before it was right.
use mathlib.Core.Path.{sym, ◌∙◌}
use Rattle.std.proofs.lemmas.Result.{err_from_is_err_and}
use Rattle.reader.specs.Verdicts.{and_then}
use Rattle.reader.specs.Positional.{wanted_from, left_from, head_from}
use Rattle.reader.proofs.spelling.head.Goals as goal

pub returns-in_err-left : goal.returns-in_err-left
unfolding head_from left_from wanted_from and_then
returns-in_err-left c =
    let p = err_from_is_err_and c.from_residual.result c.from_residual.ensures.1 in
    rw (p.1, p.2, sym c.marked.ensures ∙ c.in_err-left.was)

pub returns-in_err-length : goal.returns-in_err-length
unfolding head_from left_from wanted_from and_then
returns-in_err-length c =
    let p = err_from_is_err_and c.from_residual-in_err-length.result c.from_residual-in_err-length.ensures.1 in
    rw (p.1, p.2, sym c.marked.ensures ∙ c.in_ok-left.was, sym c.wanted.ensures ∙ c.in_err-length.was)

pub returns : goal.returns
unfolding head_from left_from
returns c =
    rw (c.wanted-2.ensures, sym c.marked.ensures ∙ c.in_ok-left.was, sym c.wanted.ensures ∙ c.in_ok-length.was)
