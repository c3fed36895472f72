-- What the parts come to, one after another, is what the bytes spell.
use mathlib.Core.Path.{sym}
use Rattle.std.proofs.lemmas.Result.{err_from_is_err_and}
use Rattle.reader.specs.Verdicts.{and_then}
use Rattle.reader.specs.Positional.{end_from}
use Rattle.reader.proofs.Joined.{rest_passes, spells_joined}
use Rattle.reader.proofs.walk.read.Goals as goal

pub returns-in_err-behind : goal.returns-in_err-behind
returns-in_err-behind c =
    let p = err_from_is_err_and c.from_residual.result c.from_residual.ensures.1 in
    let header = rw c.new-front.ensures at c.in_err-behind.ensures in
    rw (p.1, p.2, spells_joined c.args.book.now, header) (sym (rest_passes c.args.book.now _))

pub returns-in_err-last : goal.returns-in_err-last
unfolding end_from and_then
returns-in_err-last c =
    let p = err_from_is_err_and c.from_residual-in_err-last.result c.from_residual-in_err-last.ensures.1 in
    let header = rw c.new-front.ensures at c.in_ok-behind.ensures.1 in
    let records = rw (c.in_ok-behind.ensures.0, c.new-front.ensures) at c.in_err-last.ensures in
    rw (p.1, p.2, spells_joined c.args.book.now, header, records)

pub returns : goal.returns
unfolding end_from and_then
returns c =
    let header = rw c.new-front.ensures at c.in_ok-behind.ensures.1 in
    let records = rw (c.in_ok-behind.ensures.0, c.new-front.ensures) at c.in_ok-last.ensures.1 in
    let same = rw (c.in_ok-behind.ensures.0, c.new-front.ensures) at c.in_ok-last.ensures.0 in
    rw (c.end.ensures, same, spells_joined c.args.book.now, header, records)
