-- A verdict that goes on means that the book spells a grammar.
use Rattle.std.proofs.lemmas.Result.{err_from_is_err_and}
use Rattle.book.specs.Judging.{misread}
use Rattle.reader.proofs.Promise.{verdict_reads, verdict_refused}
use Rattle.book.proofs.judging.judge.Goals as goal

pub indexed-requires : goal.indexed-requires
indexed-requires c = verdict_reads _ c.read.ensures c.in_ok-read.was

pub returns-in_err-read : goal.returns-in_err-read
returns-in_err-read c =
    let p = err_from_is_err_and c.from_residual.result c.from_residual.ensures.1 in
    rw (p.1, p.2) (misread (verdict_refused _ c.read.ensures c.in_err-read.was))
