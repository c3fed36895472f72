-- A verdict that goes on means that the book spells a grammar.
use Rattle.reader.proofs.Promise.{verdict_reads, verdict_refused}
use Rattle.sheet.specs.Calls.{misread}
use Rattle.sheet.proofs.writing.write.Goals as goal

pub write_read-requires : goal.write_read-requires
write_read-requires c = verdict_reads _ c.read.ensures c.in-Ok.is

pub returns-in-Err : goal.returns-in-Err
returns-in-Err c =
    rw c.from.ensures
    (misread (verdict_refused _ c.read.ensures c.in-Err.is))
