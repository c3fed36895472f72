-- The form first.
use Rattle.sheet.specs.Calls.{malformed}
use Rattle.sheet.proofs.reading.read.Goals as goal

pub returns-in-Err : goal.returns-in-Err
returns-in-Err c = rw c.refusal.ensures (malformed c.in-Err.ensures)
