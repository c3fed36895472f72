-- Nothing where there is no room, else the bytes at the front.
use Rattle.sheet.specs.Calls.{no_room}
use Rattle.sheet.proofs.Copying.{copied_written}
use Rattle.sheet.proofs.writing.copy.Goals as goal

pub returns-then-out-bytes : goal.returns-then-out-bytes
returns-then-out-bytes c = rw c.refusal.ensures (no_room c.if-out-bytes.true)

pub returns : goal.returns
returns c =
    rw c.done.ensures (copied_written c.write_front.ensures c.if-out-bytes.false)
