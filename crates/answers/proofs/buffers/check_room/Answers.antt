-- A buffer that is too short is refused.
use Rattle.answers.specs.Checks.{because}
use Rattle.answers.proofs.buffers.check_room.Goals as goal

pub returns-then-have-want : goal.returns-then-have-want
returns-then-have-want g c = rw (c.refusal.ensures, c.told_detail-detail.ensures) (because c.if-have-want.true)
