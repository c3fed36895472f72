-- `t`, or what is wanted otherwise.
use Rattle.sheet.proofs.Stepping.{letter_t_lem, letter_other}
use Rattle.sheet.proofs.form.letter.Goals as goal

pub returns-then-byte-eq116 : goal.returns-then-byte-eq116
returns-then-byte-eq116 c = letter_t_lem c.args.byte c.if-byte-eq116.true

pub returns-else-byte-eq116 : goal.returns-else-byte-eq116
returns-else-byte-eq116 c = letter_other c.args.byte c.if-byte-eq116.false c.wants.ensures
