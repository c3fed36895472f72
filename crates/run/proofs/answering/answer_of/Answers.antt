-- The values, with the most stack cells held.
use Rattle.run.proofs.Expected.{answers_at}
use Rattle.run.proofs.answering.answer_of.Goals as goal

pub returns : goal.returns
returns c = answers_at _ c.progress_of-at.ensures c.values_of-values.ensures c.at_depth.ensures
