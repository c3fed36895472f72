-- The values, with the most states held.
use Rattle.slr_run.proofs.Expected.{answers_at}
use Rattle.slr_run.proofs.answering.answer_of.Goals as goal

pub returns : goal.returns
returns c = answers_at _ c.stage_of-at.ensures c.values_of-values.ensures c.at_depth.ensures
