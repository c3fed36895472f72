-- The values, with the most stack cells held.
use mathlib.Core.Path.{◌∙◌, ap}
use Rattle.answers.specs.declared.Answer.{Answer}
use Rattle.answers.specs.Answers.{at_depth}
use Rattle.expand.proofs.answer_to.Goals as goal

pub returns : goal.returns
returns c = c.at_depth.ensures ∙ ap (λ (a : Answer). at_depth c.args.u.deepest a) c.values_of-values.ensures
