-- The answer with no expected set.
use mathlib.Core.Path.{◌∙◌, ap}
use Rattle.sets.proofs.Promise.{none_is, number_unique}
use Rattle.answers.specs.Answers.{refusal, stop}
use Rattle.answers.proofs.refusal.Goals as goal

pub returns : goal.returns
unfolding refusal stop
returns g c =
    let args = c.args in
    c.stop.ensures ∙ ap (stop (g.W.Numbered.numbered args.why) args.place args.detail 0) (number_unique (none_is c.none.ensures))
