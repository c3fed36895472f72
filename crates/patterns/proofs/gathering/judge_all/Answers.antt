use mathlib.Core.Path.{refl, ◌∙◌}
use Rattle.patterns.proofs.Gathered.{judged_none, bad_more, good_more}
use Rattle.patterns.proofs.gathering.judge_all.Goals as goal

pub loop-number-init : goal.loop-number-init
loop-number-init c = (refl, refl, judged_none)

pub returns-in-Err : goal.returns-in-Err
returns-in-Err c = bad_more c.loop-number.invariant.2 c.loop-number-test.true c.end_of-end.ensures c.in-Err.ensures

pub loop-number-preserved : goal.loop-number-preserved
loop-number-preserved c =
    let loop = c.loop-number in (
      c.pattern.auto.readers ∙ loop.invariant.0,
      c.finish.auto.follow ∙ (c.pattern.auto.follow ∙ loop.invariant.1),
      good_more loop.invariant.2 c.loop-number-test.true c.end_of-end.ensures c.in-Ok.ensures c.finish.ensures,
    )
