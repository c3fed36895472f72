-- The member is added to none.
use mathlib.Core.Path.{◌∙◌}
use Rattle.sets.proofs.single.Goals as goal

pub returns : goal.returns
returns c =
    record {
      fits = c.with.ensures.fits;
      members = λ k. c.with.ensures.members k ∙ rw (c.none.ensures.members k);
    }
