-- `parts::joins::lone` meets its contract.
use mathlib.Core.Path.{refl}
use native.Mathlib.Omega.{arith}
use Rattle.parts.proofs.PositionSets.{lone_told}
use Rattle.parts.proofs.joins.lone.Goals as goal

pub returns : goal.returns
returns c =
    record {
      place = refl;
      told = lone_told c.args.count (omega (arith, c.min.ensures)) refl c.only-set.ensures c.only-set.ensures;
    }
