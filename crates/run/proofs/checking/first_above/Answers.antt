-- None is above the limit if the highest is not.
use native.Mathlib.Omega.{arith}
use Rattle.run.proofs.checking.first_above.Goals as goal

pub returns-then-highest-limit : goal.returns-then-highest-limit
returns-then-highest-limit c = λ j h above. omega (arith, above, c.highest.ensures j h, c.if-highest-limit.true)
