use mathlib.Core.Path.{refl}
use Rattle.stack.proofs.Sides.{right_side}
use Rattle.stack.proofs.rules.Rules.length.Goals as goal

pub returns : goal.returns
returns c = right_side _ _ _ c.args.self.now.gathered refl
