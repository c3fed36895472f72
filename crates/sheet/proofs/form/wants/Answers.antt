-- The byte is the wanted one or not.
use mathlib.Core.Path.{◌≡◌, refl, ◌∙◌}
use mathlib.Core.Bool.{Bool, true, false, cond}
use Rattle.std.specs.Prelude.{Some, None}
use Rattle.std.specs.Bool.{then_some}
use Rattle.sheet.specs.declared.form.Phase.{Phase}
use Rattle.sheet.specs.Form.{wants}
use Rattle.sheet.proofs.form.wants.Goals as goal

then_some_is : (told : Bool) (next : Phase) → then_some told next ≡ cond told (Some next) None
then_some_is true next = refl
then_some_is false next = refl

pub returns : goal.returns
unfolding wants
returns c = c.then_some.ensures ∙ then_some_is _ _
