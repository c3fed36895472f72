-- `showing::spelling::spaced` meets its contract: a space, then the item.
use mathlib.Core.List.{[], ◌∷◌}
use Rattle.text.proofs.Promise.{put_then, put_length}
use Rattle.showing.specs.Words.{space}
use Rattle.showing.proofs.spelling.spaced.Goals as goal

pub returns : goal.returns
returns g c = put_then (space ∷ []) (g.S.Spelling.spelled c.args.item) c.put-place.ensures c.put.ensures

pub shape_of-out : goal.shape_of-out
shape_of-out g c = put_length (returns g c)
