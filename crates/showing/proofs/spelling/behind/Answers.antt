-- `showing::spelling::behind` meets its contract: the word, then the items.
use Rattle.text.proofs.Promise.{put_then, put_length}
use Rattle.showing.proofs.spelling.behind.Goals as goal

pub returns : goal.returns
returns g c = put_then _ _ c.put_all-place.ensures c.each.ensures

pub shape_of-out : goal.shape_of-out
shape_of-out g c = put_length (returns g c)
