-- `showing::lines::numbers_line` meets its contract: the word and the numbers, then the end of the line.
use mathlib.Core.List.{[], ◌∷◌}
use Rattle.text.proofs.Promise.{put_length}
use Rattle.showing.specs.Words.{newline, numbered}
use Rattle.showing.specs.Lines.{numbers_line}
use Rattle.showing.proofs.Parts.{put_behind}
use Rattle.showing.proofs.lines.numbers_line.Goals as goal

pub returns : goal.returns
unfolding numbers_line
returns c =
    put_behind c.args.name.now (numbered c.args.told.now) (newline ∷ [])
    c.numbers-place.ensures c.put.ensures

pub shape_of-out : goal.shape_of-out
shape_of-out c = put_length (returns c)
