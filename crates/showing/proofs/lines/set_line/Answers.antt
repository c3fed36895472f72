-- `showing::lines::set_line` meets its contract: the word and the number, then the set, then the end of the line.
use mathlib.Core.List.{[], ◌∷◌, ◌++◌}
use Rattle.sets.specs.Calls.{number}
use Rattle.text.proofs.Promise.{put_then, put_length}
use Rattle.showing.specs.Words.{newline, numbered, set_text}
use Rattle.showing.specs.Lines.{set_line}
use Rattle.showing.proofs.Parts.{put_behind}
use Rattle.showing.proofs.lines.set_line.Goals as goal

pub returns : goal.returns
unfolding set_line set_text
returns c =
    let text = set_text (number c.args.set) in
    put_behind c.args.name.now (numbered (c.args.n ∷ [])) (text ++ (newline ∷ [])) c.numbers-named.ensures
    (put_then text (newline ∷ []) (rw c.word.ensures at c.spaced-place.ensures) c.put.ensures)

pub shape_of-out : goal.shape_of-out
shape_of-out c = put_length (returns c)
