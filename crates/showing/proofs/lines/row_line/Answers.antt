-- `showing::lines::row_line` meets its contract: `row` and the nonterminal, then the cells, then the end of the line.
use mathlib.Core.List.{[], ◌∷◌, ◌++◌}
use Rattle.text.proofs.Promise.{put_then, put_length}
use Rattle.showing.specs.Words.{newline, numbered}
use Rattle.showing.specs.Lines.{row_word, cells_text, cell_text, row_line}
use Rattle.showing.proofs.Parts.{put_behind}
use Rattle.showing.proofs.lines.row_line.Goals as goal

pub returns : goal.returns
unfolding row_line cell_text
returns c =
    let text = cells_text c.args.row.now in
    put_behind row_word (numbered (c.args.nonterminal ∷ [])) (text ++ (newline ∷ [])) c.numbers-named.ensures
    (put_then text (newline ∷ []) c.each-place.ensures c.put.ensures)

pub shape_of-out : goal.shape_of-out
shape_of-out c = put_length (returns c)
