-- `showing::words::answer` meets its contract: the word and the answer's numbers, then the expected set.
use mathlib.Core.List.{[], ◌∷◌}
use Rattle.sets.specs.Calls.{number}
use Rattle.text.proofs.Promise.{put_length}
use Rattle.showing.specs.Words.{numbered, set_text, answer_text}
use Rattle.showing.proofs.Parts.{put_behind}
use Rattle.showing.proofs.words.answer.Goals as goal

pub returns : goal.returns
unfolding answer_text set_text
returns c =
    put_behind c.args.name.now (numbered (c.args.answer.number ∷ c.args.answer.place ∷ c.args.answer.detail ∷ c.args.answer.steps ∷ [])) (set_text (number c.args.answer.expected))
    c.numbers-place.ensures (rw c.word.ensures at c.spaced.ensures)

pub shape_of-out : goal.shape_of-out
shape_of-out c = put_length (returns c)
