-- What a cut with given machine cells answers and leaves. Document 02, W3: "Then along the line 15 no token, or 7,
-- detail 2, token buffer; place the byte where that token starts, tokens written stay. Steps count them, also when
-- done".
use Rattle.std.specs.Prelude.{◌≡◌, List, ℕ, length, take}
use Rattle.answers.specs.declared.Answer.{Answer}
use Rattle.answers.specs.Buffers.{over}
use Rattle.pieces.specs.Cut.{Ending, Piece, numbers_of, ends_of, Cut, answer_of}
use Rattle.pieces.specs.Rows.{Says}

-- the line is cut by what the cells say; of the tokens written, the first as many as `ends` has cells get the place
-- behind them
pub record CutWithOutcome (machine line tokens ends : List ℕ) (answer : Answer) (tokens' ends' : List ℕ) : Type 0 where
  pub pieces : List Piece
  pub ending : Ending
  pub cut : Cut (Says machine) (length tokens) 0 line pieces ending
  pub answered : answer ≡ answer_of ending (length pieces)
  pub numbers : tokens' ≡ over (numbers_of pieces) tokens
  pub places : ends' ≡ over (take (length ends) (ends_of pieces)) ends
