-- What is proved of the pieces of a line, one page: each theorem under the sentence that it proves.
use Rattle.std.specs.Prelude.{Ok, Err}
use mathlib.Core.Path.{◌≡◌}
use mathlib.Core.List.{List, [], ◌∷◌, ◌++◌}
use mathlib.Core.Logic.{◌↔◌}
use mathlib.Core.Option.{some}
use Prim.Native.Nat.{ℕ, ◌≤◌, ◌<◌}
use native.Mathlib.Omega.{arith}
use lib.ListN.{length, get_elem?}
use Rattle.sets.specs.Calls.{no_set}
use Rattle.answers.specs.declared.Answer.{Answer}
use Rattle.answers.specs.Answers.{done, stop}
use Rattle.answers.specs.Limits.{most_patterns}
use Rattle.answers.specs.Refusals.{no_token, room, token_room}
use Rattle.pieces.specs.Cut.{Ending}
use Rattle.pieces.specs.declared.Stuck.TheVariants.{NoRoom}
use Rattle.pieces.specs.Cut.{Piece, ends_of, TokenAt, NoTokenAt, Cut}
use Rattle.pieces.specs.Calls.{CutWithOutcome}
use Rattle.pieces.specs.Examples.{line, one_row}
use Rattle.pieces.specs.Laid.{LaidOut, CutStopped, StandsIn, end_before}
use Rattle.pieces.specs.Meanings.{Agree, Picks, Only, OfParts, TokenKnown}
use Rattle.pieces.specs.Rows.{Says, Closed}
use Rattle.pieces.proofs.Beginning as beginning
use Rattle.pieces.proofs.Deciding as deciding
use Rattle.pieces.proofs.Exact as exact
use Rattle.pieces.proofs.Examples as examples
use Rattle.pieces.proofs.Laying as laying
use Rattle.pieces.proofs.Parts as parts
use Rattle.pieces.proofs.Matching as matching
use Rattle.pieces.proofs.Standing as standing
use Rattle.pieces.proofs.Unique as unique
use Rattle.pieces.proofs.Walks as walks

module _ {M : ℕ → List ℕ → Type 0} where
  -- a string begins with one token at most
  pub token_unique : {w : List ℕ} {j k m n : ℕ} → TokenAt M w j m → TokenAt M w k n → (j ≡ k) × (m ≡ n)
  token_unique t s = unique.token_unique t s

  -- and not with one and with none
  pub token_not_none : {w : List ℕ} {k n : ℕ} → TokenAt M w k n → ¬ NoTokenAt M w
  token_not_none t none = unique.token_not_none t none

  -- a line has one cut
  pub cut_unique : {room place : ℕ} {w : List ℕ} {pieces pieces' : List Piece} {ending ending' : Ending}
      → Cut M room place w pieces ending
      → Cut M room place w pieces' ending'
      → (pieces ≡ pieces') × (ending ≡ ending')
  cut_unique cut cut' = unique.cut_unique cut cut'

  -- cut to its end, it is its pieces in order, with nothing but spaces before, between and behind them
  pub cut_keeps_all : {room place : ℕ} {w : List ℕ} {pieces : List Piece}
      → Cut M room place w pieces (Ok tt)
      → LaidOut place pieces w
  cut_keeps_all cut = laying.cut_keeps_all cut

  -- in every case the pieces and spaces stand in front of the place where the cut ends, and there it is told why
  pub cut_stops : {room place : ℕ} {w : List ℕ} {pieces : List Piece} {ending : Ending}
      → Cut M room place w pieces ending
      → CutStopped M room place w pieces ending
  cut_stops cut = laying.cut_stops cut

  -- each piece is matched by its pattern
  pub cut_matches : {room place : ℕ} {w : List ℕ} {pieces : List Piece} {ending : Ending}
      → Cut M room place w pieces ending
      → (i : ℕ) (p : Piece)
      → get_elem? pieces i ≡ some p
      → M p.number p.bytes
  cut_matches cut i p at = matching.cut_matches cut i p at

  -- as many token cells as the line has bytes are always enough
  pub room_enough : {room place q : ℕ} {w : List ℕ} {pieces : List Piece}
      → length w ≤ room
      → ¬ Cut M room place w pieces (Err (NoRoom q))
  room_enough enough cut = omega (arith, matching.room_lacking cut)

  -- piece i starts at the first byte that is no space from the end before on, and is the line from its start to its end
  pub cut_ends : {room : ℕ} {line : List ℕ} {pieces : List Piece} {ending : Ending}
      → Cut M room 0 line pieces ending
      → (i : ℕ) (p : Piece)
      → get_elem? pieces i ≡ some p
      → StandsIn line (end_before pieces i) p
  cut_ends cut i p at = standing.cut_ends cut i p at

  -- where each string is known to begin with a token or with none, every line has a cut
  pub cut_exists : ((w : List ℕ) → TokenKnown M w)
      → (room place : ℕ) (w : List ℕ)
      → (pieces : List Piece) × (ending : Ending) × Cut M room place w pieces ending
  cut_exists decided room place w = deciding.cut_exists M decided room place w

  -- it is known where the meaning is decidable and has a bounded number of patterns
  pub meaning_decided : ((k : ℕ) (u : List ℕ) → Dec (M k u))
      → (bound : ℕ)
      → ((k : ℕ) (u : List ℕ) → M k u → k < bound)
      → (w : List ℕ)
      → TokenKnown M w
  meaning_decided decide bound bounded w = deciding.meaning_decided decide bound bounded w

module _ {M N : ℕ → List ℕ → Type 0} where
  -- the ends of the pieces tell their starts and bytes, whatever the meanings
  pub ends_tell : {room room' : ℕ} {line : List ℕ} {pieces pieces' : List Piece} {ending ending' : Ending}
      → Cut M room 0 line pieces ending
      → Cut N room' 0 line pieces' ending'
      → ends_of pieces ≡ ends_of pieces'
      → (i : ℕ) (p q : Piece)
      → get_elem? pieces i ≡ some p
      → get_elem? pieces' i ≡ some q
      → (p.place ≡ q.place) × (p.bytes ≡ q.bytes)
  ends_tell cut cut' same i p q at at' = standing.ends_tell cut cut' same i p q at at'

  -- meanings that say the same of every string cut alike
  pub cut_exact : {room place : ℕ} {w : List ℕ} {pieces : List Piece} {ending : Ending}
      → Agree M N
      → Cut M room place w pieces ending
      → Cut N room place w pieces ending
  cut_exact agree cut = exact.cut_exact agree cut

  -- and so does one that says of every string only the lowest pattern that matches it
  pub cut_lowest : {room place : ℕ} {w : List ℕ} {pieces : List Piece} {ending : Ending}
      → Picks N M
      → Cut N room place w pieces ending ↔ Cut M room place w pieces ending
  cut_lowest picks = exact.cut_lowest picks

-- what a meaning says of strings that are no parts of the line does not matter
pub cut_parts : {M : ℕ → List ℕ → Type 0} {Q : List ℕ → Type 0} {room place : ℕ} {w : List ℕ} {pieces : List Piece}
    {ending : Ending}
    → OfParts Q w
    → Cut M room place w pieces ending ↔ Cut (Only Q M) room place w pieces ending
cut_parts has = parts.cut_parts has

module _ {cells : List ℕ} where
  -- cells say one token at most of a string
  pub says_unique : {j k : ℕ} {u : List ℕ} → Says cells j u → Says cells k u → j ≡ k
  says_unique one other = walks.says_unique one other

  -- whether they say it is decidable
  pub says_decidable : (k : ℕ) (u : List ℕ) → Dec (Says cells k u)
  says_decidable k u = deciding.says_decidable cells k u

  -- what stands behind the rows of a machine says nothing
  pub says_beginning : {rows k : ℕ} {u : List ℕ} (more : List ℕ)
      → Closed cells rows
      → Says cells k u ↔ Says (cells ++ more) k u
  says_beginning more closed = beginning.says_beginning cells more closed

-- a cut with given cells has an outcome, whatever the cells, the line and the buffers
pub cut_with_exists : (machine line tokens ends : List ℕ)
    → (answer : Answer) × (tokens' : List ℕ) × (ends' : List ℕ)
    × CutWithOutcome machine line tokens ends answer tokens' ends'
cut_with_exists machine line tokens ends = deciding.cut_with_exists machine line tokens ends

-- and only one
pub cut_with_unique : {machine line tokens ends tokens' tokens'' ends' ends'' : List ℕ} {answer answer' : Answer}
    → CutWithOutcome machine line tokens ends answer tokens' ends'
    → CutWithOutcome machine line tokens ends answer' tokens'' ends''
    → (answer ≡ answer') × (tokens' ≡ tokens'') × (ends' ≡ ends'')
cut_with_unique one other = unique.cut_with_unique one other

-- " ab c" by one row that leads to itself, with token k: below 62 it is the token of "ab c"; with no token cell the
-- line is refused where that starts; from 62 on it counts as none
pub token_below_limit : (k : ℕ)
    → k < most_patterns
    → CutWithOutcome (one_row 0 k) line (9 ∷ 9 ∷ []) (7 ∷ 7 ∷ []) (done 1) (k ∷ 9 ∷ []) (5 ∷ 7 ∷ [])
token_below_limit k counts = examples.token_below_limit k counts

pub no_cell_for_it : (k : ℕ)
    → k < most_patterns
    → CutWithOutcome (one_row 0 k) line [] (7 ∷ []) (stop room 1 token_room 0 no_set) [] (7 ∷ [])
no_cell_for_it k counts = examples.no_cell_for_it k counts

pub token_past_limit : (k : ℕ)
    → most_patterns ≤ k
    → CutWithOutcome (one_row 0 k) line (9 ∷ []) (7 ∷ []) (stop no_token 1 0 0 no_set) (9 ∷ []) (7 ∷ [])
token_past_limit k past = examples.token_past_limit k past

-- by a row whose bytes lead to no row, and by no cells, it has no token
pub no_such_row : CutWithOutcome (one_row 1 5) line (9 ∷ []) (7 ∷ []) (stop no_token 1 0 0 no_set) (9 ∷ []) (7 ∷ [])
no_such_row = examples.no_such_row

pub no_cells : CutWithOutcome [] line (9 ∷ []) (7 ∷ []) (stop no_token 1 0 0 no_set) (9 ∷ []) (7 ∷ [])
no_cells = examples.no_cells
