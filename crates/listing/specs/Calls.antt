-- What listing a book answers and leaves in the lent buffer, for every book and buffer, and how much room is enough.
-- Document 01, "The lister and the examples", and "Refusals and their numbers": 7, and fields not named are 0.
use Rattle.std.specs.Prelude.{List, Result, Ok, Err, ℕ, ◌+◌, ◌*◌, ◌≤◌, ◌<◌, length}
use Rattle.answers.specs.declared.Answer.{Answer}
use Rattle.answers.specs.Answers.{refusal}
use Rattle.answers.specs.Buffers.{over}
use Rattle.answers.specs.Limits.{most_nonterminals}
use Rattle.answers.specs.Refusals.{room}
use Rattle.listing.specs.Listing.{Listing}

-- so many bytes: the book's listing stands in the buffer from the front, and what stood beyond stays; or 7 with the bytes that
-- are needed as place, and nothing is written
pub data Listed (book before : List ℕ) : Result ℕ Answer → List ℕ → Type 0 where
  listed : {text : List ℕ}
      → Listing book text
      → length text ≤ length before
      → Listed book before (Ok (length text)) (over text before)
  no_room : {text : List ℕ}
      → Listing book text
      → length before < length text
      → Listed book before (Err (refusal room (length text) 0)) before

-- no listing is longer: the grammar's line has at most 21 characters, and each nonterminal a `first` line of at most
-- 26, a `follow` line of at most 27, and a `row` line of at most 259, with 63 cells of at most three digits
abbrev pub most_listed : ℕ
most_listed = 21 + most_nonterminals * (26 + 27 + 259)
