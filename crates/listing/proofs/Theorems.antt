-- What listing promises, one page: each theorem under the sentence that it proves.
use Rattle.std.specs.Prelude.{Result, Ok, Err, IsOk, IsErrAnd}
use Rattle.std.specs.Result.{result_unwrap_or}
use mathlib.Core.Path.{◌≡◌}
use mathlib.Core.Logic.{◌↔◌}
use mathlib.Core.List.{List, []}
use Prim.Native.Nat.{ℕ, ◌+◌, ◌≤◌, ◌<◌}
use native.Mathlib.Omega.{arith}
use lib.ListN.{length, take}
use Rattle.answers.specs.declared.Answer.{Answer}
use Rattle.answers.specs.Answers.{refusal}
use Rattle.answers.specs.Limits.{longest_book}
use Rattle.answers.specs.Refusals.{room}
use Rattle.book.specs.Examples.{house_book, useless_book}
use Rattle.table.specs.Examples.{conflicted_house_book, nested_book}
use Rattle.listing.specs.Listing.{Listing}
use Rattle.listing.specs.Calls.{Listed, most_listed}
use Rattle.listing.specs.Examples.{house_text, conflicted_house_text, useless_text, nested_text, nothing_text}
use Rattle.listing.proofs.Unique as unique
use Rattle.listing.proofs.Lengths as lengths
use Rattle.listing.proofs.Beginning as beginning
use Rattle.listing.proofs.Whole as whole
use Rattle.listing.proofs.Examples as examples

-- a book has one listing
pub listing_unique : {book one other : List ℕ} → Listing book one → Listing book other → one ≡ other
listing_unique = unique.listing_unique

-- listing a book into a buffer has one outcome: the answer, and what stands in the buffer
pub listed_unique : {book before after after' : List ℕ} {r r' : Result ℕ Answer}
    → Listed book before r after
    → Listed book before r' after'
    → (r ≡ r') × (after ≡ after')
listed_unique = unique.listed_unique

-- no listing is longer, of whatever book
pub listing_length : {book text : List ℕ} → Listing book text → length text ≤ most_listed
listing_length = lengths.listing_length

module _ {book before after : List ℕ} {r : Result ℕ Answer} where
  -- no more is written than there is room for
  pub listed_within : Listed book before r after → result_unwrap_or r 0 ≤ length after
  listed_within = whole.listed_within

  -- 7 is given exactly if the listing is longer than the buffer
  pub listed_room : {text : List ℕ}
      → Listing book text
      → Listed book before r after
      → IsErrAnd r (λ (a : Answer). a.number ≡ room) ↔ (length before < length text)
  listed_room = whole.listed_room

  -- and then it tells how many bytes are needed
  pub listed_short : {text : List ℕ}
      → Listing book text
      → Listed book before r after
      → length before < length text
      → r ≡ Err (refusal room (length text) 0)
  listed_short = whole.listed_short

  -- with room for the longest listing it is done
  pub listed_done : most_listed ≤ length before → Listed book before r after → IsOk r
  listed_done = whole.listed_done

-- and where it is done, what is written is the listing
pub listed_front : {book before after : List ℕ} {n : ℕ}
    → Listed book before (Ok n) after
    → Listing book (take n after)
listed_front = whole.listed_front

-- a longer book is listed by its first 2,567 bytes
pub listing_by_beginning : (book : List ℕ) {text : List ℕ}
    → Listing (take (longest_book + 1) book) text ↔ Listing book text
listing_by_beginning = beginning.listing_by_beginning (longest_book + 1) (omega arith)

-- so a program that reads no more of its input, and has room for the longest listing, writes the listing of all of it
pub beginning_listed : (input : List ℕ) {before after : List ℕ} {r : Result ℕ Answer}
    → most_listed ≤ length before
    → Listed (take (longest_book + 1) input) before r after
    → Listing input (take (result_unwrap_or r 0) after)
beginning_listed = whole.beginning_listed (longest_book + 1) (omega arith)

-- H is listed as document 01 prints it
pub house_listing : Listing house_book house_text
house_listing = examples.house_listing

-- and H1, I, J and a book of no bytes as their refusals
pub conflicted_house_listing : Listing conflicted_house_book conflicted_house_text
conflicted_house_listing = examples.conflicted_house_listing

pub useless_listing : Listing useless_book useless_text
useless_listing = examples.useless_listing

pub nested_listing : Listing nested_book nested_text
nested_listing = examples.nested_listing

pub nothing_listing : Listing [] nothing_text
nothing_listing = examples.nothing_listing
