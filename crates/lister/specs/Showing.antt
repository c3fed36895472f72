-- What the lister shows of an input of which it reads no more than its buffer holds.
-- Document 01, "The lister and the examples": "The lister reads a book on standard input".
use Rattle.std.specs.Prelude.{◌≡◌, List, ℕ, ◌≤◌, ◌<◌, length, take}
use Rattle.answers.specs.Limits.{longest_book}
use Rattle.listing.specs.Listing.{Listing}
use Rattle.listing.specs.Calls.{most_listed}

-- the buffers are large enough: one byte more than the longest book, and the longest listing
pub record Roomy (book : List ℕ) (size : ℕ) (text : List ℕ) : Type 0 where
  pub read : size ≤ length book
  pub beginning : longest_book < length book
  pub room : most_listed ≤ length text

-- if the bytes read are the input as far as the buffer goes, the front of the text is the listing of the whole input
pub record Shows (book : List ℕ) (size : ℕ) (text : List ℕ) (shown : ℕ) : Type 0 where
  pub within : shown ≤ length text
  pub listing : (input : List ℕ) → take (length book) input ≡ take size book → Listing input (take shown text)
