-- How much of a listing is written: with room for the longest all of it, and none where the buffer is shorter than the listing.
use Rattle.std.specs.Prelude.{Result, Ok, Err, IsOk, IsErrAnd}
use Rattle.std.specs.Result.{result_unwrap_or}
use mathlib.Core.Path.{◌≡◌, refl, ap}
use mathlib.Core.Logic.{◌↔◌}
use mathlib.Core.List.{List}
use Prim.Native.Nat.{ℕ, ◌+◌, ◌≤◌, ◌<◌}
use native.Mathlib.Nat.{zero-add}
use native.Mathlib.Omega.{arith}
use lib.ListN.{length, take, drop, length-append}
use lib.Seq.{take_at}
use Rattle.text.specs.Text.{Put}
use Rattle.text.proofs.Promise.{put_length, put_room, put_cells, put_front}
use Rattle.answers.specs.declared.Answer.{Answer}
use Rattle.answers.specs.Answers.{refusal}
use Rattle.answers.specs.Limits.{longest_book}
use Rattle.answers.specs.Refusals.{room}
use Rattle.listing.specs.Listing.{Listing}
use Rattle.listing.specs.Calls.{Listed, listed, no_room, most_listed}
use Rattle.listing.specs.Writing.{Written}
use Rattle.listing.proofs.Beginning.{listing_by_beginning}
use Rattle.listing.proofs.Lengths.{listing_length}
use Rattle.listing.proofs.Unique.{listing_unique}

pub written_within : {book before after : List ℕ} {written : ℕ} → Written book before after written → written ≤ length after
written_within w = omega (arith, put_length w.put, w.put.place)

-- with room for the longest listing the whole text is written
module _ {book before after : List ℕ} {written : ℕ} (w : Written book before after written) (enough : most_listed ≤ length before) where
  fits : length w.text ≤ length before
  fits = omega (arith, listing_length w.listing)

  pub written_size : written ≡ length w.text
  written_size = rw zero-add at (put_room w.put (omega (arith, fits)))

  pub written_front : take written after ≡ w.text
  written_front = put_front w.put fits

-- the text that was written in full is copied where it has room, and nothing is done where it has none
module _ {book blank text before : List ℕ} {size : ℕ} (w : Written book blank text size) (enough : most_listed ≤ length blank) where
  pub listed_by : {after : List ℕ} {next : ℕ}
      → size ≤ length before
      → Put before 0 (take size text) after next
      → Listed book before (Ok next) after
  listed_by small p =
      let is = written_front w enough in
      let fit : length w.text ≤ length before = omega (arith, written_size w enough) in
      let all : 0 + length w.text ≤ length before = omega (arith, fit) in
      let q = rw is at p in
      rw (put_room q all, put_cells q all, zero-add) (listed w.listing fit)

  pub unlisted_by : length before < size → Listed book before (Err (refusal room size 0)) before
  unlisted_by short =
      let is = written_size w enough in
      rw is (no_room w.listing (omega (arith, is)))

-- no more is written than there is room for
pub listed_within : {book before after : List ℕ} {r : Result ℕ Answer} → Listed book before r after → result_unwrap_or r 0 ≤ length after
listed_within {before = before} (listed {text = text} l small) = omega (arith, length-append text (drop (length text) before))
listed_within (no_room l short) = omega arith

-- 7 is given exactly if the listing is longer than the buffer
pub listed_room : {book before after text : List ℕ} {r : Result ℕ Answer}
    → Listing book text
    → Listed book before r after
    → IsErrAnd r (λ (a : Answer). a.number ≡ room) ↔ (length before < length text)
unfolding refusal
listed_room l (listed k small) = (λ e. absurd e, λ short. absurd (omega (arith, ap length (listing_unique l k))))
listed_room l (no_room k short) = (λ e. omega (arith, ap length (listing_unique l k)), λ short'. refl)

-- and then it tells how many bytes are needed
pub listed_short : {book before after text : List ℕ} {r : Result ℕ Answer}
    → Listing book text
    → Listed book before r after
    → length before < length text
    → r ≡ Err (refusal room (length text) 0)
listed_short l (listed k small) short = absurd (omega (arith, ap length (listing_unique l k)))
listed_short l (no_room k short') short = rw (listing_unique l k) refl

-- with room for the longest listing it is done
pub listed_done : {book before after : List ℕ} {r : Result ℕ Answer}
    → most_listed ≤ length before
    → Listed book before r after
    → IsOk r
listed_done enough (listed l small) = refl
listed_done enough (no_room l short) = absurd (omega (arith, listing_length l))

-- and where it is done, what is written is the listing
pub listed_front : {book before after : List ℕ} {n : ℕ}
    → Listed book before (Ok n) after
    → Listing book (take n after)
listed_front {before = before} (listed {text = text} l small) =
    rw (take_at text (drop (length text) before) (length text) refl) l

-- whoever reads only the first 2,567 bytes writes the listing of all that there is to read
pub beginning_listed : (m : ℕ)
    → longest_book < m
    → (input : List ℕ) {before after : List ℕ} {r : Result ℕ Answer}
    → most_listed ≤ length before
    → Listed (take m input) before r after
    → Listing input (take (result_unwrap_or r 0) after)
beginning_listed m past input enough (listed l small) =
    (listing_by_beginning m past input).0 (listed_front (listed l small))
beginning_listed m past input enough (no_room l short) = absurd (omega (arith, listing_length l))
