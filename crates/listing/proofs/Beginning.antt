-- A longer book is listed by its first 2,567 bytes, so that a program which reads no more lists the whole.
use mathlib.Core.Path.{◌≡◌, sym}
use mathlib.Core.Logic.{◌↔◌}
use mathlib.Core.List.{List}
use Prim.Native.Nat.{ℕ, ◌<◌}
use native.Mathlib.Omega.{arith}
use lib.ListN.{take}
use Rattle.answers.specs.Limits.{longest_book}
use Rattle.reader.specs.Book.{spells}
use Rattle.reader.proofs.Promise.{judged_by_first}
use Rattle.book.proofs.Promise.{refuses_alike, serves_alike}
use Rattle.listing.specs.Listing.{Listing, refused, conflicted, served}

-- books that spell the same are listed alike
module _ (book like : List ℕ) (same : spells book ≡ spells like) where
  listing_like : {text : List ℕ} → Listing like text → Listing book text
  listing_like (refused r) = refused (refuses_alike book like same r)
  listing_like (conflicted s c) = conflicted (serves_alike book like same s) c
  listing_like (served s h k t) = served (serves_alike book like same s) h k t

-- what is listed of the beginning is what is listed of the book
pub listing_by_beginning : (m : ℕ)
    → longest_book < m
    → (book : List ℕ) {text : List ℕ}
    → Listing (take m book) text ↔ Listing book text
listing_by_beginning m enough book =
    let same : spells (take m book) ≡ spells book = sym (judged_by_first m (omega arith) book) in
    (listing_like book (take m book) (sym same), listing_like (take m book) book same)
