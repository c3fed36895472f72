-- The laws by which the code of `booking` puts a book together: symbol by symbol, line by line.
use mathlib.Core.Path.{◌≡◌, refl, sym, ap, ◌∙◌, subst}
use mathlib.Core.Bool.{Bool, true, false, cond}
use mathlib.Core.List.{List, [], ◌∷◌, ◌++◌}
use Prim.Native.Nat.{ℕ, zero, suc, ◌-◌, ◌≤◌, ◌<◌}
use native.Mathlib.Omega.{arith}
use lib.ListN.{length, take}
use Rattle.answers.specs.Limits.{most_symbols}
use Rattle.text.specs.declared.Number.{Number}
use Rattle.text.specs.Text.{Put}
use Rattle.text.proofs.Promise.{put_then, put_room, put_front, Completes, completes_start, completes_more, completes_all}
use Rattle.sheet.specs.Judging.{past, is_space, symbol_number, left_number, right_place}
use Rattle.sheet.specs.Booking.{byte_from, byte_in, number_byte, right_in, right_end, record_in, line_after, records_in, head_bytes, book_in, Copies}
use Rattle.sheet.specs.declared.judging.Head.{Head}
use Rattle.sheet.specs.declared.booking.Places.{Places}

module _ (text : List ℕ) where
  right_next : (room at : ℕ) → 0 < room → is_space text at ≡ true
      → right_in text room at ≡ byte_in text at ∷ right_in text (room - 1) (symbol_number text at).next
  unfolding right_in
  right_next zero at some more = absurd (omega arith)
  right_next (suc room) at some more = let less : suc room - 1 ≡ room = omega arith in rw (more, less)

  end_next : (room at : ℕ) → 0 < room → is_space text at ≡ true → right_end text room at ≡ right_end text (room - 1) (symbol_number text at).next
  unfolding right_end
  end_next zero at some more = absurd (omega arith)
  end_next (suc room) at some more = let less : suc room - 1 ≡ room = omega arith in rw (more, less)

  right_none : (room at : ℕ) → (0 < room → is_space text at ≡ false) → right_in text room at ≡ []
  unfolding right_in
  right_none zero at none = refl
  right_none (suc room) at none = rw (none (omega arith))

  end_none : (room at : ℕ) → (0 < room → is_space text at ≡ false) → right_end text room at ≡ at
  unfolding right_end
  end_none zero at none = refl
  end_none (suc room) at none = rw (none (omega arith))

  right_length : (room at : ℕ) → length (right_in text room at) ≤ room
  unfolding right_in
  right_length zero at = omega arith
  right_length (suc room) at = by (is_space text at) (right_length room (symbol_number text at).next)
    where
      by : (x : Bool) → length (right_in text room (symbol_number text at).next) ≤ room
          → length (cond x (byte_in text at ∷ right_in text room (symbol_number text at).next) []) ≤ suc room
      by true less = omega arith
      by false less = omega arith

-- the symbols that are left, put from here on, make the whole; the place behind them is that behind the whole
pub record Listing (text before : List ℕ) (from room at : ℕ) (between : List ℕ) (middle : ℕ) : Type 0 where
  pub completes : Completes before 0 (right_in text most_symbols from) between middle (right_in text room at)
  pub end : right_end text room at ≡ right_end text most_symbols from

pub listing_start : (text before : List ℕ) (from : ℕ) → Listing text before from most_symbols from before 0
listing_start text before from =
    record { completes = completes_start before 0 (right_in text most_symbols from); end = refl }

pub listing_turn : {text before between further : List ℕ} {from room at middle later b : ℕ} {number : Number}
    → Listing text before from room at between middle
    → 0 < room
    → is_space text at ≡ true
    → number ≡ symbol_number text at
    → b ≡ byte_from text at number.value
    → Put between middle (b ∷ []) further later
    → Listing text before from (room - 1) number.next further later
unfolding byte_in
listing_turn {text} {before} {between} {further} {from} {room} {at} {middle} {later} listing some more told same put =
    let whole : List ℕ = right_in text most_symbols from in
    let left : List ℕ = right_in text (room - 1) (symbol_number text at).next in
    let split : Completes before 0 whole between middle (byte_in text at ∷ left) =
    subst (λ (rest : List ℕ). Completes before 0 whole between middle rest) (right_next text room at some more) listing.completes in
    rw told
    (record {
      completes = completes_more (byte_in text at ∷ []) left split (rw (same, told) at put);
      end = sym (end_next text room at some more) ∙ listing.end;
    })

pub listing_end : {text before between : List ℕ} {from room at middle : ℕ}
    → Listing text before from room at between middle
    → (0 < room → is_space text at ≡ false)
    → Copies before 0 (right_in text most_symbols from) (right_end text most_symbols from) between (record { sheet = at; book = middle })
listing_end {text} {before} {between} {from} {room} {at} {middle} listing none =
    let whole : List ℕ = right_in text most_symbols from in record {
      put =
          completes_all
          (subst (λ (rest : List ℕ). Completes before 0 whole between middle rest) (right_none text room at none) listing.completes);
      read = sym (end_none text room at none) ∙ listing.end;
    }

-- the symbols of a line in a local buffer
module _ (text : List ℕ) (at : ℕ) {blank symbols : List ℕ} {r : Places}
    (copies : Copies blank 0 (right_in text most_symbols at) (right_end text most_symbols at) symbols r) (enough : most_symbols ≤ length blank) where
  fits : length (right_in text most_symbols at) ≤ length blank
  fits = omega (arith, right_length text most_symbols at)

  pub listed_size : r.book ≡ length (right_in text most_symbols at)
  listed_size = omega (arith, put_room copies.put (omega (arith, fits)))

  pub listed_front : take r.book symbols ≡ right_in text most_symbols at
  listed_front = put_front copies.put fits

-- a record, part by part
pub record_put : (text : List ℕ) (place : ℕ) {blank symbols before one two three four after : List ℕ} {at i j k l next right : ℕ} {number : Number} {r : Places}
    → right ≡ right_place text place
    → Copies blank 0 (right_in text most_symbols right) (right_end text most_symbols right) symbols r
    → most_symbols ≤ length blank
    → Put before at (80 ∷ []) one i
    → Put one i (82 ∷ []) two j
    → number ≡ left_number text place
    → Put two j (number_byte number) three k
    → Put three k (r.book ∷ []) four l
    → Put four l (take r.book symbols) after next
    → Copies before at (record_in text place) (line_after text place) after (record { sheet = past text r.sheet; book = next })
unfolding record_in line_after
record_put text place {right = right} {number = number} {r = r} here copies enough p q left s t u =
    let symbols : List ℕ = right_in text most_symbols right in
    let size : r.book ≡ length symbols = listed_size text right copies enough in
    let listed : List ℕ = length symbols ∷ symbols in
    rw (← here, ← left)
    (record {
      put =
          put_then (80 ∷ []) (82 ∷ (number_byte number ++ listed)) p
          (put_then (82 ∷ []) (number_byte number ++ listed) q
          (put_then (number_byte number) listed s
          (put_then (length symbols ∷ []) symbols (rw size at t) (rw (listed_front text right copies enough) at u))));
      read = ap (past text) copies.read;
    })

-- the records that are left, put from here on, make the whole
pub records_turn : (text : List ℕ) {before between further : List ℕ} {at middle : ℕ} {r : Places} (whole : List ℕ) (left from : ℕ)
    → Completes before at whole between middle (records_in text left from)
    → 0 < left
    → Copies between middle (record_in text from) (line_after text from) further r
    → Completes before at whole further r.book (records_in text (left - 1) r.sheet)
unfolding records_in
records_turn text whole zero from completes some copies = absurd (omega arith)
records_turn text {r = r} whole (suc left) from completes some copies =
    let less : suc left - 1 ≡ left = omega arith in
    rw (less, copies.read) (completes_more (record_in text from) (records_in text left (line_after text from)) completes copies.put)

pub records_end : (text : List ℕ) {before between : List ℕ} {at middle : ℕ} (whole : List ℕ) (left from : ℕ)
    → Completes before at whole between middle (records_in text left from)
    → left ≤ 0
    → Put before at whole between middle
unfolding records_in
records_end text whole zero from completes none = completes_all completes
records_end text whole (suc left) from completes none = absurd (omega arith)

pub head_put : {before one two three four five after : List ℕ} {i j k l m next : ℕ} (head : Head)
    → Put before 0 (71 ∷ []) one i
    → Put one i (82 ∷ []) two j
    → Put two j (number_byte head.tokens) three k
    → Put three k (number_byte head.nonterminals) four l
    → Put four l (number_byte head.start) five m
    → Put five m (number_byte head.count) after next
    → Put before 0 (head_bytes head) after next
unfolding head_bytes
head_put head p q r s t u =
    let fourth : List ℕ = number_byte head.count in
    let third : List ℕ = number_byte head.start ++ fourth in
    let second : List ℕ = number_byte head.nonterminals ++ third in
    put_then (71 ∷ []) (82 ∷ (number_byte head.tokens ++ second)) p
    (put_then (82 ∷ []) (number_byte head.tokens ++ second) q
    (put_then (number_byte head.tokens) second r
    (put_then (number_byte head.nonterminals) third s
    (put_then (number_byte head.start) fourth t u))))

pub book_put : (text : List ℕ) {before one after : List ℕ} {i next from : ℕ} (head : Head)
    → Put before 0 (head_bytes head) one i
    → from ≡ past text head.count.next
    → Put one i (records_in text head.count.value from) after next
    → Put before 0 (book_in text head) after next
unfolding book_in
book_put text {from = from} head p here q =
    rw (← here) (put_then (head_bytes head) (records_in text head.count.value from) p q)
