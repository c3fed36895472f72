-- What building answers makes the listing: a refusal or a conflict its only line, sets and a table all lines. With
-- buffers for the sets and the table of every book there is always room.
use mathlib.Core.Path.{◌≡◌, refl, ap}
use mathlib.Core.Logic.{◌≢◌}
use mathlib.Core.List.{List, ◌++◌}
use Prim.Native.Nat.{ℕ, zero, suc, ◌+◌, ◌*◌, ◌≤◌}
use native.Mathlib.Nat.{mul-le-mul, suc-mul}
use native.Mathlib.Omega.{arith}
use lib.ListN.{length, take, drop, replicate, length-append, length-drop, length-replicate}
use lib.Seq.{take_at, take-append-le, drop-append-le}
use Rattle.grammar.specs.Grammar.{Grammar}
use Rattle.answers.specs.declared.Answer.{Answer}
use Rattle.answers.specs.Answers.{done, refusal}
use Rattle.answers.specs.Buffers.{over}
use Rattle.answers.specs.Limits.{most_tokens, most_nonterminals}
use Rattle.reader.specs.Book.{Limits}
use Rattle.book.specs.Judging.{Serves}
use Rattle.book.proofs.Promise.{refuses_some, serves_limits}
use Rattle.table.specs.Table.{size}
use Rattle.follow.specs.Calls.{SetsRoom, no_first, no_follow}
use Rattle.table.specs.Calls.{BuildOutcome}
use Rattle.table.specs.Calls as calls
use Rattle.showing.specs.Lines.{row_line, row_lines}
use Rattle.listing.specs.Writing.{header_in, HeaderOf}
use Rattle.listing.specs.Listing.{refused_line, served_text, Listing, refused, conflicted, served}
use Rattle.listing.proofs.Spelled.{serves_header}

-- a row for each nonterminal, and a column for each token and the end mark
abbrev most_table : ℕ
most_table = most_nonterminals * (most_tokens + 1)

-- no grammar that a book can hold has more cells
pub size_fits : {g : Grammar} → Limits g → size g ≤ most_table
size_fits {g} limits =
    let columns : g.tokens + 1 ≤ most_tokens + 1 = omega (arith, limits.tokens_fit) in
    mul-le-mul limits.nonterminals_fit columns

over_front : (xs buffer : List ℕ) (n : ℕ) → length xs ≡ n → take n (over xs buffer) ≡ xs
over_front xs buffer n sized = take_at xs (drop (length xs) buffer) n sized

over_length : (xs buffer : List ℕ) → length xs ≤ length buffer → length (over xs buffer) ≡ length buffer
over_length xs buffer fits = omega (arith, length-append xs (drop (length xs) buffer), length-drop (length xs) buffer)

-- cells behind the last row are not listed
rows_of : (columns A rows : ℕ) (cells more : List ℕ) → rows * columns ≤ length cells
    → row_lines columns A rows (cells ++ more) ≡ row_lines columns A rows cells
unfolding row_lines
rows_of columns A zero cells more fits = refl
rows_of columns A (suc rows) cells more fits =
    let wide : columns ≤ length cells = omega (arith, suc-mul rows columns) in
    let deep : rows * columns ≤ length (drop columns cells) = omega (arith, suc-mul rows columns, length-drop columns cells) in
    rw (take-append-le columns cells more wide, drop-append-le columns cells more wide)
    (ap (λ (text : List ℕ). row_line A (take columns cells) ++ text) (rows_of columns (suc A) rows (drop columns cells) more deep))

-- the buffers of building that is done hold what is listed of the grammar
pub record Filled (book first follow table : List ℕ) : Type 0 where
  pub grammar : Grammar
  pub header : HeaderOf grammar (header_in book)
  pub first_fits : grammar.nonterminals ≤ length first
  pub follow_fits : grammar.nonterminals ≤ length follow
  pub listing : Listing book (served_text grammar (take grammar.nonterminals first) (take grammar.nonterminals follow) table)

-- room for the sets and the table of every book, as in the local arrays of `list`
pub record Enough (first follow table : List ℕ) : Type 0 where
  pub first_room_lem : most_nonterminals ≤ length first
  pub follow_room_lem : most_nonterminals ≤ length follow
  pub table_room_lem : most_table ≤ length table

pub enough : Enough (replicate most_nonterminals 0) (replicate most_nonterminals 0) (replicate most_table 0)
enough =
    record {
      first_room_lem = omega (arith, length-replicate {A = ℕ} most_nonterminals 0);
      follow_room_lem = omega (arith, length-replicate {A = ℕ} most_nonterminals 0);
      table_room_lem = omega (arith, length-replicate {A = ℕ} most_table 0);
    }

no_room_left : {book first follow table : List ℕ} → Enough first follow table → {g : Grammar} {a : Answer} → Serves book g → SetsRoom g first follow a → ⊥
no_room_left enough s (no_first short) = omega (arith, (serves_limits s).nonterminals_fit, enough.first_room_lem)
no_room_left enough s (no_follow fits short) = omega (arith, (serves_limits s).nonterminals_fit, enough.follow_room_lem)

module _ {book first follow table : List ℕ} (enough : Enough first follow table) where
  -- whatever is refused is listed as the refusal's line
  pub listing_refused : {a : Answer} {f w t : List ℕ} → BuildOutcome book first follow table a f w t → a.number ≢ 0 → Listing book (refused_line a)
  unfolding done
  listing_refused (calls.refused r) other = refused r
  listing_refused (calls.no_room s short) other = absurd (no_room_left enough s short)
  listing_refused (calls.no_table s fit short) other = absurd (omega (arith, size_fits (serves_limits s), enough.table_room_lem))
  listing_refused (calls.conflict s fit room c) other = conflicted s c
  listing_refused (calls.served s fit room firsts follows cells) other = absurd (other refl)

  -- and what is done as all lines
  pub listing_filled : {a : Answer} {f w t : List ℕ}
      → BuildOutcome book first follow table a f w t
      → a.number ≡ 0
      → Filled book f w t
  unfolding refusal served_text
  listing_filled (calls.refused r) none = absurd (omega (arith, refuses_some r))
  listing_filled (calls.no_room s short) none = absurd (no_room_left enough s short)
  listing_filled (calls.no_table s fit short) none = absurd (omega arith)
  listing_filled (calls.conflict s fit room c) none = absurd (omega arith)
  listing_filled (calls.served {g = g} {xs = xs} {ys = ys} {cells = cells} s fit room firsts follows table_of) none =
      record {
        grammar = g;
        header = serves_header book s;
        first_fits = omega (arith, over_length xs first (omega (arith, firsts.size, fit.first_fits)), fit.first_fits);
        follow_fits = omega (arith, over_length ys follow (omega (arith, follows.size, fit.follow_fits)), fit.follow_fits);
        listing =
            rw (
              over_front xs first g.nonterminals firsts.size,
              over_front ys follow g.nonterminals follows.size,
              rows_of (g.tokens + 1) 0 g.nonterminals cells (drop (length cells) table) (omega (arith, table_of.sized)),
            )
            (served s firsts follows table_of);
      }
