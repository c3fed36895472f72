-- What the reader promises, one page: each theorem under the sentence that it proves.
-- Document 01, "The book" and "Refusals and their numbers", 1 to 5.
use mathlib.Core.Path.{◌≡◌}
use mathlib.Core.Logic.{◌≢◌}
use mathlib.Core.List.{List}
use mathlib.Core.Option.{some}
use Prim.Native.Nat.{ℕ, suc, ◌≤◌}
use native.Mathlib.Omega.{arith}
use lib.ListN.{length, take}
use Rattle.grammar.specs.declared.Symbol.{Symbol}
use Rattle.grammar.specs.Grammar.{Grammar, Known}
use Rattle.answers.specs.Limits.{longest_book}
use Rattle.answers.specs.declared.refusals.Refusal.{Refusal}
use Rattle.answers.specs.declared.refusals.Refusal.TheVariants as refusals
use Rattle.reader.specs.Book.{refused, reads, spells, symbol_of, byte_of, bytes_of, Limits, Continued}
use Rattle.reader.specs.Faults.{RefusedAt}
use Rattle.reader.specs.Fields.{symbol_of_byte}
use Rattle.reader.proofs.Bytes as bytes
use Rattle.reader.proofs.Forms as forms
use Rattle.reader.proofs.Longest as longest
use Rattle.reader.proofs.Place as place
use Rattle.reader.proofs.Written as written

-- the bytes of a grammar within the limits spell it
pub read_written : {g : Grammar}
    → Limits g
    → spells (bytes_of g) ≡ reads g
read_written = written.read_written

-- a book that spells a grammar is the bytes of that grammar
pub written_read : (b : List ℕ) {g : Grammar}
    → spells b ≡ reads g
    → b ≡ bytes_of g
written_read = written.written_read

-- and the grammar is within the limits
pub read_limits : (b : List ℕ) {g : Grammar}
    → spells b ≡ reads g
    → Limits g
read_limits = written.read_limits

-- a book that is refused has a number 1 to 5, and a place in the book, or at its end where a byte is missing
pub refused_kinds : (b : List ℕ) {why : Refusal} {k : ℕ}
    → spells b ≡ refused why k
    → RefusedAt b why k
refused_kinds = place.refused_kinds

-- a missing byte is missing behind the whole book, and the book can be continued to one that reads
pub book_short : (b : List ℕ) {k : ℕ}
    → spells b ≡ refused refusals.Short k
    → (k ≡ length b) × Continued b
book_short = place.book_short

-- the bytes before a bad byte can be continued to a book that reads, and with that byte they cannot
pub book_place : (b : List ℕ) {why : Refusal} {k : ℕ}
    → spells b ≡ refused why k
    → why ≢ refusals.Short
    → Continued (take k b) × (¬ Continued (take (suc k) b))
book_place = place.book_place

-- no book that reads is longer than 2,566 bytes
pub longest_book_lem : (b : List ℕ) {g : Grammar}
    → spells b ≡ reads g
    → length b ≤ longest_book
longest_book_lem = longest.longest_book_lem

-- and one is as long
pub longest_reads : (b : List ℕ) × (g : Grammar) × (spells b ≡ reads g) × (length b ≡ longest_book)
longest_reads = longest.longest_reads

-- no refusal names a place further on
pub refused_within : (b : List ℕ) {why : Refusal} {k : ℕ}
    → spells b ≡ refused why k
    → k ≤ longest_book
refused_within = longest.refused_within

-- so what a longer book spells, its beginning spells, of one byte more than the longest book has
pub judged_by_first : (b : List ℕ) → spells b ≡ spells (take (suc longest_book) b)
judged_by_first = longest.judged_by_first (suc longest_book) (omega arith)

-- a byte that is a symbol of a grammar is the byte of that symbol, which is known
pub symbol_of_known : {g : Grammar} (b : ℕ) {s : Symbol}
    → symbol_of g.tokens g.nonterminals b ≡ some s
    → (b ≡ byte_of s) × Known g s
symbol_of_known = bytes.symbol_of_known

-- whatever symbol a byte stands for by its place, it is the byte of that symbol
pub byte_of_symbol : (b : ℕ) → byte_of (symbol_of_byte b) ≡ b
byte_of_symbol = forms.byte_of_symbol
