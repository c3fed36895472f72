-- The right side of a production by the column of lengths, and the height of the stack that it is put on.
use mathlib.Core.Path.{◌≡◌, refl, ◌∙◌, ap}
use mathlib.Core.Logic.{◌≢◌}
use mathlib.Core.List.{List, [], ◌∷◌, ◌++◌}
use Prim.Native.Nat.{ℕ, zero, suc, ◌+◌, ◌-◌, ◌<◌}
use native.Mathlib.Decide.{dec_lt}
use native.Mathlib.Omega.{arith}
use lib.ListN.{length, get_or, length-append}
use Rattle.grammar.specs.declared.Symbol.{Symbol}
use Rattle.reader.specs.Fields.{symbol_of_byte, form_in}
use Rattle.book.specs.declared.Index.{Index}
use Rattle.book.specs.Columns.{production_at, grammar_in, Lengths}
use Rattle.book.proofs.Promise.{production_found, production_missing}
use Rattle.machine.specs.Room.{right_of}
use Rattle.stack.specs.Sides.{RightSide}
use Rattle.stack.specs.Stack.{spelled_by}
use Rattle.stack.proofs.Stacked.{length_symbols, length_spelled}

-- the column tells how many symbols the right side has
pub right_side : (book : List ℕ) (index : Index) (p : ℕ) {lengths : List ℕ} {count : ℕ}
    → Lengths book index lengths
    → count ≡ get_or lengths p 0
    → RightSide book index p count
unfolding right_of production_at form_in
right_side book index p {lengths} {count} column e = record { symbols = go (dec_lt p index.outline.productions) }
  where
    go : Dec (p < index.outline.productions) → right_of (grammar_in book index) p ≡ form_in book (get_or index.places p 0 + 4) count
    go (yes h) = rw (production_found book index.places index.outline h, right_of, e ∙ column.inside p h)
    go (no n) = rw (production_missing book index.places index.outline {p = p} (omega arith), right_of, e ∙ column.beyond p (omega arith))

pub spelled_none : (stack : List ℕ) {height : ℕ} → height ≡ 0 → spelled_by stack height ≡ []
unfolding spelled_by
spelled_none stack e = rw e

pub spelled_top : (stack : List ℕ) (height : ℕ) {x : Symbol}
    → height ≢ 0
    → x ≡ symbol_of_byte (get_or stack (height - 1) 0)
    → spelled_by stack height ≡ x ∷ spelled_by stack (height - 1)
unfolding spelled_by
spelled_top stack zero n e = absurd (n refl)
spelled_top stack (suc h) n e = let one : suc h - 1 ≡ h = omega arith in rw (e, one)

-- the length of the stack after a replacement
pub replaced_length : {book : List ℕ} {index : Index} {p count : ℕ}
    → RightSide book index p count
    → (stack : List ℕ) (below : ℕ)
    → length (right_of (grammar_in book index) p ++ spelled_by stack below) ≡ below + count
replaced_length {book} {index} {p} {count} side stack below =
    length-append (right_of (grammar_in book index) p) (spelled_by stack below)
    ∙ omega (arith, ap length side.symbols, length_symbols book (get_or index.places p 0 + 4) count, length_spelled stack below)
