-- The cell on top gives way to a right side: where it fits, and where nothing changes.
use mathlib.Core.Path.{◌≡◌, ◌∙◌}
use mathlib.Core.Bool.{and-false}
use mathlib.Core.List.{List}
use Prim.Native.Nat.{ℕ, ◌+◌, ◌≤◌, ◌<◌}
use native.Mathlib.Omega.{arith}
use borrow.Author.Tests.{lt-ltb, le-ltb, le-leb, lt-leb}
use lib.Dec.{ltb}
use lib.ListN.{length, set}
use lib.Seq.{sets}
use Rattle.reader.specs.Fields.{form_in}
use Rattle.stack.specs.Stack.{stack_bytes, replacing}
use Rattle.stack.proofs.Stacked.{length_bytes, length_symbols}

pub bytes_length : (book : List ℕ) (from count : ℕ) → length (stack_bytes (form_in book from count)) ≡ count
bytes_length book from count = length_bytes (form_in book from count) ∙ length_symbols book from count

module _ (book : List ℕ) (from count below : ℕ) (buffer : List ℕ) where
  abbrev bytes : List ℕ
  bytes = stack_bytes (form_in book from count)

  pub replacing_fits : below < length buffer
      → below + count ≤ length buffer
      → replacing bytes below buffer ≡ sets (set buffer below 0) below bytes
  unfolding replacing
  replacing_fits h k =
      let fits : below + length bytes ≤ length buffer = omega (arith, bytes_length book from count) in
      rw (lt-ltb below (length buffer) h, le-leb (below + length bytes) (length buffer) fits, replacing)

  pub replacing_no_cell : length buffer ≤ below → replacing bytes below buffer ≡ buffer
  unfolding replacing
  replacing_no_cell h = rw (le-ltb below (length buffer) h, replacing)

  pub replacing_no_room : length buffer < below + count → replacing bytes below buffer ≡ buffer
  unfolding replacing
  replacing_no_room h =
      let long : length buffer < below + length bytes = omega (arith, bytes_length book from count) in
      rw (lt-leb (below + length bytes) (length buffer) long, and-false (ltb below (length buffer)), replacing)
