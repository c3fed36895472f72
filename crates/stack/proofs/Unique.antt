-- No contract of the crate allows a second outcome.
use Rattle.std.specs.Prelude.{Option}
use mathlib.Core.Path.{◌≡◌}
use mathlib.Core.List.{List}
use Prim.Native.Nat.{ℕ, ◌+◌, ◌%◌, min}
use lib.ListN.{drop, set}
use Rattle.grammar.specs.declared.Symbol.TheVariants.{Nonterminal}
use Rattle.sets.proofs.Promise.{value_unique}
use Rattle.answers.specs.Buffers.{cleared}
use Rattle.answers.specs.Limits.{most_cells}
use Rattle.reader.specs.Book.{byte_of}
use Rattle.reader.specs.Fields.{form_in}
use Rattle.stack.specs.Ahead.{ahead_in}
use Rattle.stack.specs.Stack.{stack_bytes, replacing}

pub ahead_unique : (bytes : List ℕ) (i : ℕ) {r r' : Option ℕ}
    → r ≡ ahead_in (drop i bytes)
    → r' ≡ ahead_in (drop i bytes)
    → r ≡ r'
ahead_unique bytes i = value_unique

pub counts_unique : (cells : ℕ) {r r' : ℕ} → r ≡ min cells most_cells → r' ≡ min cells most_cells → r ≡ r'
counts_unique cells = value_unique

pub put_start_unique : (stack : List ℕ) (start : ℕ) {after after' : List ℕ}
    → after ≡ set stack 0 (byte_of (Nonterminal (start % 128)))
    → after' ≡ set stack 0 (byte_of (Nonterminal (start % 128)))
    → after ≡ after'
put_start_unique stack start = value_unique

pub replace_unique : (book : List ℕ) (at count : ℕ) (stack : List ℕ) (below : ℕ) {after after' : List ℕ}
    → after ≡ replacing (stack_bytes (form_in book (at + 4) count)) below stack
    → after' ≡ replacing (stack_bytes (form_in book (at + 4) count)) below stack
    → after ≡ after'
replace_unique book at count stack below = value_unique

pub clear_unique : (stack : List ℕ) {after after' : List ℕ}
    → after ≡ cleared stack
    → after' ≡ cleared stack
    → after ≡ after'
clear_unique stack = value_unique
