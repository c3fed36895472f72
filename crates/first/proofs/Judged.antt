-- A judged book that is not refused gives its grammar: the numbers of its index, and the records that it lists.
use mathlib.Core.Path.{◌≡◌, sym, ap}
use mathlib.Core.List.{List}
use Prim.Native.Nat.{ℕ, ◌≤◌}
use native.Mathlib.Omega.{arith}
use lib.ListN.{length, take}
use lib.Seq.{length-take-le}
use Rattle.answers.specs.Limits.{most_nonterminals, most_productions}
use Rattle.book.specs.declared.Index.{Index}
use Rattle.reader.specs.Book.{Limits}
use Rattle.book.specs.Judging.{index_of, Indexes}
use Rattle.book.proofs.Promise.{Served, served, serves_limits}
use Rattle.first.specs.Forms.{Readable, Lists}
use Rattle.first.proofs.Spelled.{lists_readable}

module _ {book : List ℕ} {index : Index} (given : Indexes book index) where
  pub given_served : Served book given.grammar index
  given_served = served given.serves given.index

  pub given_limits : Limits given.grammar
  given_limits = serves_limits given.serves

  pub given_lists : Lists book index.places index.outline.productions given.grammar
  unfolding index_of
  given_lists = record { serves = given.serves; placed = ap (λ (i : Index). i.places) given.index; counted = given_served.productions }

  pub given_readable : Readable book index.places index.outline.productions
  given_readable = lists_readable given_lists

  pub given_count : index.outline.productions ≤ most_productions
  given_count = rw given_served.productions given_limits.productions_fit

  pub given_nonterminals : index.outline.nonterminals ≤ most_nonterminals
  given_nonterminals = rw given_served.nonterminals given_limits.nonterminals_fit

  -- the first N cells of a family are N
  pub given_part : (cells : List ℕ)
      → length cells ≡ most_nonterminals
      → index.outline.nonterminals ≡ length (take index.outline.nonterminals cells)
  given_part cells sized = sym (length-take-le index.outline.nonterminals cells (omega (arith, given_nonterminals)))
