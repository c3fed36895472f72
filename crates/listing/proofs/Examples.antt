-- The listings of document 01's books, by computing the definitions: H, and the refused H1, I, J and nothing at all.
use mathlib.Core.Path.{◌≡◌, refl, subst}
use mathlib.Core.List.{List, []}
use Prim.Native.Nat.{ℕ}
use native.Mathlib.Omega.{arith}
use Rattle.grammar.specs.House.{house}
use Rattle.text.specs.Text.{digit, last_digits, decimal, hex_digits, hexadecimal}
use Rattle.answers.specs.Answers.{refusal}
use Rattle.reader.specs.Book.{wanted, marked, spells}
use Rattle.book.specs.Examples.{house_book, useless_book}
use Rattle.book.specs.Judging.{misread}
use Rattle.book.proofs.Promise.{house_serves, useless_refused}
use Rattle.first.specs.Examples.{house_first_sets}
use Rattle.follow.specs.Examples.{house_follow_sets}
use Rattle.table.specs.Examples.{house_table, conflicted_house_book, nested_book}
use Rattle.first.proofs.Promise.{house_first_sets_lem}
use Rattle.follow.proofs.Promise.{house_follow_sets_lem}
use Rattle.table.proofs.Promise.{house_table_of, conflicted_house_build, nested_build}
use Rattle.showing.specs.Words.{each, number_text, set_text}
use Rattle.showing.specs.Lines.{numbers_line, set_line, set_lines, cell_text, row_line, row_lines}
use Rattle.listing.specs.Examples.{house_text, conflicted_house_text, useless_text, nested_text, nothing_text}
use Rattle.listing.specs.Listing.{refused_line, grammar_line, served_text, Listing, refused, served}
use Rattle.listing.proofs.Built.{enough, listing_refused}

house_lines : served_text house house_first_sets house_follow_sets house_table ≡ house_text
unfolding house house_first_sets house_follow_sets house_table house_text digit last_digits decimal hex_digits hexadecimal each number_text set_text numbers_line grammar_line set_line set_lines cell_text row_line row_lines served_text
house_lines = refl

-- H's listing is the text that document 01 prints
pub house_listing : Listing house_book house_text
house_listing = subst (λ (text : List ℕ). Listing house_book text) house_lines (served house_serves house_first_sets_lem house_follow_sets_lem house_table_of)

-- H1: 8, place 12, detail 515
pub conflicted_house_listing : Listing conflicted_house_book conflicted_house_text
unfolding refusal refused_line numbers_line each number_text decimal last_digits digit conflicted_house_text
conflicted_house_listing = listing_refused enough (conflicted_house_build (omega arith) (omega arith) (omega arith)) (λ e. omega arith)

-- I: 6, place 1
pub useless_listing : Listing useless_book useless_text
unfolding refusal refused_line numbers_line each number_text decimal last_digits digit useless_text
useless_listing = refused useless_refused

-- J: 8, place 1, detail 1
pub nested_listing : Listing nested_book nested_text
unfolding refusal refused_line numbers_line each number_text decimal last_digits digit nested_text
nested_listing = listing_refused enough (nested_build (omega arith) (omega arith) (omega arith)) (λ e. omega arith)

-- the first byte is missing: 1, place 0
pub nothing_listing : Listing [] nothing_text
unfolding refusal refused_line numbers_line each number_text decimal last_digits digit nothing_text spells marked wanted
nothing_listing = refused (misread refl)
