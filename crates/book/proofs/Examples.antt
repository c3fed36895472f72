-- H serves its grammar, I is refused with 6, and each refusal 1 to 5 is met: no premise about books is empty.
use mathlib.Core.Path.{◌≡◌, refl, subst}
use mathlib.Core.List.{List, [], ◌∷◌, ◌++◌}
use Prim.Native.Nat.{ℕ}
use native.Mathlib.Omega.{arith}
use lib.Dec.{lit<}
use Rattle.grammar.specs.Grammar.{Useful}
use Rattle.grammar.specs.House.{house}
use Rattle.grammar.proofs.House.{house_useful_lem}
use Rattle.grammar.proofs.WorkedUseful.{productives, usefuls, productive_test, useful_test, has, has_every, productives_sound, usefuls_sound, usefuls_exact}
use Rattle.answers.specs.Answers.{refusal}
use Rattle.answers.specs.declared.refusals.Refusal.TheVariants as refusals
use Rattle.reader.specs.Book.{refused, reads, spells, marked, wanted, records, symbols, symbol_of, ending}
use Rattle.book.specs.Examples.{GR, PR, house_book, useless_book, useless_grammar}
use Rattle.book.specs.Judging.{LowestUseless, Refuses, useless_one, Serves}

pub house_reads : spells house_book ≡ reads house
unfolding spells marked wanted records symbols symbol_of ending house_book house
house_reads = refl

pub house_serves : Serves house_book house
house_serves = record { read = house_reads; useful = record { useful = house_useful_lem } }

-- nothing at all; a wrong second mark byte; a byte behind H; T out of range, though the book ends there; a left side that is N
no_byte : spells [] ≡ refused refusals.Short 0
unfolding spells marked wanted
no_byte = refl

wrong_mark : spells (0x47 ∷ 0x50 ∷ []) ≡ refused refusals.Mark 1
unfolding spells marked wanted
wrong_mark = refl

byte_behind : spells (house_book ++ 0x00 ∷ []) ≡ refused refusals.Extra 39
unfolding spells marked wanted records symbols symbol_of ending house_book
byte_behind = refl

tokens_over : spells (GR (63 ∷ [])) ≡ refused refusals.Limit 2
unfolding spells marked wanted
tokens_over = refl

left_side_strange : spells (GR (1 ∷ 1 ∷ 0 ∷ 1 ∷ []) ++ PR (1 ∷ [])) ≡ refused refusals.Symbol 8
unfolding spells marked wanted records symbols symbol_of ending
left_side_strange = refl

-- I: refused with 6, place 1, though an order that takes out the unreachable first would pass it
useless_lowest : LowestUseless useless_grammar 1
unfolding useless_grammar productives usefuls has productive_test useful_test
useless_lowest =
    let M : List ℕ = productives useless_grammar 3 in
    let U : List ℕ = usefuls useless_grammar M 3 in
    let sound = usefuls_sound useless_grammar (productives_sound useless_grammar 3) tt 3 in
    record {
      inside = lit< tt;
      useless = λ u. (usefuls_exact useless_grammar (productives_sound useless_grammar 3) tt sound tt 1).1 u;
      lowest = λ B h. let zeroth : 0 ≡ B = omega arith in subst (Useful useless_grammar) zeroth (has_every (Useful useless_grammar) sound 0 tt);
    }

pub useless_refused : Refuses useless_book (refusal 6 1 0)
unfolding spells marked wanted records symbols symbol_of ending useless_book useless_grammar
useless_refused = useless_one {g = useless_grammar} refl useless_lowest
