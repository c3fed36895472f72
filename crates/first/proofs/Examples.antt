-- The starred examples of this layer: FIRST of H, and of its n2 and n3 put together.
use mathlib.Core.Path.{◌≡◌, refl}
use mathlib.Core.List.{List, [], ◌∷◌, map}
use mathlib.Core.Option.{some}
use Prim.Native.Nat.{ℕ, ◌≤◌}
use native.Mathlib.Omega.{arith}
use lib.ListN.{length}
use Rattle.grammar.specs.declared.Symbol.TheVariants.{Nonterminal}
use Rattle.grammar.specs.Grammar.{Form, Every, nothing, each, Known, known_nonterminal, First}
use Rattle.grammar.specs.House.{house}
use Rattle.grammar.specs.Next.{merged}
use Rattle.grammar.proofs.Sets.{first_not_end}
use Rattle.grammar.proofs.House.{house_first, house_first_exact}
use Rattle.sets.specs.Sets.{empty_string, member, only, united, added, removed, joined}
use Rattle.std.specs.Prelude.{Ok}
use Rattle.answers.specs.Limits.{most_symbols}
use Rattle.reader.specs.Book.{symbol_of}
use Rattle.book.specs.Examples.{house_book}
use Rattle.book.proofs.Promise.{house_serves, serves_limits}
use Rattle.first.specs.Numbers.{FirstSets}
use Rattle.first.specs.Trail.{symbol_set, trail, vanishing}
use Rattle.first.specs.Calls.{FirstTold}
use Rattle.first.specs.Examples.{house_first_sets, told_first, HouseJoined}
use Rattle.first.proofs.Closed.{first_is, sets_at}
use Rattle.first.proofs.JoinedCalls.{first_of_joined}
use Rattle.first.proofs.Vanishing.{vanishing_is}
use Rattle.first.proofs.Members.{at_merged}
use Rattle.first.proofs.Worked.{places_test, rows_test, sets_tested}

-- FIRST of the house is what 01 lists
pub house_first_sets_lem : FirstSets house house_first_sets
unfolding house house_first house_first_sets places_test rows_test
house_first_sets_lem = sets_tested merged house house_first house_first_exact (λ A k a. at_merged (First house (Nonterminal A ∷ [])) first_not_end a) house_first_sets refl tt tt

-- the call for a form of H answers its trail, and how many of its leading symbols vanish
house_answers : (symbols : List ℕ) (α : Form)
    → length symbols ≤ most_symbols
    → map (symbol_of house.tokens house.nonterminals) symbols ≡ map some α
    → Every (Known house) α
    → FirstTold house_book symbols (told_first (trail house_first_sets (only empty_string) α) (vanishing house_first_sets α))
house_answers symbols α few spells known =
    let limits = serves_limits house_serves in
    let at = sets_at house_first_sets_lem in
    record {
      grammar = house;
      form = α;
      serves = house_serves;
      short = few;
      spelled = spells;
      told = record { holds = first_is limits at known; leading = vanishing_is limits at known };
    }

-- the premises of the law of joined calls are met together
pub house_joined : HouseJoined
unfolding house house_first_sets symbol_of trail vanishing symbol_set member only united added removed joined
house_joined =
    let front : FirstTold house_book (0x82 ∷ []) (told_first 0x8000000000000004 1) =
    house_answers (0x82 ∷ []) (Nonterminal 2 ∷ []) (omega arith) refl (each (known_nonterminal (omega arith)) nothing) in
    let back : FirstTold house_book (0x83 ∷ []) (told_first 0x8000000000000008 1) =
    house_answers (0x83 ∷ []) (Nonterminal 3 ∷ []) (omega arith) refl (each (known_nonterminal (omega arith)) nothing) in
    let whole : FirstTold house_book (0x82 ∷ 0x83 ∷ []) (told_first 0x800000000000000c 2) =
    house_answers (0x82 ∷ 0x83 ∷ []) (Nonterminal 2 ∷ Nonterminal 3 ∷ []) (omega arith) refl
    (each (known_nonterminal (omega arith)) (each (known_nonterminal (omega arith)) nothing)) in
    record {
      front = front;
      back = back;
      whole = whole;
      joins = first_of_joined (0x82 ∷ []) (0x83 ∷ []) (omega arith) front back (Ok (told_first 0x800000000000000c 2)) whole;
    }
