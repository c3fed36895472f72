-- FIRST of the house book, as 01 lists it, and of its n2 and n3 put together. Document 01, "The lister and the
-- examples"; document 02, W9.
use Rattle.std.specs.Prelude.{List, [], ◌∷◌, ℕ, Ok}
use Rattle.book.specs.Examples.{house_book}
use Rattle.first.specs.declared.forms.Trail.{Trail}
use Rattle.first.specs.Calls.{FirstOutcome}
use Rattle.first.specs.Joined.{FirstJoined}

unfoldable pub house_first_sets : List ℕ
house_first_sets = 0x0000000000000001 ∷ 0x0000000000000002 ∷ 0x8000000000000004 ∷ 0x8000000000000008 ∷ []

-- this set, and this number of symbols that can vanish
abbrev pub told_first : (set vanishing : ℕ) → Trail
told_first set vanishing = record { set = record { word = set }; vanishing = vanishing }

-- the calls for n2, for n3 and for n2 n3 are done, and the third set is the join of the others
pub record HouseJoined : Type 0 where
  pub front : FirstOutcome house_book (0x82 ∷ []) (Ok (told_first 0x8000000000000004 1))
  pub back : FirstOutcome house_book (0x83 ∷ []) (Ok (told_first 0x8000000000000008 1))
  pub whole : FirstOutcome house_book (0x82 ∷ 0x83 ∷ []) (Ok (told_first 0x800000000000000c 2))
  pub joins :
      FirstJoined (told_first 0x8000000000000004 1) (told_first 0x8000000000000008 1)
      (Ok (told_first 0x800000000000000c 2))
