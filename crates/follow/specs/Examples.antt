-- FOLLOW of the house book, as 01 lists it. Document 01, "The lister and the examples".
use Rattle.std.specs.Prelude.{List, [], ◌∷◌, ℕ}

unfoldable pub house_follow_sets : List ℕ
house_follow_sets = 0x4000000000000000 ∷ 0x4000000000000000 ∷ 0x4000000000000008 ∷ 0x4000000000000000 ∷ []
