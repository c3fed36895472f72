-- What the examples on the page of results speak of: the rows of the letter a; the states of the house patterns in
-- order, and the line of example A. Document 02, W3.
use Rattle.std.specs.Prelude.{List, [], ◌∷◌, ◌++◌, map, ℕ, ◌+◌, replicate}
use Rattle.sets.specs.Sets.{added}
use Rattle.answers.specs.Limits.{most_positions}
use Rattle.pattern.specs.House.{codes}
use Rattle.states.specs.Machine.{no_cell}

-- from the first row an `a` leads to the second, whose token is 0; nothing else leads anywhere
abbrev pub letter_rows : List ℕ
letter_rows = (replicate 97 no_cell ++ (1 ∷ replicate 158 no_cell)) ++ (no_cell ∷ (replicate 256 no_cell ++ (0 ∷ [])))

-- the set of some points by their places
unfoldable pub set_with : List ℕ → ℕ
set_with [] = 0
set_with (q ∷ qs) = added q (set_with qs)

-- the place of a pattern's end
abbrev pub end_place : ℕ → ℕ
end_place k = most_positions + k

-- `restore` has positions 0 to 6, `(St )?[A-Z][a-z]+` 7 to 11, `in` 12 and 13, `and` 14 to 16
unfoldable pub house_sets : List ℕ
house_sets =
    map set_with (
    (0 ∷ 7 ∷ 10 ∷ 12 ∷ 14 ∷ [])
    ∷ (11 ∷ [])
    ∷ (8 ∷ 11 ∷ [])
    ∷ (15 ∷ [])
    ∷ (13 ∷ [])
    ∷ (1 ∷ [])
    ∷ (11 ∷ end_place 1 ∷ [])
    ∷ (9 ∷ 11 ∷ end_place 1 ∷ [])
    ∷ (16 ∷ [])
    ∷ (end_place 2 ∷ [])
    ∷ (2 ∷ [])
    ∷ (10 ∷ [])
    ∷ (end_place 3 ∷ [])
    ∷ (3 ∷ [])
    ∷ (4 ∷ [])
    ∷ (5 ∷ [])
    ∷ (6 ∷ [])
    ∷ (end_place 0 ∷ [])
    ∷ []
    )

unfoldable pub house_line : List ℕ
house_line = codes "restore Anne in Ghent and Mary"
