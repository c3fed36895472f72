-- The listing of house book H as document 01 prints it, and the line of each refused book of its examples.
-- Document 01, "The lister and the examples".
use Rattle.std.specs.Prelude.{List, ◌++◌, ℕ}
use Rattle.showing.specs.Words.{codes}

unfoldable pub house_text : List ℕ
house_text =
    codes "grammar 4 4 0 6\n"
    ++ codes "first 0 0000000000000001\n"
    ++ codes "first 1 0000000000000002\n"
    ++ codes "first 2 8000000000000004\n"
    ++ codes "first 3 8000000000000008\n"
    ++ codes "follow 0 4000000000000000\n"
    ++ codes "follow 1 4000000000000000\n"
    ++ codes "follow 2 4000000000000008\n"
    ++ codes "follow 3 4000000000000000\n"
    ++ codes "row 0 0 - - - -\n"
    ++ codes "row 1 - 1 - - -\n"
    ++ codes "row 2 - - 2 3 3\n"
    ++ codes "row 3 - - - 4 5\n"

-- H1, I and J are refused, and so is a book of no bytes
unfoldable pub conflicted_house_text : List ℕ
conflicted_house_text = codes "refused 8 12 515\n"

unfoldable pub useless_text : List ℕ
useless_text = codes "refused 6 1 0\n"

unfoldable pub nested_text : List ℕ
nested_text = codes "refused 8 1 1\n"

unfoldable pub nothing_text : List ℕ
nothing_text = codes "refused 1 0 0\n"
