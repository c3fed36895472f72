-- The bytes that have a meaning of their own in the text of a pattern, and how deep its groups nest.
-- Document 02, W3: "`[ ] ( ) | * + ? \`, or `-` in a class, are plain only so". Definitions only.
use Rattle.std.specs.Prelude.{Bool, false, ◌||◌, List, [], ◌∷◌, ℕ, eqb}

-- as many groups may be open at the same time
abbrev pub most_open_groups : ℕ
most_open_groups = 8

-- the bytes of ( ) [ ] | * + ? \ -
abbrev pub open_group : ℕ
open_group = 40

abbrev pub close_group : ℕ
close_group = 41

abbrev pub open_class : ℕ
open_class = 91

abbrev pub close_class : ℕ
close_class = 93

abbrev pub bar : ℕ
bar = 124

abbrev pub star_sign : ℕ
star_sign = 42

abbrev pub plus_sign : ℕ
plus_sign = 43

abbrev pub question_mark : ℕ
question_mark = 63

abbrev pub backslash : ℕ
backslash = 92

abbrev pub dash : ℕ
dash = 45

-- the bytes that are plain only behind a backslash
abbrev pub special : List ℕ
special = open_group ∷ close_group ∷ open_class ∷ close_class ∷ bar ∷ star_sign ∷ plus_sign ∷ question_mark ∷ backslash ∷ []

-- and in a class
abbrev pub special_in_class : List ℕ
special_in_class = dash ∷ special

-- b is one of the bytes
unfoldable pub among : ℕ → List ℕ → Bool
among b [] = false
among b (c ∷ cs) = eqb b c || among b cs
