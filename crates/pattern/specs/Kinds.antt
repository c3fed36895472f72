-- What each byte is to the reader of one byte at a time: a working definition, which no public contract cites.
use Rattle.std.specs.Prelude.{true, false, List, [], ◌∷◌, ℕ, eqb}
use Rattle.pattern.specs.Pattern.{Expression, plus, opt, star}
use Rattle.pattern.specs.Marks.{open_group, close_group, open_class, close_class, bar, star_sign, plus_sign}
use Rattle.pattern.specs.Marks.{question_mark, backslash, dash}

-- the marks that no class has; a sign is what it makes of the meaning before it
pub data Mark : Type 0 where
  opens_group closes_group opens_class divides : Mark
  repeats : (Expression → Expression) → Mark

pub data Kind : Type 0 where
  is_plain is_dash is_backslash closes_class : Kind
  marks : Mark → Kind

abbrev pub signs : List ℕ
signs = star_sign ∷ plus_sign ∷ question_mark ∷ []

-- the kinds of the bytes that are not plain in a class
abbrev pub kinds : List (ℕ × Kind)
kinds =
    (dash, is_dash)
    ∷ (open_group, marks opens_group)
    ∷ (close_group, marks closes_group)
    ∷ (open_class, marks opens_class)
    ∷ (close_class, closes_class)
    ∷ (bar, marks divides)
    ∷ (star_sign, marks (repeats star))
    ∷ (plus_sign, marks (repeats plus))
    ∷ (question_mark, marks (repeats opt))
    ∷ (backslash, is_backslash)
    ∷ []

unfoldable pub kind_in : List (ℕ × Kind) → ℕ → Kind
kind_in [] b = is_plain
kind_in (m ∷ ms) b = elim (eqb b m.0) [ true ↦ m.1 | false ↦ kind_in ms b ]

unfoldable pub kind_of : ℕ → Kind
kind_of b = kind_in kinds b
