-- Worked examples: the sheet of the house book, and a sheet for each refusal. Document 02, W1.
use Rattle.std.specs.Prelude.{List, [], ◌∷◌, ◌++◌, ℕ}
use Prim.Native.Char.{code}
use Prim.Native.String.{String}
use Prim.Native.String as string
use Rattle.answers.specs.declared.refusals.Refusal.{Refusal}
use Rattle.answers.specs.declared.refusals.Refusal.TheVariants.{Short, Extra, Limit, Symbol, Form}

-- the codes of a text's characters
abbrev pub codes : String → List ℕ
codes string.[] = []
codes (string.◌∷◌ c text) = code c ∷ codes text

-- a text and a line feed, and further lines
unfoldable pub lines : List (List ℕ) → List ℕ
lines [] = []
lines (text ∷ rest) = text ++ (10 ∷ lines rest)

unfoldable pub house_sheet : List ℕ
house_sheet =
    lines
    (codes "4 4 0 6"
    ∷ codes "n0 : t0 n1"
    ∷ codes "n1 : t1 n2 n3"
    ∷ codes "n2 : t2 t1"
    ∷ codes "n2 :"
    ∷ codes "n3 : t3 n1"
    ∷ codes "n3 :"
    ∷ [])

-- a sheet, its refusal and the refusal's place
pub record Row : Type 0 where
  pub text : List ℕ
  pub why : Refusal
  pub place : ℕ

abbrev row : List ℕ → Refusal → (place : ℕ) → Row
row text why place = record { text = text; why = why; place = place }

unfoldable pub refused_sheets : List Row
refused_sheets =
    row [] Form 0
    ∷ row (lines (codes "04 4 0 6" ∷ [])) Form 1
    ∷ row (codes "4 4 0 6") Form 7
    ∷ row (lines (codes "4 4 4 6" ∷ [])) Limit 4
    ∷ row (lines (codes "4 4 0 1" ∷ codes "n0 : t0 t0 t0 t0 t0 t0 t0 t0 t0 t0 t0 t0 t0 t0 t0 t0 t9" ∷ [])) Limit 61
    ∷ row (lines (codes "4 4 0 1" ∷ codes "n0 : t4" ∷ [])) Symbol 14
    ∷ row (lines (codes "4 4 0 6" ∷ [])) Short 8
    ∷ row (lines (codes "4 4 0 1" ∷ codes "n0 :" ∷ codes "n9 :" ∷ [])) Extra 13
    ∷ []
