-- A letter of a class: what is none outside is none in a class, nor is the dash.
use mathlib.Core.Path.{◌≡◌, ◌∙◌}
use mathlib.Core.Logic.{◌≢◌}
use mathlib.Core.List.{List}
use Prim.Native.Nat.{ℕ}
use native.Mathlib.Omega.{arith}
use lib.ListN.{get_or}
use borrow.Author.Tests.{ne_eqb}
use Rattle.pattern.specs.Marks.{special, special_in_class, dash, among}
use Rattle.std.specs.Prelude.{Result, Err}
use Rattle.parts.specs.declared.letters.Letter.{Letter}
use Rattle.parts.specs.Letters.{LetterRead, letter_plain, letter_escaped, letter_mark, letter_missing, letter_cut_off}
use Rattle.parts.proofs.Marks.{mark_inside}

no_dash : (b : ℕ) → b ≢ dash → among b special_in_class ≡ among b special
unfolding among
no_dash b other = rw (ne_eqb b dash other)

module _ (text : List ℕ) (at : ℕ) where
  pub class_letter : {r : Result Letter ℕ}
      → get_or text at 0 ≢ dash
      → LetterRead text at special r
      → LetterRead text at special_in_class r
  class_letter other (letter_plain inside plain) = letter_plain inside (no_dash (get_or text at 0) other ∙ plain)
  class_letter other (letter_escaped here inside) = letter_escaped here inside
  class_letter other (letter_mark inside mark here) = letter_mark inside (no_dash (get_or text at 0) other ∙ mark) here
  class_letter other (letter_missing end) = letter_missing end
  class_letter other (letter_cut_off here end) = letter_cut_off here end

  pub dash_letter : get_or text at 0 ≡ dash → LetterRead text at special_in_class (Err at)
  unfolding among
  dash_letter here = letter_mark (mark_inside text at here) (rw here) (λ other. omega arith)
