-- Every standing of the reader can be completed to a pattern: by a letter, in a range by its lower end behind a backslash,
-- then by the brackets that are open.
use mathlib.Core.Path.{◌≡◌, refl, ◌∙◌}
use mathlib.Core.List.{List, [], ◌∷◌, ◌++◌}
use mathlib.Core.Option.{Option, some, none}
use Prim.Native.Nat.{ℕ, suc, ◌<◌}
use native.Mathlib.Omega.{arith}
use borrow.Author.Tests.{le-leb}
use Rattle.pattern.specs.Pattern.{Range, Class, Expression, one}
use Rattle.pattern.specs.Marks.{close_group, close_class, backslash}
use Rattle.pattern.specs.Written.{range}
use Rattle.pattern.specs.Kinds.{kind_in, kind_of}
use Rattle.pattern.specs.Reader.{Begun, Pending, outside, in_class, in_range, Standing, standing, behind_backslash, with_item, settled, alternation_of, elements, closed, marked, byte_read, class_read, range_read, moved, move, ended, means, read_from}
use Rattle.pattern.specs.Text.{Bytes, no_byte, and_byte}
use Rattle.pattern.proofs.Steps.{read_move, read_end}

-- the lower end of a range begun is a byte
abbrev pub LowerEnd : Pending → Type 0
LowerEnd (outside last) = Unit {0}
LowerEnd (in_class c last) = Unit {0}
LowerEnd (in_range c low) = low < 256

abbrev pub LowerByte : Standing → Type 0
LowerByte (standing d around a p) = LowerEnd p
LowerByte (behind_backslash d around a p) = LowerEnd p

-- bytes behind it make a pattern of what is read
pub record Completed (s : Standing) : Type 0 where
  pub rest : List ℕ
  pub meaning : Expression
  pub read : (at : ℕ) → read_from s at rest ≡ means meaning
  pub in_bytes : LowerByte s → Bytes rest

letter : ℕ
letter = 97

completed_move : (b : ℕ) {s t : Standing}
    → move s b ≡ some t
    → (LowerByte s → (b < 256) × LowerByte t)
    → Completed t
    → Completed s
completed_move b {s} e low c =
    record {
      rest = b ∷ c.rest;
      meaning = c.meaning;
      read = λ at. read_move s at b c.rest e ∙ c.read (suc at);
      in_bytes = λ h. and_byte (low h).0 (c.in_bytes (low h).1);
    }

-- behind an item the open groups are closed
item_completed : (d : ℕ) (around : List Begun) (a : Begun) (x : Expression)
    → Completed (standing d around a (outside (some x)))
unfolding move moved marked closed settled with_item alternation_of ended kind_of kind_in
item_completed d [] a x = record { rest = []; meaning = _; read = λ at. read_end (standing d [] a (outside (some x))) at refl; in_bytes = λ h. no_byte }
item_completed d (f ∷ around) a x = completed_move close_group refl (λ h. (omega arith, tt)) (item_completed (suc d) around f _)

module _ (d : ℕ) (around : List Begun) (a : Begun) where
  class_closes : (c : Class) (r : Range)
      → class_read d around a (c ++ (r ∷ [])) ≡ some (standing d around a (outside (some (one (c ++ (r ∷ []))))))
  unfolding class_read
  class_closes [] r = refl
  class_closes (k ∷ c) r = refl

  class_completed : (c : Class) (last : Option ℕ) → Completed (standing d around a (in_class c last))
  unfolding letter move moved elements kind_of kind_in
  class_completed c last =
      completed_move letter refl (λ h. (omega arith, tt))
      (completed_move close_class (class_closes (elements c last) (range letter letter)) (λ h. (omega arith, tt)) (item_completed d around a _))

  range_completed : (c : Class) (low : ℕ) → Completed (behind_backslash d around a (in_range c low))
  unfolding move moved range_read
  range_completed c low =
      completed_move low {t = standing d around a (in_class (c ++ (range low low ∷ [])) none)}
      (rw (le-leb low low (omega arith), range_read)) (λ h. (h, tt)) (class_completed (c ++ (range low low ∷ [])) none)

pub completed : (s : Standing) → Completed s
unfolding letter move moved byte_read kind_of kind_in
completed (standing d around a (outside last)) = completed_move letter refl (λ h. (omega arith, tt)) (item_completed d around (settled a last) _)
completed (standing d around a (in_class c last)) = class_completed d around a c last
completed (standing d around a (in_range c low)) = completed_move backslash refl (λ h. (omega arith, h)) (range_completed d around a c low)
completed (behind_backslash d around a (outside last)) = completed_move letter refl (λ h. (omega arith, tt)) (item_completed d around (settled a last) _)
completed (behind_backslash d around a (in_class c last)) = completed_move letter refl (λ h. (omega arith, tt)) (class_completed d around a _ _)
completed (behind_backslash d around a (in_range c low)) = range_completed d around a c low
