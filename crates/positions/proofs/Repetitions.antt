-- An item with the sign behind it, if one follows, is a repetition.
use mathlib.Core.Path.{◌≡◌, refl, ap, ◌∙◌}
use mathlib.Core.Bool.{Bool}
use mathlib.Core.List.{List}
use mathlib.Core.Option.{some, none}
use Prim.Native.Nat.{ℕ, suc, ◌<◌}
use native.Mathlib.Numerals.{add-one}
use native.Mathlib.Omega.{arith}
use lib.ListN.{length, get_or}
use Rattle.pattern.specs.Pattern.{Expression}
use Rattle.pattern.specs.Written.{Sign, any_number, at_least_once, at_most_once}
use Rattle.pattern.specs.Kinds.{kind_of}
use Rattle.pattern.specs.Reader.{Begun, outside, standing, with_item, settled, marked, moved, says}
use Rattle.pattern.proofs.Promise.{says_kind, says_settled, sign_kind}
use Rattle.parts.specs.declared.Part.{Part}
use Rattle.parts.specs.Parts.{Told, Tabled}
use Rattle.parts.specs.Reading.{ItemPassed, RepetitionPassed, Meant}
use Rattle.parts.specs.Joins.{behind, SignRead, no_sign, question_read, plus_read, star_read}
use Rattle.parts.proofs.Promise.{mark_inside}
use Rattle.positions.proofs.Tellings.{told_plus, told_opt, tabled_plus, tabled_opt}

-- a sign settles the item before it
sign_passes : (text : List ℕ) (room : ℕ) (around : List Begun) (a : Begun) (x : Expression) (at : ℕ)
    {b : ℕ} {f : Expression → Expression}
    → get_or text at 0 ≡ b
    → at < length text
    → Sign b f
    → says text (standing room around a (outside (some x))) at
    ≡ says text (standing room around (with_item a (f x)) (outside none)) (suc at)
unfolding moved marked
sign_passes text room around a x at here inside sign =
    says_kind text room around a (outside (some x)) at inside (ap kind_of here ∙ sign_kind sign) refl

module _ {text : List ℕ} {room at n : ℕ} {readers follow : List ℕ} {item : Part} {R F : List ℕ}
    (m : Meant text at (ItemPassed text room at) n readers follow item R F) where
  -- an item with no sign
  unsigned : ((around : List Begun) (a : Begun) (x : Expression)
      → says text (standing room around a (outside (some x))) item.at
      ≡ says text (standing room around (with_item a x) (outside none)) item.at)
      → Meant text at (RepetitionPassed text room at) n readers follow item R F
  unsigned settles =
      record {
        place = m.place;
        meaning = m.meaning;
        passed = record { same = λ around a. m.passed.same around a ∙ settles around a m.meaning };
        told = m.told;
        tabled = m.tabled;
      }

  -- an item with a sign
  signed : {after : List ℕ} {b : ℕ} {f : Expression → Expression} {empty : Bool}
      → get_or text item.at 0 ≡ b
      → item.at < length text
      → Sign b f
      → ((x : Expression) → Told n x item → Told n (f x) (behind item empty))
      → ((x : Expression) → Told n x item → Tabled n x readers follow R F → Tabled n (f x) readers follow R after)
      → Meant text at (RepetitionPassed text room at) n readers follow (behind item empty) R after
  signed {f = f} here inside sign tells adds =
      record {
        place = record { moved = omega (arith, m.place); inside = omega arith };
        meaning = f m.meaning;
        passed =
            record {
              same = λ around a.
                  m.passed.same around a
                  ∙ rw add-one (sign_passes text room around a m.meaning item.at here inside sign);
            };
        told = tells m.meaning m.told;
        tabled = adds m.meaning m.told m.tabled;
      }

  pub repetition_read : {p : Part} {after : List ℕ}
      → SignRead text item F p after
      → Meant text at (RepetitionPassed text room at) n readers follow p R after
  unfolding settled
  repetition_read (no_sign other) =
      unsigned (λ around a x. says_settled text room around a (some x) item.at other)
  repetition_read (question_read here) =
      signed here (mark_inside text item.at here) at_most_once
      (λ x t. told_opt t refl refl refl refl) (λ x t a. tabled_opt a)
  repetition_read (plus_read here led) =
      signed here (mark_inside text item.at here) at_least_once
      (λ x t. told_plus t refl refl refl refl) (λ x t a. tabled_plus t a led)
  repetition_read (star_read here led) =
      signed here (mark_inside text item.at here) any_number
      (λ x t. told_opt (told_plus t {r = item} refl refl refl refl) refl refl refl refl)
      (λ x t a. tabled_opt (tabled_plus t a led))
