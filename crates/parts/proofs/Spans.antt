-- An element of a class: a letter, or two with a dash between them.
use mathlib.Core.Path.{◌≡◌, ◌∙◌}
use mathlib.Core.Logic.{◌≢◌}
use mathlib.Core.List.{List}
use mathlib.Core.Option.{none}
use Prim.Native.Nat.{ℕ, suc, ◌+◌, ◌≤◌, ◌<◌, max, pred}
use native.Mathlib.Numerals.{add-one}
use native.Mathlib.Omega.{arith}
use lib.ListN.{length, get_or}
use Rattle.std.specs.Prelude.{Ok, Err}
use Rattle.pattern.specs.Pattern.{Class}
use Rattle.pattern.specs.Marks.{dash, special_in_class}
use Rattle.pattern.specs.Reader.{Begun, in_class, in_range, standing, says}
use Rattle.parts.specs.declared.letters.Letter.{Letter}
use Rattle.parts.specs.Letters.{LetterRead, letter_plain, letter_escaped, letter_mark, letter_missing, letter_cut_off}
use Rattle.parts.specs.Places.{Behind}
use Rattle.parts.specs.Classes.{SpanPassed, NoElement}
use Rattle.parts.proofs.Marks.{mark_inside}
use Rattle.parts.proofs.ClassReading.{class_letter_passes, class_letter_stops, class_settles, dash_passes, range_passes, range_breaks, range_stops}

-- a letter moves on, and not past the end
pub letter_behind : {text : List ℕ} {at : ℕ} {marks : List ℕ} {l : Letter}
    → LetterRead text at marks (Ok l)
    → Behind text at l.at
letter_behind (letter_plain inside plain) = record { moved = omega arith; inside = omega arith }
letter_behind (letter_escaped here inside) = record { moved = omega arith; inside = omega arith }

-- where none is read the place is no earlier
pub letter_ahead : {text : List ℕ} {at : ℕ} {marks : List ℕ} {place : ℕ}
    → LetterRead text at marks (Err place)
    → (at ≤ place) × (place ≤ max at (length text))
letter_ahead (letter_mark inside mark other) = omega arith
letter_ahead (letter_missing end) = omega arith
letter_ahead {text} {at} (letter_cut_off here end) = omega (arith, mark_inside text at here)

module _ (text : List ℕ) (at : ℕ) where
  pub span_missing : {place : ℕ} → LetterRead text at special_in_class (Err place) → NoElement text at place
  span_missing l =
      record {
        moved = (letter_ahead l).0;
        inside = (letter_ahead l).1;
        stopped = λ room around a c goes. class_letter_stops text room around a at c goes l;
      }

  module _ {low : Letter} (l : LetterRead text at special_in_class (Ok low)) where
    pub span_letter : get_or text low.at 0 ≢ dash
        → SpanPassed text at (record { at = low.at; low = low.byte; high = low.byte })
    span_letter other =
        record {
          place = letter_behind l;
          passed = λ room around a c.
              class_letter_passes text room around a at c l ∙ class_settles room around a c low.byte text low.at other;
        }

    module _ (here : get_or text low.at 0 ≡ dash) where
      to_the_dash : (room : ℕ) (around : List Begun) (a : Begun) (c : Class)
          → says text (standing room around a (in_class c none)) at
          ≡ says text (standing room around a (in_range c low.byte)) (suc low.at)
      to_the_dash room around a c =
          class_letter_passes text room around a at c l ∙ dash_passes text room around a low.at c low.byte here

      pub span_cut : {place : ℕ} → LetterRead text (low.at + 1) special_in_class (Err place) → NoElement text at place
      span_cut h =
          record {
            moved = omega (arith, letter_behind l, letter_ahead h);
            inside = omega (arith, letter_ahead h, mark_inside text low.at here);
            stopped = λ room around a c goes.
                to_the_dash room around a c ∙ range_stops text room around a (suc low.at) c low.byte (rw add-one at h);
          }

      module _ {high : Letter} (h : LetterRead text (suc low.at) special_in_class (Ok high)) where
        pub span_falls : high.byte < low.byte → NoElement text at (pred high.at)
        span_falls falls =
            record {
              moved = omega (arith, letter_behind l, letter_behind h);
              inside = omega (arith, letter_behind h);
              stopped = λ room around a c goes.
                  to_the_dash room around a c ∙ range_breaks text room around a (suc low.at) c low.byte falls h;
            }

        pub span_range : low.byte ≤ high.byte
            → SpanPassed text at (record { at = high.at; low = low.byte; high = high.byte })
        span_range rises =
            record {
              place = record { moved = omega (arith, letter_behind l, letter_behind h); inside = (letter_behind h).inside };
              passed = λ room around a c.
                  to_the_dash room around a c ∙ range_passes text room around a (suc low.at) c low.byte rises h;
            }
