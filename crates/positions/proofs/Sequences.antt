-- Repetitions one behind the other are a sequence, and sequences with bars between them an alternation.
use mathlib.Core.Path.{◌≡◌, refl, ap, ◌∙◌}
use mathlib.Core.List.{List}
use mathlib.Core.Option.{some, none}
use Prim.Native.Nat.{ℕ, suc}
use native.Mathlib.Omega.{arith}
use lib.ListN.{get_or}
use Rattle.pattern.specs.Pattern.{Expression, cat, alt}
use Rattle.pattern.specs.Marks.{bar}
use Rattle.pattern.specs.Kinds.{kind_in, kind_of}
use Rattle.pattern.specs.Reader.{Begun, outside, standing, nothing_begun, joined, with_item, settled, alternation_of, divided, marked, moved, says}
use Rattle.pattern.proofs.Promise.{says_kind}
use Rattle.parts.specs.declared.Part.{Part}
use Rattle.parts.specs.Places.{Unread}
use Rattle.parts.specs.Reading.{alternative, RepetitionPassed, SequenceStopped, AlternationStopped, Meant, RepetitionsMeant, SequenceMeant, AlternativesMeant}
use Rattle.parts.specs.Joins.{InTurn, EitherOf}
use Rattle.parts.proofs.Promise.{mark_inside}
use Rattle.positions.proofs.Tellings.{told_cat, tabled_cat, told_alt, tabled_alt}

-- behind a bar the alternatives so far stand before the next one
bar_passes : (text : List ℕ) (room : ℕ) (around : List Begun) (begun : Begun) (at : ℕ) {x : Expression}
    → alternation_of begun ≡ some x
    → get_or text at 0 ≡ bar
    → says text (standing room around begun (outside none)) at
    ≡ says text (standing room around (alternative (some x) none) (outside none)) (suc at)
unfolding moved marked settled divided kind_of kind_in
bar_passes text room around begun at means here =
    says_kind text room around begun (outside none) at (mark_inside text at here) (ap kind_of here) (rw means)

-- where the first alternative was not read
module _ {text : List ℕ} {room at : ℕ} where
  pub alternation_unread : {place : ℕ}
      → Unread text at (SequenceStopped text room at) place
      → Unread text at (AlternationStopped text room at) place
  unfolding nothing_begun
  alternation_unread u =
      record {
        moved = u.moved;
        inside = u.inside;
        stopped = record { same = λ around. u.stopped.same around none };
      }

module _ {text : List ℕ} {room at n : ℕ} {readers follow : List ℕ} where
  pub sequence_first : {p : Part} {R F : List ℕ}
      → Meant text at (RepetitionPassed text room at) n readers follow p R F
      → RepetitionsMeant text room at n readers follow p R F
  unfolding with_item joined
  sequence_first m =
      record {
        place = m.place;
        meaning = m.meaning;
        passed = record { same = λ around before. m.passed.same around (alternative before none) };
        told = m.told;
        tabled = m.tabled;
      }

  pub sequence_more : {left right p : Part} {R₁ F₁ R₂ F₂ F₃ : List ℕ}
      → RepetitionsMeant text room at n readers follow left R₁ F₁
      → Meant text left.at (RepetitionPassed text room left.at) left.count R₁ F₁ right R₂ F₂
      → InTurn left right F₂ p F₃
      → RepetitionsMeant text room at n readers follow p R₂ F₃
  unfolding with_item joined
  sequence_more m k turn =
      record {
        place = rw turn.place (record { moved = omega (arith, m.place, k.place); inside = k.place.inside });
        meaning = cat m.meaning k.meaning;
        passed =
            record {
              same = λ around before.
                  m.passed.same around before
                  ∙ rw turn.place (k.passed.same around (alternative before (some m.meaning)));
            };
        told = told_cat m.told k.told turn;
        tabled = tabled_cat m.told k.told m.tabled k.tabled turn.led;
      }

  pub alternation_first : {p : Part} {R F : List ℕ}
      → SequenceMeant text room at n readers follow p R F
      → AlternativesMeant text room at n readers follow p R F
  unfolding nothing_begun alternation_of joined
  alternation_first read =
      let m = read.part in
      record {
        part =
            record {
              place = m.place;
              meaning = m.meaning;
              passed =
                  record {
                    begun = alternative none (some m.meaning);
                    means = refl;
                    same = λ around. m.passed.same around none;
                  };
              told = m.told;
              tabled = m.tabled;
            };
        ends = read.ends;
      }

  module _ {left : Part} {R₁ F₁ : List ℕ} (so_far : AlternativesMeant text room at n readers follow left R₁ F₁)
      (divides : get_or text left.at 0 ≡ bar) where
    -- to the next alternative
    to_the_next : (around : List Begun)
        → says text (standing room around nothing_begun (outside none)) at
        ≡ says text (standing room around (alternative (some so_far.part.meaning) none) (outside none)) (suc left.at)
    to_the_next around =
        let m = so_far.part in
        m.passed.same around ∙ bar_passes text room around m.passed.begun left.at m.passed.means divides

    pub alternation_more : {right p : Part} {R₂ F₂ : List ℕ}
        → SequenceMeant text room (suc left.at) left.count R₁ F₁ right R₂ F₂
        → EitherOf left right p
        → AlternativesMeant text room at n readers follow p R₂ F₂
    unfolding alternation_of joined
    alternation_more read split =
        let m = so_far.part in
        let k = read.part in
        record {
          part =
              record {
                place = rw split.place (record { moved = omega (arith, m.place, k.place); inside = k.place.inside });
                meaning = alt m.meaning k.meaning;
                passed =
                    record {
                      begun = alternative (some m.meaning) (some k.meaning);
                      means = refl;
                      same = λ around. to_the_next around ∙ rw split.place (k.passed.same around (some m.meaning));
                    };
                told = told_alt m.told k.told split;
                tabled = tabled_alt m.told k.told m.tabled k.tabled;
              };
          ends = rw split.place read.ends;
        }

    pub alternation_stops : {place : ℕ}
        → Unread text (suc left.at) (SequenceStopped text room (suc left.at)) place
        → Unread text at (AlternationStopped text room at) place
    alternation_stops u =
        record {
          moved = omega (arith, so_far.part.place, u.moved);
          inside = omega (arith, u.inside, mark_inside text left.at divides);
          stopped =
              record { same = λ around. to_the_next around ∙ u.stopped.same around (some so_far.part.meaning) };
        }
