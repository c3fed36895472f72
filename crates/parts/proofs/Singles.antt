-- One position as a part: a class, or a letter.
use mathlib.Core.Path.{◌≡◌, ◌∙◌}
use mathlib.Core.Logic.{◌≢◌}
use mathlib.Core.List.{List, [], ◌∷◌}
use Prim.Native.Nat.{ℕ, suc, ◌+◌, ◌≤◌, ◌<◌}
use native.Mathlib.Numerals.{add-one}
use native.Mathlib.Omega.{arith}
use lib.ListN.{get_or}
use Rattle.std.specs.Prelude.{Ok, Err}
use Rattle.answers.specs.Limits.{most_positions, position_words}
use Rattle.pattern.specs.Pattern.{Class, InClass, here, there, one}
use Rattle.pattern.specs.Marks.{open_class, special}
use Rattle.pattern.specs.Written.{range}
use Rattle.pattern.specs.Positions.{size}
use Rattle.pattern.proofs.Promise.{reads_of_one, follow_of_one}
use Rattle.parts.specs.declared.Part.{Part}
use Rattle.parts.specs.declared.letters.Letter.{Letter}
use Rattle.parts.specs.Rows.{Rows}
use Rattle.parts.specs.Parts.{Tabled}
use Rattle.parts.specs.Letters.{LetterRead}
use Rattle.parts.specs.Classes.{Spread, ClassMeant, NoClass, class_pending}
use Rattle.parts.specs.Joins.{Lone, SingleRead}
use Rattle.parts.proofs.Marks.{mark_inside}
use Rattle.parts.proofs.Growth.{rows_none, rows_alike}
use Rattle.parts.proofs.Outside.{letter_passes, letter_stops}
use Rattle.parts.proofs.ClassReading.{class_opens}
use Rattle.parts.proofs.Spans.{letter_behind, letter_ahead}

-- the bytes of its class are what one position adds to the tables
one_tabled : (n : ℕ) (c : Class) {readers after : List ℕ} (follow : List ℕ)
    → (n < most_positions → Rows position_words readers after (λ b p. InClass c b × (p ≡ n)))
    → Tabled n (one c) readers follow after follow
unfolding size
one_tabled n c follow rows =
    record {
      reads = λ h.
          rows_alike (λ b p. (λ w. reads_of_one.1 (w.1, w.0), λ r. ((reads_of_one.0 r).1, (reads_of_one.0 r).0)))
          (rows (omega arith));
      follows = λ h. rows_none follow (λ p q f. follow_of_one f);
    }

one_letter : {byte b : ℕ} → InClass (range byte byte ∷ []) b → (byte ≤ b) × (b ≤ byte)
one_letter (here l h) = (l, h)
one_letter (there i) = elim i [ ]

module _ (text : List ℕ) (at n : ℕ) {readers : List ℕ} where
  -- a class, which opens here
  module _ (opens : get_or text at 0 ≡ open_class) where
    pub class_single : {next : ℕ} {part : Part} {after : List ℕ}
        → ClassMeant text (suc at) class_pending n readers next after
        → Lone next n part
        → SingleRead text at n readers (Ok part) after
    class_single m lone =
        record {
          item = λ other room follow.
              record {
                place = rw lone.place (record { moved = omega (arith, m.place); inside = m.place.inside });
                meaning = one (m.head ∷ m.tail);
                passed =
                    record {
                      same = λ around a.
                          rw lone.place (class_opens text room around a at opens ∙ m.passed room around a);
                    };
                told = lone.told (m.head ∷ m.tail);
                tabled = one_tabled n (m.head ∷ m.tail) follow m.reads;
              };
        }

    pub no_class_single : {place : ℕ} {after : List ℕ}
        → NoClass text (at + 1) place
        → SingleRead text at n readers (Err place) after
    no_class_single n =
        record {
          item = λ other room follow.
              record {
                moved = omega (arith, n.moved);
                inside = omega (arith, n.inside, mark_inside text at opens);
                stopped =
                    record {
                      same = λ around a start. class_opens text room around a at opens ∙ rw add-one at (n.stopped room around a);
                    };
              };
        }

  -- a letter
  module _ (no_class : get_or text at 0 ≢ open_class) where
    pub letter_single : {letter : Letter} {part : Part} {after : List ℕ}
        → LetterRead text at special (Ok letter)
        → Spread letter.byte letter.byte n readers after
        → Lone letter.at n part
        → SingleRead text at n readers (Ok part) after
    letter_single {letter} l spread lone =
        record {
          item = λ other room follow.
              let byte = letter.byte in
              record {
                place = rw lone.place (letter_behind l);
                meaning = one (range byte byte ∷ []);
                passed = record { same = λ around a. rw lone.place (letter_passes text room around a at l) };
                told = lone.told (range byte byte ∷ []);
                tabled =
                    one_tabled n (range byte byte ∷ []) follow
                    (λ h. rows_alike (λ b p. (λ w. (here w.0.0 w.0.1, w.1), λ w. (one_letter w.0, w.1))) (spread h));
              };
        }

    pub no_letter_single : {place : ℕ}
        → LetterRead text at special (Err place)
        → SingleRead text at n readers (Err place) readers
    no_letter_single l =
        record {
          item = λ no_group room follow.
              record {
                moved = (letter_ahead l).0;
                inside = (letter_ahead l).1;
                stopped =
                    record { same = λ around a start. letter_stops text room around a at no_group no_class l start };
              };
        }
