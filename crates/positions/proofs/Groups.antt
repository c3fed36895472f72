-- A group: an alternation one deeper, with its end; where no group may open any more, the place is refused.
use mathlib.Core.Path.{◌≡◌, refl, ap, ◌∙◌}
use mathlib.Core.List.{List, ◌∷◌}
use mathlib.Core.Option.{some, none}
use Prim.Native.Nat.{ℕ, suc, ◌≤◌, ◌<◌}
use native.Mathlib.Numerals.{add-one}
use native.Mathlib.Decide.{dec_lt}
use native.Mathlib.Omega.{arith}
use lib.ListN.{length, get_or}
use Rattle.std.specs.Prelude.{Result}
use Rattle.pattern.specs.Pattern.{Expression}
use Rattle.pattern.specs.Marks.{open_group, close_group}
use Rattle.pattern.specs.Kinds.{kind_in, kind_of}
use Rattle.pattern.specs.Reader.{Begun, outside, standing, nothing_begun, settled, alternation_of, opened, closed, marked, moved, ended, refused, says}
use Rattle.pattern.proofs.Promise.{says_kind, says_no_kind, says_short}
use Rattle.parts.specs.declared.Part.{Part}
use Rattle.parts.specs.Places.{Unread}
use Rattle.parts.specs.Reading.{AlternationStopped, ItemStopped, ItemRead, AlternationMeant}
use Rattle.parts.specs.Joins.{CloseRead, closed_there, not_closed}
use Rattle.parts.proofs.Promise.{mark_inside}
use Rattle.positions.proofs.Tellings.{told_behind}

module _ (text : List ℕ) (around : List Begun) (a : Begun) (at : ℕ) where
  group_opens : (room : ℕ) → get_or text at 0 ≡ open_group
      → says text (standing (suc room) around a (outside none)) at
      ≡ says text (standing room (a ∷ around) nothing_begun (outside none)) (suc at)
  unfolding moved marked settled opened kind_of kind_in
  group_opens room here =
      says_kind text (suc room) around a (outside none) at (mark_inside text at here) (ap kind_of here) refl

  group_shut : get_or text at 0 ≡ open_group → says text (standing 0 around a (outside none)) at ≡ refused at
  unfolding moved marked opened kind_of kind_in
  group_shut here =
      says_no_kind text 0 around a (outside none) at (mark_inside text at here) (ap kind_of here) refl

  group_closes : (room : ℕ) (begun : Begun) {x : Expression}
      → alternation_of begun ≡ some x
      → get_or text at 0 ≡ close_group
      → says text (standing room (a ∷ around) begun (outside none)) at
      ≡ says text (standing (suc room) around a (outside (some x))) (suc at)
  unfolding moved marked settled closed kind_of kind_in
  group_closes room begun means here =
      says_kind text room (a ∷ around) begun (outside none) at (mark_inside text at here) (ap kind_of here) (rw means)

-- no group may open
pub group_refused : {text : List ℕ} {at : ℕ} → get_or text at 0 ≡ open_group → Unread text at (ItemStopped text 0 at) at
group_refused {text} {at} here =
    record {
      moved = omega arith;
      inside = omega arith;
      stopped = record { same = λ around a start. group_shut text around a at here };
    }

module _ {text : List ℕ} {room at : ℕ} (here : get_or text at 0 ≡ open_group) where
  -- an alternation that was not read
  pub group_unread : {place : ℕ}
      → Unread text (suc at) (AlternationStopped text room (suc at)) place
      → Unread text at (ItemStopped text (suc room) at) place
  group_unread u =
      record {
        moved = omega (arith, u.moved);
        inside = omega (arith, u.inside, mark_inside text at here);
        stopped =
            record {
              same = λ around a start. group_opens text around a at room here ∙ u.stopped.same (a ∷ around);
            };
      }

  module _ {n : ℕ} {readers follow : List ℕ} {inner : Part} {R F : List ℕ}
      (read : AlternationMeant text room (suc at) n readers follow inner R F) where
    -- an alternation that was read stands before the end of its group or at the end of the text
    at_the_end : ¬ (get_or text inner.at 0 ≡ close_group) → length text ≤ inner.at
    at_the_end other = go (dec_lt inner.at (length text))
      where
        go : Dec (inner.at < length text) → length text ≤ inner.at
        go (yes inside) =
            absurd (read.alternatives.ends (record { inside = inside; no_bar = read.no_bar; no_close = other }))
        go (no end) = omega arith

    pub group_read : {r : Result Part ℕ} → CloseRead text inner r → ItemRead text (suc room) at n readers follow r R F
    unfolding ended
    group_read (closed_there close) =
        let m = read.alternatives.part in
        record {
          place = record { moved = omega (arith, m.place); inside = omega (arith, mark_inside text inner.at close) };
          meaning = m.meaning;
          passed =
              record {
                same = λ around a.
                    group_opens text around a at room here
                    ∙ m.passed.same (a ∷ around)
                    ∙ rw add-one (group_closes text around a inner.at room m.passed.begun m.passed.means close);
              };
          told = told_behind m.told;
          tabled = m.tabled;
        }
    group_read (not_closed other) =
        let m = read.alternatives.part in
        record {
          moved = omega (arith, m.place);
          inside = omega (arith, m.place);
          stopped =
              record {
                same = λ around a start.
                    group_opens text around a at room here
                    ∙ m.passed.same (a ∷ around)
                    ∙ says_short text (standing room (a ∷ around) m.passed.begun (outside none)) inner.at
                    (at_the_end other) refl;
              };
        }
