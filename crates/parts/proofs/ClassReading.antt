-- What the reader of one byte says in a class: of its letters and ranges, of its end, and of what can be neither.
use mathlib.Core.Path.{◌≡◌, refl, sym, ap, ◌∙◌}
use mathlib.Core.Logic.{◌≢◌}
use mathlib.Core.Bool.{true}
use mathlib.Core.List.{List, [], ◌∷◌, ◌++◌}
use mathlib.Core.Option.{some, none}
use Prim.Native.Nat.{ℕ, suc, ◌≤◌, ◌<◌, pred}
use native.Mathlib.Nat.{add-zero}
use lib.ListN.{length, get_or, drop}
use lib.Seq.{get_or-drop}
use borrow.Author.Tests.{le-leb, lt-leb}
use Rattle.pattern.specs.Pattern.{Range, Class, one}
use Rattle.pattern.specs.Marks.{open_class, close_class, backslash, dash, special_in_class, among}
use Rattle.pattern.specs.Written.{range, any_number, at_least_once, at_most_once}
use Rattle.pattern.specs.Kinds.{Kind, kind_in, kind_of}
use Rattle.pattern.specs.Reader.{Begun, Pending, outside, in_class, in_range, standing, behind_backslash, settled, elements, class_read, range_read, marked, moved, move, ended, refused, read_from, says}
use Rattle.pattern.proofs.Promise.{says_moves, says_stops, says_short, says_kind, says_no_kind, plain_kind}
use Rattle.pattern.proofs.Promise.{KindIs, plain_is, dash_is, backslash_is, close_class_is, open_class_is, open_group_is, close_group_is, bar_is, sign_is, kind_is, impossible}
use Rattle.std.specs.Prelude.{Ok, Err}
use Rattle.parts.specs.declared.letters.Letter.{Letter}
use Rattle.parts.specs.Letters.{LetterRead, letter_plain, letter_escaped, letter_mark, letter_missing, letter_cut_off}
use Rattle.parts.specs.Classes.{MayGoOn, no_element, no_end}
use Rattle.parts.proofs.Marks.{mark_inside}
use Rattle.parts.proofs.Outside.{backslash_kind}

module _ (room : ℕ) (around : List Begun) (a : Begun) where
  -- a mark is no element
  mark_in_class : {c : Class} {b : ℕ} {k : Kind}
      → KindIs b k
      → among b special_in_class ≡ true
      → b ≢ backslash
      → (b ≡ close_class → c ≡ [])
      → moved room around a (in_class c none) b k ≡ none
  unfolding moved elements class_read
  mark_in_class (plain_is e) mark escape end = impossible (sym mark ∙ e)
  mark_in_class dash_is mark escape end = refl
  mark_in_class backslash_is mark escape end = absurd (escape refl)
  mark_in_class close_class_is mark escape end = rw (end refl)
  mark_in_class open_class_is mark escape end = refl
  mark_in_class open_group_is mark escape end = refl
  mark_in_class close_group_is mark escape end = refl
  mark_in_class bar_is mark escape end = refl
  mark_in_class (sign_is e) mark escape end = refl

  -- nor the end of a range
  mark_in_range : (c : Class) (low : ℕ) {b : ℕ} {k : Kind}
      → KindIs b k
      → among b special_in_class ≡ true
      → b ≢ backslash
      → moved room around a (in_range c low) b k ≡ none
  unfolding moved
  mark_in_range c low (plain_is e) mark escape = impossible (sym mark ∙ e)
  mark_in_range c low dash_is mark escape = refl
  mark_in_range c low backslash_is mark escape = absurd (escape refl)
  mark_in_range c low close_class_is mark escape = refl
  mark_in_range c low open_class_is mark escape = refl
  mark_in_range c low open_group_is mark escape = refl
  mark_in_range c low close_group_is mark escape = refl
  mark_in_range c low bar_is mark escape = refl
  mark_in_range c low (sign_is e) mark escape = refl

  range_rises : (c : Class) {low byte : ℕ}
      → low ≤ byte
      → range_read room around a c low byte
      ≡ some (standing room around a (in_class (c ++ (range low byte ∷ [])) none))
  unfolding range_read
  range_rises c {low} {byte} h = rw (le-leb low byte h, range_read)

  range_falls : (c : Class) {low byte : ℕ} → byte < low → range_read room around a c low byte ≡ none
  unfolding range_read
  range_falls c {low} {byte} h = rw (lt-leb low byte h, range_read)

module _ (text : List ℕ) (room : ℕ) (around : List Begun) (a : Begun) (at : ℕ) where
  escape_opens : (p : Pending) → get_or text at 0 ≡ backslash
      → says text (standing room around a p) at ≡ says text (behind_backslash room around a p) (suc at)
  unfolding moved
  escape_opens p here =
      says_kind text room around a p at (mark_inside text at here) (backslash_kind (get_or text at 0) here) refl

  escape_stops : (p : Pending) → get_or text at 0 ≡ backslash → length text ≤ suc at
      → says text (standing room around a p) at ≡ refused (suc at)
  unfolding ended
  escape_stops p here end =
      escape_opens p here ∙ says_short text (behind_backslash room around a p) (suc at) end refl

  pub class_opens : get_or text at 0 ≡ open_class
      → says text (standing room around a (outside none)) at
      ≡ says text (standing room around a (in_class [] none)) (suc at)
  unfolding moved marked settled kind_of kind_in
  class_opens here =
      says_kind text room around a (outside none) at (mark_inside text at here) (ap kind_of here) refl

  module _ (c : Class) where
    pub class_closes : (r : Range) → get_or text at 0 ≡ close_class
        → says text (standing room around a (in_class (r ∷ c) none)) at
        ≡ says text (standing room around a (outside (some (one (r ∷ c))))) (suc at)
    unfolding moved elements class_read kind_of kind_in
    class_closes r here =
        says_kind text room around a (in_class (r ∷ c) none) at (mark_inside text at here) (ap kind_of here) refl

    pub class_letter_passes : {l : Letter}
        → LetterRead text at special_in_class (Ok l)
        → says text (standing room around a (in_class c none)) at
        ≡ says text (standing room around a (in_class c (some l.byte))) l.at
    unfolding moved elements move
    class_letter_passes (letter_plain inside plain) =
        says_kind text room around a (in_class c none) at inside (plain_kind (get_or text at 0) plain) refl
    class_letter_passes (letter_escaped here inside) =
        escape_opens (in_class c none) here
        ∙ says_moves text (behind_backslash room around a (in_class c none)) (suc at) inside refl

    pub class_letter_stops : {place : ℕ}
        → MayGoOn text at c
        → LetterRead text at special_in_class (Err place)
        → says text (standing room around a (in_class c none)) at ≡ refused place
    unfolding ended
    class_letter_stops goes (letter_mark inside mark escape) =
        says_no_kind text room around a (in_class c none) at inside refl
        (mark_in_class room around a (kind_is (get_or text at 0)) mark escape (end goes))
      where
        end : MayGoOn text at c → get_or text at 0 ≡ close_class → c ≡ []
        end (no_element e) here = e
        end (no_end other) here = absurd (other here)
    class_letter_stops goes (letter_missing end) =
        says_short text (standing room around a (in_class c none)) at end refl
    class_letter_stops goes (letter_cut_off here end) = escape_stops (in_class c none) here end

    module _ (low : ℕ) where
      pub dash_passes : get_or text at 0 ≡ dash
          → says text (standing room around a (in_class c (some low))) at
          ≡ says text (standing room around a (in_range c low)) (suc at)
      unfolding moved kind_of kind_in
      dash_passes here =
          says_kind text room around a (in_class c (some low)) at (mark_inside text at here) (ap kind_of here) refl

      pub range_passes : {l : Letter}
          → low ≤ l.byte
          → LetterRead text at special_in_class (Ok l)
          → says text (standing room around a (in_range c low)) at
          ≡ says text (standing room around a (in_class (c ++ (range low l.byte ∷ [])) none)) l.at
      unfolding moved move
      range_passes rises (letter_plain inside plain) =
          says_kind text room around a (in_range c low) at inside (plain_kind (get_or text at 0) plain)
          (range_rises room around a c rises)
      range_passes rises (letter_escaped here inside) =
          escape_opens (in_range c low) here
          ∙ says_moves text (behind_backslash room around a (in_range c low)) (suc at) inside
          (range_rises room around a c rises)

      -- a range that falls stops at its upper end's own byte
      pub range_breaks : {l : Letter}
          → l.byte < low
          → LetterRead text at special_in_class (Ok l)
          → says text (standing room around a (in_range c low)) at ≡ refused (pred l.at)
      unfolding moved move
      range_breaks falls (letter_plain inside plain) =
          says_no_kind text room around a (in_range c low) at inside (plain_kind (get_or text at 0) plain)
          (range_falls room around a c falls)
      range_breaks falls (letter_escaped here inside) =
          escape_opens (in_range c low) here
          ∙ says_stops text (behind_backslash room around a (in_range c low)) (suc at) inside
          (range_falls room around a c falls)

      pub range_stops : {place : ℕ}
          → LetterRead text at special_in_class (Err place)
          → says text (standing room around a (in_range c low)) at ≡ refused place
      unfolding ended
      range_stops (letter_mark inside mark escape) =
          says_no_kind text room around a (in_range c low) at inside refl
          (mark_in_range room around a c low (kind_is (get_or text at 0)) mark escape)
      range_stops (letter_missing end) = says_short text (standing room around a (in_range c low)) at end refl
      range_stops (letter_cut_off here end) = escape_stops (in_range c low) here end

-- where no dash follows, the last byte of a class is an element by itself
module _ (room : ℕ) (around : List Begun) (a : Begun) (c : Class) (low : ℕ) where
  abbrev settled_then : Pending
  settled_then = in_class (c ++ (range low low ∷ [])) none

  escape_settles : (at : ℕ) (v : List ℕ)
      → read_from (behind_backslash room around a (in_class c (some low))) at v
      ≡ read_from (behind_backslash room around a settled_then) at v
  unfolding read_from ended move moved elements
  escape_settles at [] = refl
  escape_settles at (b ∷ v) = refl

  kind_settles : (at : ℕ) {b : ℕ} (v : List ℕ) {k : Kind}
      → KindIs b k
      → kind_of b ≡ k
      → b ≢ dash
      → read_from (standing room around a (in_class c (some low))) at (b ∷ v)
      ≡ read_from (standing room around a settled_then) at (b ∷ v)
  unfolding read_from move moved elements kind_of kind_in
  kind_settles at v (plain_is h) e other = rw (e, read_from, move, moved)
  kind_settles at v dash_is e other = absurd (other refl)
  kind_settles at v backslash_is e other = escape_settles (suc at) v
  kind_settles at v close_class_is e other = refl
  kind_settles at v open_class_is e other = refl
  kind_settles at v open_group_is e other = refl
  kind_settles at v close_group_is e other = refl
  kind_settles at v bar_is e other = refl
  kind_settles at v (sign_is any_number) e other = refl
  kind_settles at v (sign_is at_least_once) e other = refl
  kind_settles at v (sign_is at_most_once) e other = refl

  settles : (at : ℕ) (v : List ℕ) → get_or v 0 0 ≢ dash
      → read_from (standing room around a (in_class c (some low))) at v ≡ read_from (standing room around a settled_then) at v
  unfolding read_from ended
  settles at [] other = refl
  settles at (b ∷ v) other = kind_settles at v (kind_is b) refl other

  pub class_settles : (text : List ℕ) (at : ℕ) → get_or text at 0 ≢ dash
      → says text (standing room around a (in_class c (some low))) at ≡ says text (standing room around a settled_then) at
  unfolding says
  class_settles text at other = settles at (drop at text) (rw (get_or-drop, add-zero) other)
