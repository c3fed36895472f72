-- What the reader of one byte says where an item has to start: of a letter, and of what is none.
use mathlib.Core.Path.{◌≡◌, refl, ap, ◌∙◌}
use mathlib.Core.Logic.{◌≢◌}
use mathlib.Core.Bool.{true}
use mathlib.Core.List.{List, [], ◌∷◌}
use mathlib.Core.Option.{some, none}
use Prim.Native.Nat.{ℕ, suc, ◌<◌}
use native.Mathlib.Decide.{ℕ_discrete}
use native.Mathlib.Omega.{arith}
use lib.ListN.{length, get_or}
use Rattle.pattern.specs.Pattern.{one}
use Rattle.pattern.specs.Marks.{open_group, close_group, open_class, bar, backslash, special, among}
use Rattle.pattern.specs.Written.{range}
use Rattle.pattern.specs.Kinds.{is_backslash, kind_in, kind_of}
use Rattle.pattern.specs.Reader.{Begun, outside, standing, behind_backslash, settled, alternation_of, closed, divided, byte_read, marked, moved, move, ended, refused, says}
use Rattle.pattern.proofs.Promise.{says_moves, says_stops, says_short, says_kind, says_no_kind, move_plain, move_special}
use Rattle.std.specs.Prelude.{Ok, Err}
use Rattle.parts.specs.declared.letters.Letter.{Letter}
use Rattle.parts.specs.Letters.{LetterRead, letter_plain, letter_escaped, letter_mark, letter_missing, letter_cut_off}
use Rattle.parts.specs.Reading.{MayStart, nothing_before, item_follows}
use Rattle.parts.proofs.Marks.{not_among, mark_inside}

-- where nothing was begun there is no alternation to close, to divide or to end
nothing_begun_lem : (a : Begun) → a.items ≡ none → alternation_of (settled a none) ≡ none
unfolding alternation_of settled
nothing_begun_lem a e = rw (e, alternation_of)

not_closed : (room : ℕ) (around : List Begun) → closed room around none ≡ none
unfolding closed
not_closed room [] = refl
not_closed room (f ∷ around) = refl

not_ended : (room : ℕ) (around : List Begun) (a : Begun) → a.items ≡ none
    → ended (standing room around a (outside none)) ≡ none
unfolding ended
not_ended room [] a e = nothing_begun_lem a e
not_ended room (f ∷ around) a e = refl

pub backslash_kind : (b : ℕ) → b ≡ backslash → kind_of b ≡ is_backslash
unfolding kind_of kind_in
backslash_kind b e = rw e

module _ (text : List ℕ) (room : ℕ) (around : List Begun) (a : Begun) (at : ℕ) where
  escape_opens : get_or text at 0 ≡ backslash
      → says text (standing room around a (outside none)) at
      ≡ says text (behind_backslash room around a (outside none)) (suc at)
  unfolding moved
  escape_opens here =
      says_kind text room around a (outside none) at (mark_inside text at here) (backslash_kind (get_or text at 0) here) refl

  pub letter_passes : {l : Letter}
      → LetterRead text at special (Ok l)
      → says text (standing room around a (outside none)) at
      ≡ says text (standing room around a (outside (some (one (range l.byte l.byte ∷ []))))) l.at
  unfolding byte_read settled move moved
  letter_passes (letter_plain inside plain) =
      says_moves text (standing room around a (outside none)) at inside
      (move_plain room around a none (get_or text at 0) plain)
  letter_passes (letter_escaped here inside) =
      escape_opens here ∙ says_moves text (behind_backslash room around a (outside none)) (suc at) inside refl

  close_stops : a.items ≡ none → get_or text at 0 ≡ close_group
      → says text (standing room around a (outside none)) at ≡ refused at
  unfolding moved marked kind_of kind_in
  close_stops e here =
      says_no_kind text room around a (outside none) at (mark_inside text at here) (ap kind_of here)
      (rw (nothing_begun_lem a e) (not_closed room around))

  bar_stops : a.items ≡ none → get_or text at 0 ≡ bar
      → says text (standing room around a (outside none)) at ≡ refused at
  unfolding moved marked kind_of kind_in divided
  bar_stops e here =
      says_no_kind text room around a (outside none) at (mark_inside text at here) (ap kind_of here)
      (rw (nothing_begun_lem a e))

  mark_stops : MayStart text at a
      → at < length text
      → among (get_or text at 0) special ≡ true
      → get_or text at 0 ≢ open_group
      → get_or text at 0 ≢ open_class
      → get_or text at 0 ≢ backslash
      → says text (standing room around a (outside none)) at ≡ refused at
  mark_stops start inside mark group class escape =
      go (ℕ_discrete (get_or text at 0) close_group) (ℕ_discrete (get_or text at 0) bar) start
    where
      go : Dec (get_or text at 0 ≡ close_group)
          → Dec (get_or text at 0 ≡ bar)
          → MayStart text at a
          → says text (standing room around a (outside none)) at ≡ refused at
      go (yes here) other (nothing_before e) = close_stops e here
      go (yes here) other (item_follows more) = absurd (more.no_close here)
      go (no close) (yes here) (nothing_before e) = bar_stops e here
      go (no close) (yes here) (item_follows more) = absurd (more.no_bar here)
      go (no close) (no between) start =
          says_stops text (standing room around a (outside none)) at inside
          (move_special room around a (get_or text at 0) mark
          (not_among (get_or text at 0) (open_group ∷ close_group ∷ open_class ∷ bar ∷ backslash ∷ [])
          (group, (close, (class, (between, (escape, tt)))))))

  pub letter_stops : {place : ℕ}
      → get_or text at 0 ≢ open_group
      → get_or text at 0 ≢ open_class
      → LetterRead text at special (Err place)
      → MayStart text at a
      → says text (standing room around a (outside none)) at ≡ refused place
  unfolding ended
  letter_stops group class (letter_mark inside mark escape) start =
      mark_stops start inside mark group class escape
  letter_stops group class (letter_missing end) (nothing_before e) =
      says_short text (standing room around a (outside none)) at end (not_ended room around a e)
  letter_stops group class (letter_missing end) (item_follows more) = absurd (omega arith)
  letter_stops group class (letter_cut_off here end) start =
      escape_opens here ∙ says_short text (behind_backslash room around a (outside none)) (suc at) end refl
