-- What the reader says of a text from a place on: what is left equals the whole, or the place is refused.
use mathlib.Core.Path.{◌≡◌, refl, ap, ◌∙◌}
use mathlib.Core.Bool.{false}
use mathlib.Core.List.{List, [], ◌∷◌}
use mathlib.Core.Option.{Option, some, none}
use Prim.Native.Nat.{ℕ, suc, ◌≤◌, ◌<◌}
use native.Mathlib.Nat.{add-zero}
use lib.ListN.{length, drop, get_or, drop_of_length-le}
use lib.Seq.{drop-cons, get_or-drop}
use Rattle.pattern.specs.Pattern.{Expression}
use Rattle.pattern.specs.Marks.{among}
use Rattle.pattern.specs.Written.{any_number, at_least_once, at_most_once}
use Rattle.pattern.specs.Kinds.{Kind, signs, kind_in, kind_of}
use Rattle.pattern.specs.Reader.{Begun, Pending, outside, Standing, standing, behind_backslash, with_item, settled, marked, byte_read, moved, move, ended, means, refused, read_from, says}
use Rattle.pattern.proofs.ByteKinds.{KindIs, plain_is, dash_is, backslash_is, close_class_is, open_class_is, open_group_is, close_group_is, bar_is, sign_is, kind_is, impossible}
use Rattle.pattern.proofs.Steps.{read_move, read_stop, read_end, read_short}

end_settled : (room : ℕ) (around : List Begun) (a : Begun) (x : Expression) (at : ℕ)
    → read_from (standing room around a (outside (some x))) at [] ≡ read_from (standing room around (with_item a x) (outside none)) at []
unfolding read_from ended settled
end_settled room [] a x at = refl
end_settled room (f ∷ around) a x at = refl

module _ (room : ℕ) (around : List Begun) (a : Begun) (x : Expression) where
  escape_settled : (at : ℕ) (v : List ℕ)
      → read_from (behind_backslash room around a (outside (some x))) at v ≡ read_from (behind_backslash room around (with_item a x) (outside none)) at v
  unfolding read_from ended move moved byte_read settled
  escape_settled at [] = refl
  escape_settled at (b ∷ v) = refl

  by_kind : (at b : ℕ) (v : List ℕ) {k : Kind}
      → KindIs b k
      → kind_of b ≡ k
      → among b signs ≡ false
      → read_from (standing room around a (outside (some x))) at (b ∷ v) ≡ read_from (standing room around (with_item a x) (outside none)) at (b ∷ v)
  unfolding read_from move moved marked byte_read settled among kind_of kind_in
  by_kind at b v (plain_is h) e n = rw (e, read_from, move, moved)
  by_kind at b v dash_is e n = refl
  by_kind at b v backslash_is e n = escape_settled (suc at) v
  by_kind at b v close_class_is e n = refl
  by_kind at b v open_class_is e n = refl
  by_kind at b v open_group_is e n = refl
  by_kind at b v close_group_is e n = refl
  by_kind at b v bar_is e n = refl
  by_kind at b v (sign_is any_number) e n = impossible n
  by_kind at b v (sign_is at_least_once) e n = impossible n
  by_kind at b v (sign_is at_most_once) e n = impossible n

  read_settled : (at : ℕ) (v : List ℕ)
      → among (get_or v 0 0) signs ≡ false
      → read_from (standing room around a (outside (some x))) at v ≡ read_from (standing room around (with_item a x) (outside none)) at v
  read_settled at [] n = end_settled room around a x at
  read_settled at (b ∷ v) n = by_kind at b v (kind_is b) refl n

module _ (text : List ℕ) (s : Standing) (at : ℕ) where
  -- one byte on
  pub says_moves : {t : Standing}
      → at < length text
      → move s (get_or text at 0) ≡ some t
      → says text s at ≡ says text t (suc at)
  unfolding says
  says_moves h e = ap (read_from s at) (drop-cons text at 0 h) ∙ read_move s at (get_or text at 0) (drop (suc at) text) e

  -- a byte that no pattern could have there
  pub says_stops : at < length text → move s (get_or text at 0) ≡ none → says text s at ≡ refused at
  unfolding says
  says_stops h e = ap (read_from s at) (drop-cons text at 0 h) ∙ read_stop s at (get_or text at 0) (drop (suc at) text) e

  -- the end of a pattern
  pub says_ends : {x : Expression} → length text ≤ at → ended s ≡ some x → says text s at ≡ means x
  unfolding says
  says_ends h e = ap (read_from s at) (drop_of_length-le text h) ∙ read_end s at e

  -- a text that ends too early
  pub says_short : length text ≤ at → ended s ≡ none → says text s at ≡ refused at
  unfolding says
  says_short h e = ap (read_from s at) (drop_of_length-le text h) ∙ read_short s at e

-- the same by the kind of the byte
module _ (text : List ℕ) (room : ℕ) (around : List Begun) (a : Begun) (p : Pending) (at : ℕ) where
  pub says_kind : {k : Kind} {t : Standing}
      → at < length text
      → kind_of (get_or text at 0) ≡ k
      → moved room around a p (get_or text at 0) k ≡ some t
      → says text (standing room around a p) at ≡ says text t (suc at)
  unfolding move
  says_kind h k e = says_moves text (standing room around a p) at h (ap (moved room around a p (get_or text at 0)) k ∙ e)

  pub says_no_kind : {k : Kind}
      → at < length text
      → kind_of (get_or text at 0) ≡ k
      → moved room around a p (get_or text at 0) k ≡ none
      → says text (standing room around a p) at ≡ refused at
  unfolding move
  says_no_kind h k e = says_stops text (standing room around a p) at h (ap (moved room around a p (get_or text at 0)) k ∙ e)

-- where no sign follows, the last item is settled
pub says_settled : (text : List ℕ) (room : ℕ) (around : List Begun) (a : Begun) (last : Option Expression) (at : ℕ)
    → among (get_or text at 0) signs ≡ false
    → says text (standing room around a (outside last)) at ≡ says text (standing room around (settled a last) (outside none)) at
unfolding says settled
says_settled text room around a none at n = refl
says_settled text room around a (some x) at n = read_settled room around a x at (drop at text) (rw (get_or-drop, add-zero) n)
