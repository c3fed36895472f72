-- A state says no more than the patterns: if the end of pattern k can come next once w was read, pattern k matches w.
-- It goes by what a pattern matches from one of its positions on, from the end of w back to its beginning.
use mathlib.Core.Path.{◌≡◌, refl}
use native.Mathlib.Omega.{arith}
use mathlib.Core.List.{List, [], ◌∷◌, ◌++◌}
use Prim.Native.Nat.{ℕ, ◌+◌}
use Rattle.pattern.specs.Pattern.{Class, InClass, Expression, one, cat, alt, plus, opt, Matches, byte, in_turn, either_left, either_right, once, again, itself, Pattern}
use Rattle.pattern.specs.Positions.{size, FirstPosition, first_one, first_cat, first_past, first_left, first_right, first_plus, first_opt, LastPosition, last_one, last_cat, last_before, last_left, last_right, last_plus, last_opt, FollowPosition, follow_before, follow_behind, follow_cat, follow_left, follow_right, follow_within, follow_plus, follow_opt, Reads, reads_one, reads_plus, reads_opt, Point, position, end_of, Placed, Start, start_position, start_end, Onward, onward_position, onward_end, ReadsIn, reads_in, Moved, moved, AfterFrom, After}
use Rattle.pattern.proofs.NullExact.{null_matches}
use Rattle.pattern.proofs.PositionBounds.{PositionOf, inside_one, inside_before, inside_behind, inside_left, inside_right, inside_plus, inside_opt, parts_apart, first_inside, last_inside, follow_inside, follower_inside, reads_inside, reads_in_before, reads_in_behind, reads_in_left, reads_in_right}
use Rattle.pattern.proofs.PlacedPatterns.{placed_moves}

-- what x matches from its position p on, the byte that p reads with it
data From : ℕ → Expression → ℕ → List ℕ → Type 0 where
  from_one : {n b : ℕ} {c : Class} → InClass c b → From n (one c) n (b ∷ [])
  from_before : {n p : ℕ} {x y : Expression} {u v : List ℕ} → From n x p u → Matches y v → From n (cat x y) p (u ++ v)
  from_behind : {n p : ℕ} {x y : Expression} {v : List ℕ} → From (n + size x) y p v → From n (cat x y) p v
  from_left : {n p : ℕ} {x y : Expression} {u : List ℕ} → From n x p u → From n (alt x y) p u
  from_right : {n p : ℕ} {x y : Expression} {u : List ℕ} → From (n + size x) y p u → From n (alt x y) p u
  from_last : {n p : ℕ} {x : Expression} {u : List ℕ} → From n x p u → From n (plus x) p u
  from_more : {n p : ℕ} {x : Expression} {u v : List ℕ} → From n x p u → Matches (plus x) v → From n (plus x) p (u ++ v)
  from_opt : {n p : ℕ} {x : Expression} {u : List ℕ} → From n x p u → From n (opt x) p u

from_inside : {n p : ℕ} {x : Expression} {u : List ℕ} → From n x p u → PositionOf n x p
from_inside (from_one h) = inside_one
from_inside (from_before d m) = inside_before (from_inside d)
from_inside (from_behind d) = inside_behind (from_inside d)
from_inside (from_left d) = inside_left (from_inside d)
from_inside (from_right d) = inside_right (from_inside d)
from_inside (from_last d) = inside_plus (from_inside d)
from_inside (from_more d m) = inside_plus (from_inside d)
from_inside (from_opt d) = inside_opt (from_inside d)

apart : {n p q : ℕ} {x y : Expression} → p ≡ q → PositionOf n x p → PositionOf (n + size x) y q → ⊥
apart e before behind = omega arith

apart_back : {n p q : ℕ} {x y : Expression} → p ≡ q → PositionOf n x q → PositionOf (n + size x) y p → ⊥
apart_back e before behind = omega arith

-- from a first position on is the whole
first_from_at : {n p q : ℕ} {x : Expression} {u : List ℕ} → p ≡ q → FirstPosition n x p → From n x q u → Matches x u
first_from_at e first_one (from_one h) = byte h
first_from_at e (first_cat f) (from_before d m) = in_turn (first_from_at e f d) m
first_from_at e (first_cat f) (from_behind d) = absurd (apart e (first_inside f) (from_inside d))
first_from_at e (first_past z f) (from_before d m) = absurd (apart_back e (from_inside d) (first_inside f))
first_from_at e (first_past z f) (from_behind d) = in_turn (null_matches z) (first_from_at e f d)
first_from_at e (first_left f) (from_left d) = either_left (first_from_at e f d)
first_from_at e (first_left f) (from_right d) = absurd (apart e (first_inside f) (from_inside d))
first_from_at e (first_right f) (from_left d) = absurd (apart_back e (from_inside d) (first_inside f))
first_from_at e (first_right f) (from_right d) = either_right (first_from_at e f d)
first_from_at e (first_plus f) (from_last d) = once (first_from_at e f d)
first_from_at e (first_plus f) (from_more d m) = again (first_from_at e f d) m
first_from_at e (first_opt f) (from_opt d) = itself (first_from_at e f d)

first_from : {n p : ℕ} {x : Expression} {u : List ℕ} → FirstPosition n x p → From n x p u → Matches x u
first_from f d = first_from_at refl f d

reads_back : {n p q b : ℕ} {x : Expression} → p ≡ q → Reads n x q b → Reads n x p b
reads_back e r = rw e r

-- from a last position on may be its byte alone
last_from_at : {n p q b : ℕ} {x : Expression} → p ≡ q → LastPosition n x p → Reads n x q b → From n x p (b ∷ [])
last_from_at e last_one (reads_one h) = from_one h
last_from_at e (last_cat l) r = from_behind (last_from_at refl l (reads_in_behind (last_inside l) (reads_back e r)))
last_from_at e (last_before l z) r =
    from_before (last_from_at refl l (reads_in_before (last_inside l) (reads_back e r))) (null_matches z)
last_from_at e (last_left l) r = from_left (last_from_at refl l (reads_in_left (last_inside l) (reads_back e r)))
last_from_at e (last_right l) r = from_right (last_from_at refl l (reads_in_right (last_inside l) (reads_back e r)))
last_from_at e (last_plus l) (reads_plus r) = from_last (last_from_at e l r)
last_from_at e (last_opt l) (reads_opt r) = from_opt (last_from_at e l r)

last_from_lem : {n p b : ℕ} {x : Expression} → LastPosition n x p → Reads n x p b → From n x p (b ∷ [])
last_from_lem l r = last_from_at refl l r

-- from a position on is its byte and what there is from one that follows it on
follow_from : {n p q b : ℕ} {x : Expression} {u : List ℕ}
    → FollowPosition n x p q
    → Reads n x p b
    → From n x q u
    → From n x p (b ∷ u)
follow_from (follow_before f) r (from_before d m) = from_before (follow_from f (reads_in_before (follow_inside f) r) d) m
follow_from (follow_before f) r (from_behind d) = absurd (parts_apart (follower_inside f) (from_inside d))
follow_from (follow_behind f) r (from_before d m) = absurd (parts_apart (from_inside d) (follower_inside f))
follow_from (follow_behind f) r (from_behind d) = from_behind (follow_from f (reads_in_behind (follow_inside f) r) d)
follow_from (follow_cat l f) r (from_before d m) = absurd (parts_apart (from_inside d) (first_inside f))
follow_from (follow_cat l f) r (from_behind d) =
    from_before (last_from_lem l (reads_in_before (last_inside l) r)) (first_from f d)
follow_from (follow_left f) r (from_left d) = from_left (follow_from f (reads_in_left (follow_inside f) r) d)
follow_from (follow_left f) r (from_right d) = absurd (parts_apart (follower_inside f) (from_inside d))
follow_from (follow_right f) r (from_left d) = absurd (parts_apart (from_inside d) (follower_inside f))
follow_from (follow_right f) r (from_right d) = from_right (follow_from f (reads_in_right (follow_inside f) r) d)
follow_from (follow_within f) (reads_plus r) (from_last d) = from_last (follow_from f r d)
follow_from (follow_within f) (reads_plus r) (from_more d m) = from_more (follow_from f r d) m
follow_from (follow_plus l f) (reads_plus r) (from_last d) = from_more (last_from_lem l r) (once (first_from f d))
follow_from (follow_plus l f) (reads_plus r) (from_more d m) = from_more (last_from_lem l r) (again (first_from f d) m)
follow_from (follow_opt f) (reads_opt r) (from_opt d) = from_opt (follow_from f r d)

-- what pattern k matches from a point on: nothing at its end
data FromPoint (rs : List Expression) (k : ℕ) : Point → List ℕ → Type 0 where
  from_end : FromPoint rs k (end_of k) []
  from_position : {n p : ℕ} {x : Expression} {u : List ℕ} → Placed rs k n x → From n x p u → FromPoint rs k (position p) u

module _ {rs : List Expression} where
  onward_from : {k p b : ℕ} {t : Point} {u : List ℕ}
      → ReadsIn rs p b
      → Onward rs p t
      → FromPoint rs k t u
      → FromPoint rs k (position p) (b ∷ u)
  onward_from {p = p} {b = b} (reads_in c r) (onward_end a l) from_end =
      let here : Reads _ _ p b = placed_moves (λ n x. Reads n x p b) a (last_inside l) c (reads_inside r) r in
      from_position a (last_from_lem l here)
  onward_from {p = p} {b = b} (reads_in c r) (onward_position {q = q} e f) (from_position a d) =
      let next : FollowPosition _ _ p q =
      placed_moves (λ n x. FollowPosition n x p q) a (from_inside d) e (follower_inside f) f in
      let here : Reads _ _ p b = placed_moves (λ n x. Reads n x p b) a (follow_inside next) c (reads_inside r) r in
      from_position a (follow_from next here d)

  -- where the end of pattern k comes once w was read from S on, pattern k matches w from some point of S on
  from_some : (S : Point → Type 0) {k : ℕ} (w : List ℕ)
      → AfterFrom rs S w (end_of k)
      → (t : Point) × S t × FromPoint rs k t w
  unfolding AfterFrom
  from_some S {k} [] s = (end_of k, s, from_end)
  from_some S {k} (b ∷ w) s = go (from_some (Moved rs S b) w s)
    where
      go : ((t : Point) × Moved rs S b t × FromPoint rs k t w) → (t : Point) × S t × FromPoint rs k t (b ∷ w)
      go (t, moved {p = p} h r o, d) = (position p, h, onward_from r o d)

  start_from : {k : ℕ} {t : Point} {w : List ℕ} → Start rs t → FromPoint rs k t w → Pattern rs k w
  start_from (start_end {x = x} a z) from_end = record { meaning = x; at = a.at; matches = null_matches z }
  start_from (start_position {p = p} e f) (from_position {x = x} a d) =
      let here : FirstPosition _ x p =
      placed_moves (λ n y. FirstPosition n y p) a (from_inside d) e (first_inside f) f in
      record { meaning = x; at = a.at; matches = first_from here d }

  pub after_pattern : {k : ℕ} (w : List ℕ) → After rs w (end_of k) → Pattern rs k w
  after_pattern w s =
      let (t, h, d) = from_some (Start rs) w s in
      start_from h d
