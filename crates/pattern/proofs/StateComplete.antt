-- A state says no less than the patterns: if pattern k matches w, its end can come next once w was read.
-- The points behind a part of a pattern are a parameter of the induction, so that no string is ever taken apart.
use mathlib.Core.Path.{refl}
use mathlib.Core.List.{List, [], ◌∷◌, ◌++◌}
use Prim.Native.Nat.{ℕ, ◌+◌}
use lib.ListN.{take}
use Rattle.pattern.specs.Pattern.{Expression, cat, alt, plus, opt, Pattern, Matches, byte, in_turn, either_left, either_right, once, again, nothing, itself}
use Rattle.pattern.specs.Positions.{size, Null, null_cat, null_left, null_right, null_plus, null_opt, FirstPosition, first_one, first_cat, first_past, first_left, first_right, first_plus, first_opt, LastPosition, last_one, last_cat, last_before, last_left, last_right, last_plus, last_opt, FollowPosition, follow_before, follow_behind, follow_cat, follow_left, follow_right, follow_within, follow_plus, follow_opt, Reads, reads_one, reads_before, reads_behind, reads_left, reads_right, reads_plus, reads_opt, positions, Point, position, end_of, Placed, Start, start_position, start_end, Onward, onward_position, onward_end, ReadsIn, reads_in, Moved, moved, AfterFrom, After}

-- x, numbered from n on, is a part of the patterns, and the points of B can come behind it
record Part (rs : List Expression) (n : ℕ) (x : Expression) (B : Point → Type 0) : Type 0 where
  reads : {p b : ℕ} → Reads n x p b → ReadsIn rs p b
  follows : {p q : ℕ} → FollowPosition n x p q → Onward rs p (position q)
  leaves : {p : ℕ} {t : Point} → LastPosition n x p → B t → Onward rs p t

-- the points where x begins: its first positions, and those of B behind it where it is `Null`
data Beginning (n : ℕ) (x : Expression) (B : Point → Type 0) : Point → Type 0 where
  begin_first : {p : ℕ} → FirstPosition n x p → Beginning n x B (position p)
  begin_past : {t : Point} → Null x → B t → Beginning n x B t

-- the end of pattern k
data OnlyEnd (k : ℕ) : Point → Type 0 where
  the_end : OnlyEnd k (end_of k)

-- two strings read one after the other are read together
after_join : (rs : List Expression) (S : Point → Type 0) (u v : List ℕ) (t : Point)
    → AfterFrom rs (AfterFrom rs S u) v t
    → AfterFrom rs S (u ++ v) t
unfolding AfterFrom
after_join rs S [] v t a = a
after_join rs S (b ∷ u) v t a = after_join rs (Moved rs S b) u v t a

-- where the whole begins, each part that can come first begins
module _ {n : ℕ} {x : Expression} {B : Point → Type 0} where
  begin_before : {y : Expression} {t : Point} → Beginning n x (Beginning (n + size x) y B) t → Beginning n (cat x y) B t
  begin_before (begin_first f) = begin_first (first_cat f)
  begin_before (begin_past z (begin_first f)) = begin_first (first_past z f)
  begin_before (begin_past z (begin_past w k)) = begin_past (null_cat z w) k

  begin_left : {y : Expression} {t : Point} → Beginning n x B t → Beginning n (alt x y) B t
  begin_left (begin_first f) = begin_first (first_left f)
  begin_left (begin_past z k) = begin_past (null_left z) k

  begin_right : {y : Expression} {t : Point} → Beginning (n + size x) y B t → Beginning n (alt x y) B t
  begin_right (begin_first f) = begin_first (first_right f)
  begin_right (begin_past z k) = begin_past (null_right z) k

  begin_once : {t : Point} → Beginning n x B t → Beginning n (plus x) B t
  begin_once (begin_first f) = begin_first (first_plus f)
  begin_once (begin_past z k) = begin_past (null_plus z) k

  begin_again : {t : Point} → Beginning n x (Beginning n (plus x) B) t → Beginning n (plus x) B t
  begin_again (begin_first f) = begin_first (first_plus f)
  begin_again (begin_past z k) = k

  begin_itself : {t : Point} → Beginning n x B t → Beginning n (opt x) B t
  begin_itself (begin_first f) = begin_first (first_opt f)
  begin_itself (begin_past z k) = begin_past null_opt k

-- a part of a part is a part, and behind it comes what begins there
module _ {rs : List Expression} {n : ℕ} {x : Expression} {B : Point → Type 0} where
  leaves_before : {y : Expression} {p : ℕ} {t : Point}
      → Part rs n (cat x y) B
      → LastPosition n x p
      → Beginning (n + size x) y B t
      → Onward rs p t
  leaves_before a l (begin_first f) = a.follows (follow_cat l f)
  leaves_before a l (begin_past z k) = a.leaves (last_before l z) k

  part_before : {y : Expression} → Part rs n (cat x y) B → Part rs n x (Beginning (n + size x) y B)
  part_before a =
      record { reads = λ r. a.reads (reads_before r); follows = λ f. a.follows (follow_before f); leaves = leaves_before a }

  part_behind : {y : Expression} → Part rs n (cat x y) B → Part rs (n + size x) y B
  part_behind a =
      record { reads = λ r. a.reads (reads_behind r); follows = λ f. a.follows (follow_behind f); leaves = λ l. a.leaves (last_cat l) }

  part_left : {y : Expression} → Part rs n (alt x y) B → Part rs n x B
  part_left a =
      record { reads = λ r. a.reads (reads_left r); follows = λ f. a.follows (follow_left f); leaves = λ l. a.leaves (last_left l) }

  part_right : {y : Expression} → Part rs n (alt x y) B → Part rs (n + size x) y B
  part_right a =
      record { reads = λ r. a.reads (reads_right r); follows = λ f. a.follows (follow_right f); leaves = λ l. a.leaves (last_right l) }

  part_once : Part rs n (plus x) B → Part rs n x B
  part_once a =
      record { reads = λ r. a.reads (reads_plus r); follows = λ f. a.follows (follow_within f); leaves = λ l. a.leaves (last_plus l) }

  leaves_again : {p : ℕ} {t : Point}
      → Part rs n (plus x) B
      → LastPosition n x p
      → Beginning n (plus x) B t
      → Onward rs p t
  leaves_again a l (begin_first (first_plus f)) = a.follows (follow_plus l f)
  leaves_again a l (begin_past z k) = a.leaves (last_plus l) k

  part_again : Part rs n (plus x) B → Part rs n x (Beginning n (plus x) B)
  part_again a =
      record { reads = λ r. a.reads (reads_plus r); follows = λ f. a.follows (follow_within f); leaves = leaves_again a }

  part_itself : Part rs n (opt x) B → Part rs n x B
  part_itself a =
      record { reads = λ r. a.reads (reads_opt r); follows = λ f. a.follows (follow_opt f); leaves = λ l. a.leaves (last_opt l) }

-- a part that begins at S, and matches u: once u was read, the points behind it can come next
module _ {rs : List Expression} where
  part_read : {x : Expression} {u : List ℕ}
      → Matches x u
      → (n : ℕ) (B S : Point → Type 0)
      → Part rs n x B
      → ((t : Point) → Beginning n x B t → S t)
      → (t : Point)
      → B t
      → AfterFrom rs S u t
  unfolding AfterFrom
  part_read (byte h) n B S a s t k =
      moved (s (position n) (begin_first first_one)) (a.reads (reads_one h)) (a.leaves last_one k)
  part_read (in_turn {x = x} {y = y} {u = u} {v = v} m l) n B S a s t k =
      let C : Point → Type 0 = Beginning (n + size x) y B in
      let between : (r : Point) → C r → AfterFrom rs S u r =
      λ r c. part_read m n C S (part_before a) (λ q d. s q (begin_before d)) r c in
      after_join rs S u v t (part_read l (n + size x) B (AfterFrom rs S u) (part_behind a) between t k)
  part_read (either_left m) n B S a s t k = part_read m n B S (part_left a) (λ r d. s r (begin_left d)) t k
  part_read (either_right {x = x} m) n B S a s t k =
      part_read m (n + size x) B S (part_right a) (λ r d. s r (begin_right d)) t k
  part_read (once m) n B S a s t k = part_read m n B S (part_once a) (λ r d. s r (begin_once d)) t k
  part_read (again {x = x} {u = u} {v = v} m l) n B S a s t k =
      let C : Point → Type 0 = Beginning n (plus x) B in
      let between : (r : Point) → C r → AfterFrom rs S u r =
      λ r c. part_read m n C S (part_again a) (λ q d. s q (begin_again d)) r c in
      after_join rs S u v t (part_read l n B (AfterFrom rs S u) a between t k)
  part_read nothing n B S a s t k = s t (begin_past null_opt k)
  part_read (itself m) n B S a s t k = part_read m n B S (part_itself a) (λ r d. s r (begin_itself d)) t k

  -- a whole pattern is a part, with its end alone behind it
  leaves_end : {k n p : ℕ} {x : Expression} {t : Point}
      → Placed rs k n x
      → LastPosition n x p
      → OnlyEnd k t
      → Onward rs p t
  leaves_end a l the_end = onward_end a l

  whole_part : {k n : ℕ} {x : Expression} → Placed rs k n x → Part rs n x (OnlyEnd k)
  whole_part a = record { reads = λ r. reads_in a r; follows = λ f. onward_position a f; leaves = leaves_end a }

  whole_begins : {k n : ℕ} {x : Expression} → Placed rs k n x → (t : Point) → Beginning n x (OnlyEnd k) t → Start rs t
  whole_begins a t (begin_first f) = start_position a f
  whole_begins a t (begin_past z the_end) = start_end a z

  pub pattern_after : {k : ℕ} (w : List ℕ) → Pattern rs k w → After rs w (end_of k)
  pattern_after {k} w m =
      let n : ℕ = positions (take k rs) in
      let a : Placed rs k n m.meaning = record { at = m.at; from = refl } in
      part_read m.matches n (OnlyEnd k) (Start rs) (whole_part a) (whole_begins a) (end_of k) the_end
