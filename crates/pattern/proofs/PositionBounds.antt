-- Where the positions of an expression lie: from n on, as many as its size; so two parts side by side share none.
use Prim.Native.Nat.{ℕ, ◌+◌, ◌≤◌, ◌<◌}
use native.Mathlib.Omega.{arith}
use Rattle.pattern.specs.Pattern.{Class, Expression, one, cat, alt, plus, opt}
use Rattle.pattern.specs.Positions.{size, FirstPosition, first_one, first_cat, first_past, first_left, first_right, first_plus, first_opt, LastPosition, last_one, last_cat, last_before, last_left, last_right, last_plus, last_opt, FollowPosition, follow_before, follow_behind, follow_cat, follow_left, follow_right, follow_within, follow_plus, follow_opt, Reads, reads_one, reads_before, reads_behind, reads_left, reads_right, reads_plus, reads_opt}

-- p is one of the positions of x, numbered from n on
pub record PositionOf (n : ℕ) (x : Expression) (p : ℕ) : Type 0 where
  pub low : n ≤ p
  pub high : p < n + size x

pub inside_one : {n : ℕ} {c : Class} → PositionOf n (one c) n
unfolding size
inside_one = record { low = omega arith; high = omega arith }

pub inside_before : {n p : ℕ} {x y : Expression} → PositionOf n x p → PositionOf n (cat x y) p
unfolding size
inside_before i = record { low = i.low; high = omega arith }

pub inside_behind : {n p : ℕ} {x y : Expression} → PositionOf (n + size x) y p → PositionOf n (cat x y) p
unfolding size
inside_behind i = record { low = omega arith; high = omega arith }

pub inside_left : {n p : ℕ} {x y : Expression} → PositionOf n x p → PositionOf n (alt x y) p
unfolding size
inside_left i = record { low = i.low; high = omega arith }

pub inside_right : {n p : ℕ} {x y : Expression} → PositionOf (n + size x) y p → PositionOf n (alt x y) p
unfolding size
inside_right i = record { low = omega arith; high = omega arith }

pub inside_plus : {n p : ℕ} {x : Expression} → PositionOf n x p → PositionOf n (plus x) p
unfolding size
inside_plus i = record { low = i.low; high = i.high }

pub inside_opt : {n p : ℕ} {x : Expression} → PositionOf n x p → PositionOf n (opt x) p
unfolding size
inside_opt i = record { low = i.low; high = i.high }

-- two parts side by side share no position
pub parts_apart : {n p : ℕ} {x y : Expression} → PositionOf n x p → PositionOf (n + size x) y p → ⊥
parts_apart i j = omega arith

pub first_inside : {n p : ℕ} {x : Expression} → FirstPosition n x p → PositionOf n x p
first_inside first_one = inside_one
first_inside (first_cat f) = inside_before (first_inside f)
first_inside (first_past z f) = inside_behind (first_inside f)
first_inside (first_left f) = inside_left (first_inside f)
first_inside (first_right f) = inside_right (first_inside f)
first_inside (first_plus f) = inside_plus (first_inside f)
first_inside (first_opt f) = inside_opt (first_inside f)

pub last_inside : {n p : ℕ} {x : Expression} → LastPosition n x p → PositionOf n x p
last_inside last_one = inside_one
last_inside (last_cat l) = inside_behind (last_inside l)
last_inside (last_before l z) = inside_before (last_inside l)
last_inside (last_left l) = inside_left (last_inside l)
last_inside (last_right l) = inside_right (last_inside l)
last_inside (last_plus l) = inside_plus (last_inside l)
last_inside (last_opt l) = inside_opt (last_inside l)

-- what is followed
pub follow_inside : {n p q : ℕ} {x : Expression} → FollowPosition n x p q → PositionOf n x p
follow_inside (follow_before f) = inside_before (follow_inside f)
follow_inside (follow_behind f) = inside_behind (follow_inside f)
follow_inside (follow_cat l f) = inside_before (last_inside l)
follow_inside (follow_left f) = inside_left (follow_inside f)
follow_inside (follow_right f) = inside_right (follow_inside f)
follow_inside (follow_within f) = inside_plus (follow_inside f)
follow_inside (follow_plus l f) = inside_plus (last_inside l)
follow_inside (follow_opt f) = inside_opt (follow_inside f)

-- what follows
pub follower_inside : {n p q : ℕ} {x : Expression} → FollowPosition n x p q → PositionOf n x q
follower_inside (follow_before f) = inside_before (follower_inside f)
follower_inside (follow_behind f) = inside_behind (follower_inside f)
follower_inside (follow_cat l f) = inside_behind (first_inside f)
follower_inside (follow_left f) = inside_left (follower_inside f)
follower_inside (follow_right f) = inside_right (follower_inside f)
follower_inside (follow_within f) = inside_plus (follower_inside f)
follower_inside (follow_plus l f) = inside_plus (first_inside f)
follower_inside (follow_opt f) = inside_opt (follower_inside f)

pub reads_inside : {n p b : ℕ} {x : Expression} → Reads n x p b → PositionOf n x p
reads_inside (reads_one h) = inside_one
reads_inside (reads_before r) = inside_before (reads_inside r)
reads_inside (reads_behind r) = inside_behind (reads_inside r)
reads_inside (reads_left r) = inside_left (reads_inside r)
reads_inside (reads_right r) = inside_right (reads_inside r)
reads_inside (reads_plus r) = inside_plus (reads_inside r)
reads_inside (reads_opt r) = inside_opt (reads_inside r)

-- a position of one of two parts reads what it reads there
pub reads_in_before : {n p b : ℕ} {x y : Expression} → PositionOf n x p → Reads n (cat x y) p b → Reads n x p b
reads_in_before i (reads_before r) = r
reads_in_before i (reads_behind r) = absurd (parts_apart i (reads_inside r))

pub reads_in_behind : {n p b : ℕ} {x y : Expression}
    → PositionOf (n + size x) y p
    → Reads n (cat x y) p b
    → Reads (n + size x) y p b
reads_in_behind i (reads_before r) = absurd (parts_apart (reads_inside r) i)
reads_in_behind i (reads_behind r) = r

pub reads_in_left : {n p b : ℕ} {x y : Expression} → PositionOf n x p → Reads n (alt x y) p b → Reads n x p b
reads_in_left i (reads_left r) = r
reads_in_left i (reads_right r) = absurd (parts_apart i (reads_inside r))

pub reads_in_right : {n p b : ℕ} {x y : Expression}
    → PositionOf (n + size x) y p
    → Reads n (alt x y) p b
    → Reads (n + size x) y p b
reads_in_right i (reads_left r) = absurd (parts_apart (reads_inside r) i)
reads_in_right i (reads_right r) = r
