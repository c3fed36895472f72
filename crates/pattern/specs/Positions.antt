-- Positions and what can come next: the textbook's nullable, firstpos, lastpos, followpos, and the points of a state.
-- Document 02, W3: "a state is the set of these positions, and of pattern ends, that can come next". Definitions only.
use Rattle.std.specs.Prelude.{◌≡◌, List, [], ◌∷◌, ℕ, ◌+◌, take}
use Rattle.std.proofs.Math.Option.{some}
use Rattle.std.proofs.Math.ListN.{get_elem?}
use Rattle.pattern.specs.Pattern.{Class, InClass, Expression, one, cat, alt, plus, opt}

-- how many positions x has: its bytes and classes as they stand, numbered from left to right
unfoldable pub size : Expression → ℕ
size (one c) = 1
size (cat x y) = size x + size y
size (alt x y) = size x + size y
size (plus x) = size x
size (opt x) = size x

-- x can be passed without a byte
pub data Null : Expression → Type 0 where
  null_cat : {x y : Expression} → Null x → Null y → Null (cat x y)
  null_left : {x y : Expression} → Null x → Null (alt x y)
  null_right : {x y : Expression} → Null y → Null (alt x y)
  null_plus : {x : Expression} → Null x → Null (plus x)
  null_opt : {x : Expression} → Null (opt x)

-- with the positions of x numbered from n on, p can come first
pub data FirstPosition : ℕ → Expression → ℕ → Type 0 where
  first_one : {n : ℕ} {c : Class} → FirstPosition n (one c) n
  first_cat : {n p : ℕ} {x y : Expression} → FirstPosition n x p → FirstPosition n (cat x y) p
  first_past : {n p : ℕ} {x y : Expression} → Null x → FirstPosition (n + size x) y p → FirstPosition n (cat x y) p
  first_left : {n p : ℕ} {x y : Expression} → FirstPosition n x p → FirstPosition n (alt x y) p
  first_right : {n p : ℕ} {x y : Expression} → FirstPosition (n + size x) y p → FirstPosition n (alt x y) p
  first_plus : {n p : ℕ} {x : Expression} → FirstPosition n x p → FirstPosition n (plus x) p
  first_opt : {n p : ℕ} {x : Expression} → FirstPosition n x p → FirstPosition n (opt x) p

-- p can come last
pub data LastPosition : ℕ → Expression → ℕ → Type 0 where
  last_one : {n : ℕ} {c : Class} → LastPosition n (one c) n
  last_cat : {n p : ℕ} {x y : Expression} → LastPosition (n + size x) y p → LastPosition n (cat x y) p
  last_before : {n p : ℕ} {x y : Expression} → LastPosition n x p → Null y → LastPosition n (cat x y) p
  last_left : {n p : ℕ} {x y : Expression} → LastPosition n x p → LastPosition n (alt x y) p
  last_right : {n p : ℕ} {x y : Expression} → LastPosition (n + size x) y p → LastPosition n (alt x y) p
  last_plus : {n p : ℕ} {x : Expression} → LastPosition n x p → LastPosition n (plus x) p
  last_opt : {n p : ℕ} {x : Expression} → LastPosition n x p → LastPosition n (opt x) p

-- q can come right after p: two in turn lead from a last of the left to a first of the right, a loop from last to first
pub data FollowPosition : ℕ → Expression → ℕ → ℕ → Type 0 where
  follow_before : {n p q : ℕ} {x y : Expression} → FollowPosition n x p q → FollowPosition n (cat x y) p q
  follow_behind : {n p q : ℕ} {x y : Expression} → FollowPosition (n + size x) y p q → FollowPosition n (cat x y) p q
  follow_cat : {n p q : ℕ} {x y : Expression}
      → LastPosition n x p
      → FirstPosition (n + size x) y q
      → FollowPosition n (cat x y) p q
  follow_left : {n p q : ℕ} {x y : Expression} → FollowPosition n x p q → FollowPosition n (alt x y) p q
  follow_right : {n p q : ℕ} {x y : Expression} → FollowPosition (n + size x) y p q → FollowPosition n (alt x y) p q
  follow_within : {n p q : ℕ} {x : Expression} → FollowPosition n x p q → FollowPosition n (plus x) p q
  follow_plus : {n p q : ℕ} {x : Expression} → LastPosition n x p → FirstPosition n x q → FollowPosition n (plus x) p q
  follow_opt : {n p q : ℕ} {x : Expression} → FollowPosition n x p q → FollowPosition n (opt x) p q

-- position p reads byte b
pub data Reads : ℕ → Expression → ℕ → ℕ → Type 0 where
  reads_one : {n b : ℕ} {c : Class} → InClass c b → Reads n (one c) n b
  reads_before : {n p b : ℕ} {x y : Expression} → Reads n x p b → Reads n (cat x y) p b
  reads_behind : {n p b : ℕ} {x y : Expression} → Reads (n + size x) y p b → Reads n (cat x y) p b
  reads_left : {n p b : ℕ} {x y : Expression} → Reads n x p b → Reads n (alt x y) p b
  reads_right : {n p b : ℕ} {x y : Expression} → Reads (n + size x) y p b → Reads n (alt x y) p b
  reads_plus : {n p b : ℕ} {x : Expression} → Reads n x p b → Reads n (plus x) p b
  reads_opt : {n p b : ℕ} {x : Expression} → Reads n x p b → Reads n (opt x) p b

-- how many positions the patterns have together, numbered from 0 on, pattern after pattern
unfoldable pub positions : List Expression → ℕ
positions [] = 0
positions (x ∷ rs) = size x + positions rs

-- what can come next: a position, or the end of a pattern
pub data Point : Type 0 where
  position : ℕ → Point
  end_of : ℕ → Point

module _ (rs : List Expression) where
  -- pattern number k is x, and its positions start at n, behind those of the patterns before it
  pub record Placed (k n : ℕ) (x : Expression) : Type 0 where
    pub at : get_elem? rs k ≡ some x
    pub from : n ≡ positions (take k rs)

  -- the points that can come first
  pub data Start : Point → Type 0 where
    start_position : {k n p : ℕ} {x : Expression} → Placed k n x → FirstPosition n x p → Start (position p)
    start_end : {k n : ℕ} {x : Expression} → Placed k n x → Null x → Start (end_of k)

  -- the points that can come right after position p
  pub data Onward (p : ℕ) : Point → Type 0 where
    onward_position : {k n q : ℕ} {x : Expression} → Placed k n x → FollowPosition n x p q → Onward p (position q)
    onward_end : {k n : ℕ} {x : Expression} → Placed k n x → LastPosition n x p → Onward p (end_of k)

  -- position p, of whichever pattern, reads byte b
  pub data ReadsIn (p b : ℕ) : Type 0 where
    reads_in : {k n : ℕ} {x : Expression} → Placed k n x → Reads n x p b → ReadsIn p b

  -- the points that come after a position of S that reads b
  pub data Moved (S : Point → Type 0) (b : ℕ) : Point → Type 0 where
    moved : {p : ℕ} {t : Point} → S (position p) → ReadsIn p b → Onward p t → Moved S b t

  -- the points that can come next once w was read, from those of S on
  unfoldable pub AfterFrom : (Point → Type 0) → List ℕ → Point → Type 0
  AfterFrom S [] = S
  AfterFrom S (b ∷ w) = AfterFrom (Moved S b) w

  -- the points that can come next once w was read
  abbrev pub After : List ℕ → Point → Type 0
  After w = AfterFrom Start w
