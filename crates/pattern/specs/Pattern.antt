-- What a pattern is and what it matches: the patterns' own meaning.
-- Document 02, W3: bytes, classes, groups, alternation, and the repetitions `*`, `+`, `?`. Definitions only.
use Rattle.std.specs.Prelude.{◌≡◌, List, [], ◌∷◌, ◌++◌, ℕ, ◌≤◌}
use Rattle.std.proofs.Math.Option.{some}
use Rattle.std.proofs.Math.ListN.{get_elem?}

-- the bytes from `low` to `high`, both in it
pub record Range : Type 0 where
  pub low : ℕ
  pub high : ℕ

-- a class of bytes and ranges; a byte is a range of one
abbrev pub Class : Type 0
Class = List Range

-- byte b is in a range of the class
pub data InClass : Class → ℕ → Type 0 where
  here : {r : Range} {c : Class} {b : ℕ} → r.low ≤ b → b ≤ r.high → InClass (r ∷ c) b
  there : {r : Range} {c : Class} {b : ℕ} → InClass c b → InClass (r ∷ c) b

-- what the text of a pattern means: a class, two in turn, either of two, one or more, or one or none of the same
pub data Expression : Type 0 where
  one : Class → Expression
  cat : Expression → Expression → Expression
  alt : Expression → Expression → Expression
  plus : Expression → Expression
  opt : Expression → Expression

-- `*`: none, or one or more
abbrev pub star : Expression → Expression
star x = opt (plus x)

-- the pattern x matches the string u
pub data Matches : Expression → List ℕ → Type 0 where
  byte : {c : Class} {b : ℕ} → InClass c b → Matches (one c) (b ∷ [])
  in_turn : {x y : Expression} {u v : List ℕ} → Matches x u → Matches y v → Matches (cat x y) (u ++ v)
  either_left : {x y : Expression} {u : List ℕ} → Matches x u → Matches (alt x y) u
  either_right : {x y : Expression} {u : List ℕ} → Matches y u → Matches (alt x y) u
  once : {x : Expression} {u : List ℕ} → Matches x u → Matches (plus x) u
  again : {x : Expression} {u v : List ℕ} → Matches x u → Matches (plus x) v → Matches (plus x) (u ++ v)
  nothing : {x : Expression} → Matches (opt x) []
  itself : {x : Expression} {u : List ℕ} → Matches x u → Matches (opt x) u

-- pattern number k of the list matches u
pub record Pattern (rs : List Expression) (k : ℕ) (u : List ℕ) : Type 0 where
  pub meaning : Expression
  pub at : get_elem? rs k ≡ some meaning
  pub matches : Matches meaning u
