-- How a pattern is written: which texts are patterns, what they mean, and at which place a text stops being one.
-- Document 02, W3. Definitions only.
use Rattle.std.specs.Prelude.{◌≡◌, false, List, [], ◌∷◌, ◌++◌, ℕ, suc, ◌≤◌, ◌<◌, length, take, drop}
use Rattle.std.proofs.Math.Option.{some}
use Rattle.std.proofs.Math.ListN.{get_elem?}
use Rattle.pattern.specs.Pattern.{Range, Class, Expression, one, cat, alt, plus, opt, star, Matches}
use Rattle.pattern.specs.Marks.{most_open_groups, open_group, close_group, open_class, close_class, bar, star_sign}
use Rattle.pattern.specs.Marks.{plus_sign, question_mark, backslash, dash, special, special_in_class, among}

-- the bytes s stand for the byte b: b where it is plain, or b behind a backslash
pub data Byte (marks : List ℕ) : List ℕ → ℕ → Type 0 where
  plain : {b : ℕ} → among b marks ≡ false → Byte marks (b ∷ []) b
  escaped : {b : ℕ} → Byte marks (backslash ∷ b ∷ []) b

abbrev pub range : ℕ → ℕ → Range
range low high = record { low = low; high = high }

-- an element of a class: a byte, or a range with its ends rising or equal
pub data Element : List ℕ → Range → Type 0 where
  single : {s : List ℕ} {b : ℕ} → Byte special_in_class s b → Element s (range b b)
  from_to : {s t : List ℕ} {low high : ℕ}
      → Byte special_in_class s low
      → Byte special_in_class t high
      → low ≤ high
      → Element (s ++ (dash ∷ t)) (range low high)

-- the elements of a class, at least one, in the order of the text
pub data Elements : List ℕ → Class → Type 0 where
  only : {s : List ℕ} {r : Range} → Element s r → Elements s (r ∷ [])
  more : {s t : List ℕ} {r : Range} {c : Class} → Element s r → Elements t c → Elements (s ++ t) (r ∷ c)

-- a sign, and what it makes of the meaning of the item before it
pub data Sign : ℕ → (Expression → Expression) → Type 0 where
  any_number : Sign star_sign star
  at_least_once : Sign plus_sign plus
  at_most_once : Sign question_mark opt

-- alternatives with bars between them, of repetitions one behind the other, of an item with a sign or none
pub data Sort : Type 0 where
  alternation sequence repetition item : Sort

-- the bytes s are of this sort, with at most d groups nested in them, and mean x
pub data Written : Sort → ℕ → List ℕ → Expression → Type 0 where
  alternative : {d : ℕ} {s : List ℕ} {x : Expression} → Written sequence d s x → Written alternation d s x
  or_else : {d : ℕ} {s t : List ℕ} {x y : Expression}
      → Written alternation d s x
      → Written sequence d t y
      → Written alternation d (s ++ (bar ∷ t)) (alt x y)
  alone : {d : ℕ} {s : List ℕ} {x : Expression} → Written repetition d s x → Written sequence d s x
  followed : {d : ℕ} {s t : List ℕ} {x y : Expression}
      → Written sequence d s x
      → Written repetition d t y
      → Written sequence d (s ++ t) (cat x y)
  unsigned : {d : ℕ} {s : List ℕ} {x : Expression} → Written item d s x → Written repetition d s x
  signed : {d b : ℕ} {s : List ℕ} {x : Expression} {f : Expression → Expression}
      → Written item d s x
      → Sign b f
      → Written repetition d (s ++ (b ∷ [])) (f x)
  one_byte : {d b : ℕ} {s : List ℕ} → Byte special s b → Written item d s (one (range b b ∷ []))
  class : {d : ℕ} {s : List ℕ} {c : Class}
      → Elements s c
      → Written item d (open_class ∷ (s ++ (close_class ∷ []))) (one c)
  group : {d : ℕ} {s : List ℕ} {x : Expression}
      → Written alternation d s x
      → Written item (suc d) (open_group ∷ (s ++ (close_group ∷ []))) x

-- the text s is a pattern and means x
abbrev pub IsPattern : List ℕ → Expression → Type 0
IsPattern s x = Written alternation most_open_groups s x

-- some bytes behind u make it a pattern
pub record Viable (u : List ℕ) : Type 0 where
  pub rest : List ℕ
  pub meaning : Expression
  pub pattern : IsPattern (u ++ rest) meaning

-- s is no pattern, and byte i is the first that no pattern could have there, or i is the length
pub record Malformed (s : List ℕ) (i : ℕ) : Type 0 where
  pub inside : i ≤ length s
  pub begun : Viable (take i s)
  pub blocked : i < length s → ¬ Viable (take (suc i) s)
  pub not_pattern : (x : Expression) → ¬ IsPattern s x

-- malformed at i, or a pattern that matches the empty string and i is its length
pub data BadAt (s : List ℕ) : ℕ → Type 0 where
  malformed : {i : ℕ} → Malformed s i → BadAt s i
  empty : {x : Expression} → IsPattern s x → Matches x [] → BadAt s (length s)

-- a pattern that does not match the empty string
pub record Good (s : List ℕ) : Type 0 where
  pub meaning : Expression
  pub pattern : IsPattern s meaning
  pub not_empty : ¬ Matches meaning []

-- pattern k is the next min (lengths k, bytes left) bytes
unfoldable pub patterns_of : (bytes lengths : List ℕ) → List (List ℕ)
patterns_of bytes [] = []
patterns_of bytes (n ∷ lengths) = take n bytes ∷ patterns_of (drop n bytes) lengths

-- text k is bad at i, and each lower one is good
pub record FirstBad (texts : List (List ℕ)) (i k : ℕ) : Type 0 where
  pub text : List ℕ
  pub at : get_elem? texts k ≡ some text
  pub bad : BadAt text i
  pub lower : (j : ℕ) → j < k → (t : List ℕ) → get_elem? texts j ≡ some t → Good t

-- no text is bad
pub record AllGood (texts : List (List ℕ)) : Type 0 where
  pub good : (j : ℕ) (t : List ℕ) → get_elem? texts j ≡ some t → Good t
