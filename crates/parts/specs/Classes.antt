-- What reading a class comes to, and an element of it: what the reader of one byte says from the place before is what
-- it says from the place after, or the place is refused; and which bytes the class's position reads. Working
-- definitions.
use Rattle.std.specs.Prelude.{◌≡◌, ◌≢◌, List, [], ◌∷◌, ◌++◌, ℕ, ◌≤◌, ◌<◌, get_or, Result, MatchResult}
use Rattle.std.proofs.Math.Option.{some, none}
use Rattle.answers.specs.Limits.{most_positions, position_words}
use Rattle.pattern.specs.Pattern.{Range, Class, InClass, one}
use Rattle.pattern.specs.Marks.{close_class}
use Rattle.pattern.specs.Written.{range}
use Rattle.pattern.specs.Reader.{Begun, Pending, outside, in_class, standing, refused, says}
use Rattle.parts.specs.declared.classes.Span.{Span}
use Rattle.parts.specs.Places.{Behind, Unread}
use Rattle.parts.specs.Rows.{Rows}

-- a class has no element yet, or it does not end here
pub data MayGoOn (text : List ℕ) (at : ℕ) (c : Class) : Type 0 where
  no_element : c ≡ [] → MayGoOn text at c
  no_end : get_or text at 0 ≢ close_class → MayGoOn text at c

-- the place where an element has to stand and none does
abbrev pub NoElement : List ℕ → ℕ → ℕ → Type 0
NoElement text at =
    Unread text at (λ place. (room : ℕ) (around : List Begun) (a : Begun) (c : Class)
    → MayGoOn text at c
    → says text (standing room around a (in_class c none)) at ≡ refused place)

-- an element, a byte or a range
pub record SpanPassed (text : List ℕ) (at : ℕ) (s : Span) : Type 0 where
  pub place : Behind text at s.at
  pub passed : (room : ℕ) (around : List Begun) (a : Begun) (c : Class)
      → says text (standing room around a (in_class c none)) at
      ≡ says text (standing room around a (in_class (c ++ (range s.low s.high ∷ [])) none)) s.at

abbrev pub SpanRead : List ℕ → ℕ → Result Span ℕ → Type 0
SpanRead text at r = MatchResult r (SpanPassed text at) (NoElement text at)

-- the position reads each byte from low to high
abbrev pub Spread : ℕ → ℕ → ℕ → List ℕ → List ℕ → Type 0
Spread low high position readers after =
    position < most_positions → Rows position_words readers after (λ b p. ((low ≤ b) × (b ≤ high)) × (p ≡ position))

-- an element, whose bytes the position reads
pub record ElementMeant (text : List ℕ) (at position : ℕ) (readers : List ℕ) (next : ℕ) (after : List ℕ) : Type 0 where
  pub place : Behind text at next
  pub element : Range
  pub passed : (room : ℕ) (around : List Begun) (a : Begun) (c : Class)
      → says text (standing room around a (in_class c none)) at
      ≡ says text (standing room around a (in_class (c ++ (element ∷ [])) none)) next
  pub reads : Spread element.low element.high position readers after

abbrev pub ElementRead : List ℕ → ℕ → ℕ → List ℕ → Result ℕ ℕ → List ℕ → Type 0
ElementRead text at position readers r after =
    MatchResult r (λ next. ElementMeant text at position readers next after) (NoElement text at)

-- a class, or its elements so far: at least one, after which `to` is pending
pub record ClassMeant (text : List ℕ) (at : ℕ) (to : Class → Pending) (position : ℕ) (readers : List ℕ)
    (next : ℕ) (after : List ℕ) : Type 0 where
  pub place : Behind text at next
  pub head : Range
  pub tail : Class
  pub passed : (room : ℕ) (around : List Begun) (a : Begun)
      → says text (standing room around a (in_class [] none)) at
      ≡ says text (standing room around a (to (head ∷ tail))) next
  pub reads : position < most_positions
      → Rows position_words readers after (λ b p. InClass (head ∷ tail) b × (p ≡ position))

-- what is pending behind elements, and behind the end of a class
abbrev pub elements_pending : Class → Pending
elements_pending c = in_class c none

abbrev pub class_pending : Class → Pending
class_pending c = outside (some (one c))

-- the place where a class stops
abbrev pub NoClass : List ℕ → ℕ → ℕ → Type 0
NoClass text at =
    Unread text at (λ place. (room : ℕ) (around : List Begun) (a : Begun)
    → says text (standing room around a (in_class [] none)) at ≡ refused place)

abbrev pub ClassRead : List ℕ → ℕ → ℕ → List ℕ → Result ℕ ℕ → List ℕ → Type 0
ClassRead text at position readers r after =
    MatchResult r (λ next. ClassMeant text at class_pending position readers next after) (NoClass text at)
