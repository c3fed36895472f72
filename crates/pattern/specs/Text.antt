-- A text for each meaning that a pattern can have, with groups only where they are needed.
-- A working definition, which no public contract cites.
use Rattle.std.specs.Prelude.{true, false, List, [], ◌∷◌, ◌++◌, ℕ, suc, ◌≤◌, ◌<◌, max, eqb, ltb}
use Rattle.pattern.specs.Pattern.{Range, Class, Expression, one, cat, alt, plus, opt}
use Rattle.pattern.specs.Marks.{open_group, close_group, open_class, close_class, bar, star_sign, plus_sign}
use Rattle.pattern.specs.Marks.{question_mark, backslash, dash, special, special_in_class, among}
use Rattle.pattern.specs.Written.{Sort, alternation, sequence, repetition, item}

pub data Bytes : List ℕ → Type 0 where
  no_byte : Bytes []
  and_byte : {b : ℕ} {s : List ℕ} → b < 256 → Bytes s → Bytes (b ∷ s)

-- the ends are bytes, rising or equal
pub record Rises (r : Range) : Type 0 where
  pub rising : r.low ≤ r.high
  pub below : r.high < 256

-- a class that is not empty, of such ranges
pub data Listed : Class → Type 0 where
  last_listed : {r : Range} → Rises r → Listed (r ∷ [])
  more_listed : {r : Range} {c : Class} → Rises r → Listed c → Listed (r ∷ c)

-- each class is such a one
pub data Writable : Expression → Type 0 where
  one_writable : {c : Class} → Listed c → Writable (one c)
  cat_writable : {x y : Expression} → Writable x → Writable y → Writable (cat x y)
  alt_writable : {x y : Expression} → Writable x → Writable y → Writable (alt x y)
  plus_writable : {x : Expression} → Writable x → Writable (plus x)
  opt_writable : {x : Expression} → Writable x → Writable (opt x)

-- a byte, behind a backslash where it is not plain
unfoldable pub byte_text : List ℕ → ℕ → List ℕ
byte_text marks b = elim (among b marks) [ true ↦ backslash ∷ b ∷ [] | false ↦ b ∷ [] ]

-- a byte where the ends are equal, else a range
unfoldable pub element_text : Range → List ℕ
element_text r =
    elim (eqb r.low r.high) [
      | true ↦ byte_text special_in_class r.low
      | false ↦ byte_text special_in_class r.low ++ (dash ∷ byte_text special_in_class r.high)
    ]

unfoldable pub elements_text : Class → List ℕ
elements_text [] = []
elements_text (r ∷ c) = element_text r ++ elements_text c

unfoldable pub bracketed : Class → List ℕ
bracketed c = open_class ∷ (elements_text c ++ (close_class ∷ []))

-- a byte where the class has only one
unfoldable pub class_text : Class → List ℕ
class_text [] = bracketed []
class_text (r ∷ []) = elim (eqb r.low r.high) [ true ↦ byte_text special r.low | false ↦ bracketed (r ∷ []) ]
class_text (r ∷ (q ∷ c)) = bracketed (r ∷ (q ∷ c))

-- a text, and how deep groups nest in it
pub record Draft : Type 0 where
  pub text : List ℕ
  pub depth : ℕ

unfoldable pub both : Draft → List ℕ → Draft → Draft
both t between u = record { text = t.text ++ (between ++ u.text); depth = max t.depth u.depth }

unfoldable pub behind : Draft → ℕ → Draft
behind t sign = record { text = t.text ++ (sign ∷ []); depth = t.depth }

-- the sorts from the loosest on
unfoldable pub rank : Sort → ℕ
rank alternation = 0
rank sequence = 1
rank repetition = 2
rank item = 3

-- in a group, if its sort is looser than the one asked for
unfoldable pub asked : Sort → Sort → Draft → Draft
asked sort own t =
    elim (ltb (rank own) (rank sort))
    [ true ↦ record { text = open_group ∷ (t.text ++ (close_group ∷ [])); depth = suc t.depth } | false ↦ t ]

-- the meaning as a text of the sort asked for
unfoldable pub drafted : Sort → Expression → Draft
drafted sort (one c) = record { text = class_text c; depth = 0 }
drafted sort (alt x y) = asked sort alternation (both (drafted alternation x) (bar ∷ []) (drafted sequence y))
drafted sort (cat x y) = asked sort sequence (both (drafted sequence x) [] (drafted repetition y))
drafted sort (plus x) = asked sort repetition (behind (drafted item x) plus_sign)
drafted sort (opt (plus x)) = asked sort repetition (behind (drafted item x) star_sign)
drafted sort (opt (one c)) = asked sort repetition (behind (drafted item (one c)) question_mark)
drafted sort (opt (alt x y)) = asked sort repetition (behind (drafted item (alt x y)) question_mark)
drafted sort (opt (cat x y)) = asked sort repetition (behind (drafted item (cat x y)) question_mark)
drafted sort (opt (opt x)) = asked sort repetition (behind (drafted item (opt x)) question_mark)

unfoldable pub text_of : Expression → List ℕ
text_of x = (drafted alternation x).text

unfoldable pub groups_of : Expression → ℕ
groups_of x = (drafted alternation x).depth
