-- A reader of one byte at a time: a working definition, which no public contract cites.
-- It goes on exactly as long as some pattern begins so, and what it has read at the end is the text's meaning.
use Rattle.std.specs.Prelude.{true, false, List, [], ◌∷◌, ◌++◌, ℕ, zero, suc, leb, drop}
use Rattle.std.proofs.Math.Option.{Option, some, none}
use Rattle.pattern.specs.Pattern.{Class, Expression, one, cat, alt}
use Rattle.pattern.specs.Marks.{most_open_groups}
use Rattle.pattern.specs.Written.{range}
use Rattle.pattern.specs.Kinds.{Mark, opens_group, closes_group, opens_class, divides, repeats, Kind, is_plain}
use Rattle.pattern.specs.Kinds.{is_dash, is_backslash, closes_class, marks, kind_of}

-- an alternation begun: the alternatives before its last bar, and the items of the last one
pub record Begun : Type 0 where
  pub before : Option Expression
  pub items : Option Expression

-- what is begun and not settled: outside a class the last item, if a sign may still follow it; in a class its elements
-- so far and the last byte, if a dash may still follow it; in a range the elements before it and its lower end
pub data Pending : Type 0 where
  outside : Option Expression → Pending
  in_class : Class → Option ℕ → Pending
  in_range : Class → ℕ → Pending

-- where the reader stands, perhaps behind a backslash: how many groups may still open; what was begun before each open
-- group, the innermost first; what was begun in the innermost; what is pending there
pub data Standing : Type 0 where
  standing behind_backslash : ℕ → List Begun → Begun → Pending → Standing

unfoldable pub nothing_begun : Begun
nothing_begun = record { before = none; items = none }

unfoldable pub start : Standing
start = standing most_open_groups [] nothing_begun (outside none)

-- x, or x joined to what stands before it
unfoldable pub joined : (Expression → Expression → Expression) → Option Expression → Expression → Expression
joined f none x = x
joined f (some y) x = f y x

unfoldable pub with_item : Begun → Expression → Begun
with_item a x = record { before = a.before; items = some (joined cat a.items x) }

-- with the last item, which no sign follows
unfoldable pub settled : Begun → Option Expression → Begun
settled a none = a
settled a (some x) = with_item a x

-- the meaning of the alternation, if its last alternative has an item
unfoldable pub alternation_of : Begun → Option Expression
alternation_of a = elim a.items [ none ↦ none | some x ↦ some (joined alt a.before x) ]

-- with the last byte, which no dash follows
unfoldable pub elements : Class → Option ℕ → Class
elements c none = c
elements c (some b) = c ++ (range b b ∷ [])

-- behind the opening of a group, behind its end, and behind a bar
unfoldable pub opened : ℕ → List Begun → Begun → Option Standing
opened zero around a = none
opened (suc room) around a = some (standing room (a ∷ around) nothing_begun (outside none))

unfoldable pub closed : ℕ → List Begun → Option Expression → Option Standing
closed room [] x = none
closed room (a ∷ around) none = none
closed room (a ∷ around) (some x) = some (standing (suc room) around a (outside (some x)))

unfoldable pub divided : ℕ → List Begun → Option Expression → Option Standing
divided room around none = none
divided room around (some x) = some (standing room around (record { before = some x; items = none }) (outside none))

module _ (room : ℕ) (around : List Begun) (a : Begun) where
  -- a mark outside a class, behind the last item
  unfoldable pub marked : Option Expression → Mark → Option Standing
  marked last opens_group = opened room around (settled a last)
  marked last closes_group = closed room around (alternation_of (settled a last))
  marked last opens_class = some (standing room around (settled a last) (in_class [] none))
  marked last divides = divided room around (alternation_of (settled a last))
  marked none (repeats f) = none
  marked (some x) (repeats f) = some (standing room around (with_item a (f x)) (outside none))

  -- behind a byte, a class and a range
  unfoldable pub byte_read : Option Expression → ℕ → Option Standing
  byte_read last b = some (standing room around (settled a last) (outside (some (one (range b b ∷ [])))))

  unfoldable pub class_read : Class → Option Standing
  class_read [] = none
  class_read (r ∷ c) = some (standing room around a (outside (some (one (r ∷ c)))))

  unfoldable pub range_read : Class → ℕ → ℕ → Option Standing
  range_read c low high =
      elim (leb low high)
      [ true ↦ some (standing room around a (in_class (c ++ (range low high ∷ [])) none)) | false ↦ none ]

  unfoldable pub moved : Pending → ℕ → Kind → Option Standing
  moved p b is_backslash = some (behind_backslash room around a p)
  moved (outside last) b is_plain = byte_read last b
  moved (outside last) b is_dash = byte_read last b
  moved (outside last) b closes_class = none
  moved (outside last) b (marks m) = marked last m
  moved (in_class c last) b is_plain = some (standing room around a (in_class (elements c last) (some b)))
  moved (in_class c none) b is_dash = none
  moved (in_class c (some low)) b is_dash = some (standing room around a (in_range c low))
  moved (in_class c last) b closes_class = class_read (elements c last)
  moved (in_class c last) b (marks m) = none
  moved (in_range c low) b is_plain = range_read c low b
  moved (in_range c low) b is_dash = none
  moved (in_range c low) b closes_class = none
  moved (in_range c low) b (marks m) = none

unfoldable pub move : Standing → ℕ → Option Standing
move (standing room around a p) b = moved room around a p b (kind_of b)
move (behind_backslash room around a p) b = moved room around a p b is_plain

-- the meaning, if the text may end here
unfoldable pub ended : Standing → Option Expression
ended (standing room [] a (outside last)) = alternation_of (settled a last)
ended (standing room (f ∷ around) a (outside last)) = none
ended (standing room around a (in_class c last)) = none
ended (standing room around a (in_range c low)) = none
ended (behind_backslash room around a p) = none

-- where it stands after the bytes, if it can go on so far
unfoldable pub after : Standing → List ℕ → Option Standing
after s [] = some s
after s (b ∷ u) = elim (move s b) [ none ↦ none | some t ↦ after t u ]

-- the meaning of what is read, or the place where the reader cannot go on
pub data Outcome : Type 0 where
  means : Expression → Outcome
  refused : ℕ → Outcome

-- what the reader says of the rest of a text, which starts at a place
unfoldable pub read_from : Standing → ℕ → List ℕ → Outcome
read_from s at [] = elim (ended s) [ none ↦ refused at | some x ↦ means x ]
read_from s at (b ∷ rest) = elim (move s b) [ none ↦ refused at | some t ↦ read_from t (suc at) rest ]

-- what it says of a text from a place on
unfoldable pub says : List ℕ → Standing → ℕ → Outcome
says text s at = read_from s at (drop at text)

unfoldable pub read_pattern : List ℕ → Outcome
read_pattern text = says text start 0
