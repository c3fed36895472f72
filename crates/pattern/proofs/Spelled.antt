-- Which bytes lead to a standing of the reader, as the grammar of patterns has them.
use mathlib.Core.Path.{◌≡◌, refl, ap, ◌∙◌, subst}
use mathlib.Core.List.{List, [], ◌∷◌, ◌++◌, append_assoc, append-nil}
use mathlib.Core.Option.{Option, some, none}
use Prim.Native.Nat.{ℕ, suc}
use native.Mathlib.Omega.{arith}
use Rattle.pattern.specs.Pattern.{Range, Class, Expression, cat, alt}
use Rattle.pattern.specs.Marks.{most_open_groups, open_group, open_class, bar, backslash, dash, special_in_class}
use Rattle.pattern.specs.Written.{Byte, Element, single, Elements, only, more, alternation, sequence, repetition, item, Written, alternative, or_else, alone, followed, unsigned, IsPattern}
use Rattle.pattern.specs.Reader.{Begun, Pending, outside, in_class, in_range, Standing, standing, behind_backslash, nothing_begun, joined, with_item, settled, alternation_of, elements, ended}

-- alternatives, each with its bar behind it
pub data Divided (d : ℕ) : Option Expression → List ℕ → Type 0 where
  no_bar : Divided d none []
  behind_bar : {s : List ℕ} {x : Expression} → Written alternation d s x → Divided d (some x) (s ++ (bar ∷ []))

pub data Items (d : ℕ) : Option Expression → List ℕ → Type 0 where
  no_item : Items d none []
  some_items : {s : List ℕ} {x : Expression} → Written sequence d s x → Items d (some x) s

pub record BegunBy (d : ℕ) (a : Begun) (s : List ℕ) : Type 0 where
  pub front : List ℕ
  pub back : List ℕ
  pub split : s ≡ front ++ back
  pub divided : Divided d a.before front
  pub items : Items d a.items back

pub data ElementsBy : Class → List ℕ → Type 0 where
  no_element : ElementsBy [] []
  some_elements : {s : List ℕ} {c : Class} → Elements s c → ElementsBy c s

pub data PendingBy (d : ℕ) : Pending → List ℕ → Type 0 where
  nothing_pending : PendingBy d (outside none) []
  item_pending : {s : List ℕ} {x : Expression} → Written item d s x → PendingBy d (outside (some x)) s
  class_pending_lem : {s : List ℕ} {c : Class} → ElementsBy c s → PendingBy d (in_class c none) (open_class ∷ s)
  byte_pending : {s t : List ℕ} {c : Class} {b : ℕ}
      → ElementsBy c s
      → Byte special_in_class t b
      → PendingBy d (in_class c (some b)) (open_class ∷ (s ++ t))
  range_pending : {s t : List ℕ} {c : Class} {b : ℕ}
      → ElementsBy c s
      → Byte special_in_class t b
      → PendingBy d (in_range c b) (open_class ∷ (s ++ (t ++ (dash ∷ []))))

-- what stands before the innermost group, each group with its bracket behind it
pub data Around : ℕ → List Begun → List ℕ → Type 0 where
  outermost : Around most_open_groups [] []
  inner : {d : ℕ} {around : List Begun} {a : Begun} {s t : List ℕ}
      → Around (suc d) around s
      → BegunBy (suc d) a t
      → Around d (a ∷ around) (s ++ (t ++ (open_group ∷ [])))

pub data Spells : Standing → List ℕ → Type 0 where
  spells : {d : ℕ} {around : List Begun} {a : Begun} {p : Pending} {s t u : List ℕ}
      → Around d around s
      → BegunBy d a t
      → PendingBy d p u
      → Spells (standing d around a p) (s ++ (t ++ u))
  spells_backslash : {d : ℕ} {around : List Begun} {a : Begun} {p : Pending} {s : List ℕ}
      → Spells (standing d around a p) s
      → Spells (behind_backslash d around a p) (s ++ (backslash ∷ []))

pub nothing_begun_lem : {d : ℕ} → BegunBy d nothing_begun []
unfolding nothing_begun
nothing_begun_lem = record { front = []; back = []; split = refl; divided = no_bar; items = no_item }

items_with : {d : ℕ} {i : Option Expression} {u t : List ℕ} {y : Expression}
    → Items d i u
    → Written repetition d t y
    → Items d (some (joined cat i y)) (u ++ t)
unfolding joined
items_with no_item w = some_items (alone w)
items_with (some_items v) w = some_items (followed v w)

-- one item more
pub begun_with : {d : ℕ} {a : Begun} {s t : List ℕ} {y : Expression}
    → BegunBy d a s
    → Written repetition d t y
    → BegunBy d (with_item a y) (s ++ t)
unfolding with_item
begun_with {t = t} g w = record { front = g.front; back = g.back ++ t; split = ap (λ u. u ++ t) g.split ∙ append_assoc g.front g.back t; divided = g.divided; items = items_with g.items w }

-- the last item is settled
pub begun_settled : {d : ℕ} {a : Begun} {last : Option Expression} {s t : List ℕ}
    → BegunBy d a s
    → PendingBy d (outside last) t
    → BegunBy d (settled a last) (s ++ t)
unfolding settled
begun_settled g nothing_pending = rw append-nil g
begun_settled g (item_pending w) = begun_with g (unsigned w)

divided_with : {d : ℕ} {p : Option Expression} {u v : List ℕ} {y : Expression}
    → Divided d p u
    → Written sequence d v y
    → Written alternation d (u ++ v) (joined alt p y)
unfolding joined
divided_with no_bar w = alternative w
divided_with (behind_bar v) w = rw append_assoc (or_else v w)

no_meaning : {A : Type 0} {x : Expression} → none ≡ some x → A
no_meaning e = let bad : ◌≡◌ {A = ℕ} 0 1 = cc in absurd (omega arith)

-- the alternation begun
pub begun_alternation : {d : ℕ} {a : Begun} {s : List ℕ} {x : Expression}
    → BegunBy d a s
    → alternation_of a ≡ some x
    → Written alternation d s x
unfolding alternation_of
begun_alternation {d} {a} {s} {x} g e = rw g.split (go g.items e)
  where
    go : {i : Option Expression} {v : List ℕ}
        → Items d i v
        → elim i as (λ o. Option Expression) [ none ↦ none | some y ↦ some (joined alt a.before y) ] ≡ some x
        → Written alternation d (g.front ++ v) x
    go no_item f = no_meaning f
    go (some_items {s = v} w) f = subst (λ (y : Expression). Written alternation d (g.front ++ v) y) (cc) (divided_with g.divided w)

-- one element more
pub elements_snoc : {s t : List ℕ} {c : Class} {r : Range}
    → ElementsBy c s
    → Element t r
    → Elements (s ++ t) (c ++ (r ∷ []))
elements_snoc no_element e = only e
elements_snoc (some_elements es) e = go es e
  where
    go : {s t : List ℕ} {c : Class} {r : Range} → Elements s c → Element t r → Elements (s ++ t) (c ++ (r ∷ []))
    go (only f) e = more f (only e)
    go {t = t} (more {s = s} {t = u} f es) e = rw append_assoc (more f (go es e))

-- the elements of a class begun, with the last byte
pub data ClassBy (c : Class) (last : Option ℕ) : List ℕ → Type 0 where
  class_begun : {s : List ℕ} → ElementsBy (elements c last) s → ClassBy c last (open_class ∷ s)

pub class_by : {d : ℕ} {c : Class} {last : Option ℕ} {s : List ℕ} → PendingBy d (in_class c last) s → ClassBy c last s
unfolding elements
class_by (class_pending_lem es) = class_begun es
class_by (byte_pending es e) = class_begun (some_elements (elements_snoc es (single e)))

-- at the end of the outermost alternation
pub ended_pattern : {s : Standing} {u : List ℕ} {x : Expression} → Spells s u → ended s ≡ some x → IsPattern u x
unfolding ended
ended_pattern (spells {around = []} {p = outside last} outermost g p) e = begun_alternation (begun_settled g p) e
ended_pattern (spells {around = f ∷ fs} {p = outside last} r g p) e = no_meaning e
ended_pattern (spells {p = in_class c last} r g p) e = no_meaning e
ended_pattern (spells {p = in_range c low} r g p) e = no_meaning e
ended_pattern (spells_backslash p) e = no_meaning e
