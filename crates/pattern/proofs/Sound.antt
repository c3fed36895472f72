-- What the reader has read, it has read as the grammar of patterns says: each move spells one byte more.
use mathlib.Core.Path.{◌≡◌, refl, sym, ◌∙◌, subst}
use mathlib.Core.Bool.{Bool, true, false}
use mathlib.Core.List.{List, [], ◌∷◌, ◌++◌, append_assoc, append-nil}
use mathlib.Core.Option.{Option, some, none}
use Prim.Native.Nat.{ℕ, zero, suc, ◌+◌}
use native.Mathlib.Omega.{arith}
use lib.Dec.{leb}
use lib.ListN.{length}
use borrow.Author.Tests.{leb-true}
use Rattle.pattern.specs.Pattern.{Class, Expression}
use Rattle.pattern.specs.Marks.{open_group, close_group, open_class, close_class, bar, backslash, dash, special, special_in_class, among}
use Rattle.pattern.specs.Written.{Byte, plain, escaped, from_to, Sign, signed, one_byte, class, group, IsPattern}
use Rattle.pattern.specs.Kinds.{Kind, is_plain, is_dash, closes_class, marks, Mark, repeats}
use Rattle.pattern.specs.Reader.{Begun, Pending, outside, in_class, in_range, Standing, standing, start, settled, alternation_of, elements, opened, closed, divided, marked, byte_read, class_read, range_read, moved, move, ended, after, means, read_from, says, read_pattern}
use Rattle.pattern.proofs.ByteKinds.{KindIs, plain_is, dash_is, backslash_is, close_class_is, open_class_is, open_group_is, close_group_is, bar_is, sign_is, kind_is, byte_outside}
use Rattle.pattern.proofs.Steps.{after_move, after_stop, read_end, read_short, Passed, means_passed}
use Rattle.pattern.proofs.Spelled.{no_item, behind_bar, BegunBy, ElementsBy, no_element, some_elements, PendingBy, nothing_pending, item_pending, class_pending_lem, byte_pending, range_pending, Around, outermost, inner, Spells, spells, spells_backslash, nothing_begun_lem, begun_with, begun_settled, begun_alternation, elements_snoc, ClassBy, class_begun, class_by, ended_pattern}

-- the standing, if there is one, spells the bytes
MaySpell : Option Standing → List ℕ → Type 0
MaySpell none u = Unit {0}
MaySpell (some s) u = Spells s u

respell : {s : Standing} {u v : List ℕ} → Spells s u → u ≡ v → Spells s v
respell {s} p e = subst (Spells s) e p

module _ {d : ℕ} {around : List Begun} {a : Begun} {s t : List ℕ} (r : Around d around s) (g : BegunBy d a t) where
  byte_spells : {last : Option Expression} {u w : List ℕ} {b : ℕ}
      → PendingBy d (outside last) u
      → Byte special w b
      → MaySpell (byte_read d around a last b) ((s ++ (t ++ u)) ++ w)
  unfolding MaySpell byte_read
  byte_spells p e = respell (spells r (begun_settled g p) (item_pending (one_byte e))) (simp append_assoc)

  range_spells : {c : Class} {u v w : List ℕ} {low high : ℕ}
      → ElementsBy c u
      → Byte special_in_class v low
      → Byte special_in_class w high
      → MaySpell (range_read d around a c low high) ((s ++ (t ++ (open_class ∷ (u ++ (v ++ (dash ∷ [])))))) ++ w)
  unfolding MaySpell range_read
  range_spells {c} {u} {v} {w} {low} {high} es e f = go (leb low high) refl
    where
      go : (o : Bool)
          → leb low high ≡ o
          → MaySpell (range_read d around a c low high) ((s ++ (t ++ (open_class ∷ (u ++ (v ++ (dash ∷ [])))))) ++ w)
      go false h = rw (h, range_read) tt
      go true h =
          rw (h, range_read)
          (respell (spells r g (class_pending_lem (some_elements (elements_snoc es (from_to e f (omega (arith, leb-true low high h))))))) (simp append_assoc))

  class_byte_spells : {c : Class} {last : Option ℕ} {u w : List ℕ} {b : ℕ}
      → ClassBy c last u
      → Byte special_in_class w b
      → Spells (standing d around a (in_class (elements c last) (some b))) ((s ++ (t ++ u)) ++ w)
  class_byte_spells (class_begun es) e = respell (spells r g (byte_pending es e)) (simp append_assoc)

  plain_spells : {p : Pending} {u w : List ℕ} {b : ℕ}
      → PendingBy d p u
      → Byte special_in_class w b
      → MaySpell (moved d around a p b is_plain) ((s ++ (t ++ u)) ++ w)
  unfolding MaySpell moved
  plain_spells {p = outside last} p e = byte_spells p (byte_outside e)
  plain_spells {p = in_class c last} p e = class_byte_spells (class_by p) e
  plain_spells {p = in_range c low} (range_pending es f) e = range_spells es f e

  class_spells : {c : Class} {last : Option ℕ} {u : List ℕ}
      → ClassBy c last u
      → MaySpell (class_read d around a (elements c last)) ((s ++ (t ++ u)) ++ (close_class ∷ []))
  unfolding MaySpell class_read
  class_spells (class_begun es) = go es
    where
      go : {c : Class} {u : List ℕ}
          → ElementsBy c u
          → MaySpell (class_read d around a c) ((s ++ (t ++ (open_class ∷ u))) ++ (close_class ∷ []))
      go no_element = tt
      go {c = []} (some_elements es) = tt
      go {c = k ∷ c} (some_elements es) = respell (spells r g (item_pending (class es))) (simp append_assoc)

  divided_spells : {x : Option Expression}
      → alternation_of a ≡ x
      → MaySpell (divided d around x) ((s ++ t) ++ (bar ∷ []))
  unfolding MaySpell divided
  divided_spells {x = none} e = tt
  divided_spells {x = some x} e =
      respell (spells r (record { front = t ++ (bar ∷ []); back = []; split = sym (append-nil (t ++ (bar ∷ []))); divided = behind_bar (begun_alternation g e); items = no_item }) nothing_pending) (simp (append_assoc, append-nil))

opened_spells : {d : ℕ} {around : List Begun} {a : Begun} {s t : List ℕ}
    → Around d around s
    → BegunBy d a t
    → MaySpell (opened d around a) ((s ++ t) ++ (open_group ∷ []))
unfolding MaySpell opened
opened_spells {d = zero} r g = tt
opened_spells {d = suc d} r g = respell (spells (inner r g) nothing_begun_lem nothing_pending) (simp (append_assoc, append-nil))

closed_spells : {d : ℕ} {around : List Begun} {a : Begun} {s t : List ℕ} {x : Option Expression}
    → Around d around s
    → BegunBy d a t
    → alternation_of a ≡ x
    → MaySpell (closed d around x) ((s ++ t) ++ (close_group ∷ []))
unfolding MaySpell closed
closed_spells outermost g e = tt
closed_spells {x = none} (inner r h) g e = tt
closed_spells {x = some x} (inner r h) g e = respell (spells r h (item_pending (group (begun_alternation g e)))) (simp append_assoc)

module _ {d : ℕ} {around : List Begun} {a : Begun} {s t : List ℕ} (r : Around d around s) (g : BegunBy d a t) where
  open_class_spells : {last : Option Expression} {u : List ℕ}
      → PendingBy d (outside last) u
      → Spells (standing d around (settled a last) (in_class [] none)) ((s ++ (t ++ u)) ++ (open_class ∷ []))
  open_class_spells p = respell (spells r (begun_settled g p) (class_pending_lem no_element)) (simp append_assoc)

  sign_spells : {last : Option Expression} {u : List ℕ} {b : ℕ} {f : Expression → Expression}
      → PendingBy d (outside last) u
      → Sign b f
      → MaySpell (marked d around a last (repeats f)) ((s ++ (t ++ u)) ++ (b ∷ []))
  unfolding MaySpell marked
  sign_spells nothing_pending e = tt
  sign_spells (item_pending w) e = respell (spells r (begun_with g (signed w e)) nothing_pending) (simp (append_assoc, append-nil))

  dash_spells : {p : Pending} {u : List ℕ}
      → PendingBy d p u
      → MaySpell (moved d around a p dash is_dash) ((s ++ (t ++ u)) ++ (dash ∷ []))
  unfolding MaySpell moved among
  dash_spells nothing_pending = byte_spells r g nothing_pending (plain refl)
  dash_spells (item_pending w) = byte_spells r g (item_pending w) (plain refl)
  dash_spells (class_pending_lem es) = tt
  dash_spells (byte_pending es e) = respell (spells r g (range_pending es e)) (simp append_assoc)
  dash_spells (range_pending es e) = tt

  outside_spells : {last : Option Expression} {u : List ℕ} {b : ℕ} {m : Mark}
      → PendingBy d (outside last) u
      → KindIs b (marks m)
      → MaySpell (marked d around a last m) ((s ++ (t ++ u)) ++ (b ∷ []))
  unfolding MaySpell marked
  outside_spells p open_class_is = open_class_spells p
  outside_spells p open_group_is = opened_spells r (begun_settled g p)
  outside_spells p close_group_is = closed_spells r (begun_settled g p) refl
  outside_spells p bar_is = divided_spells r (begun_settled g p) refl
  outside_spells p (sign_is e) = sign_spells p e

  mark_spells : {p : Pending} {u : List ℕ} {b : ℕ} {m : Mark}
      → PendingBy d p u
      → KindIs b (marks m)
      → MaySpell (moved d around a p b (marks m)) ((s ++ (t ++ u)) ++ (b ∷ []))
  unfolding MaySpell moved
  mark_spells {p = outside last} p k = outside_spells p k
  mark_spells {p = in_class c last} p k = tt
  mark_spells {p = in_range c low} p k = tt

  close_class_spells : {p : Pending} {u : List ℕ}
      → PendingBy d p u
      → MaySpell (moved d around a p close_class closes_class) ((s ++ (t ++ u)) ++ (close_class ∷ []))
  unfolding MaySpell moved
  close_class_spells {p = outside last} p = tt
  close_class_spells {p = in_class c last} p = class_spells r g (class_by p)
  close_class_spells {p = in_range c low} p = tt

  moved_spells : {p : Pending} {u : List ℕ} {b : ℕ} {k : Kind}
      → PendingBy d p u
      → KindIs b k
      → MaySpell (moved d around a p b k) ((s ++ (t ++ u)) ++ (b ∷ []))
  unfolding MaySpell moved
  moved_spells p (plain_is h) = plain_spells r g p (plain h)
  moved_spells p dash_is = dash_spells p
  moved_spells p backslash_is = spells_backslash (spells r g p)
  moved_spells p close_class_is = close_class_spells p
  moved_spells p open_class_is = mark_spells p open_class_is
  moved_spells p open_group_is = mark_spells p open_group_is
  moved_spells p close_group_is = mark_spells p close_group_is
  moved_spells p bar_is = mark_spells p bar_is
  moved_spells p (sign_is e) = mark_spells p (sign_is e)

move_spells : {s : Standing} {u : List ℕ} (b : ℕ) → Spells s u → MaySpell (move s b) (u ++ (b ∷ []))
unfolding move
move_spells b (spells r g p) = moved_spells r g p (kind_is b)
move_spells b (spells_backslash (spells {s = s} {t = t} {u = u} r g p)) = rw (append_assoc (s ++ (t ++ u)) (backslash ∷ []) (b ∷ [])) (plain_spells r g p escaped)

-- a standing reached spells what was read
pub after_spells : (v : List ℕ) {s t : Standing} {u : List ℕ} → Spells s u → after s v ≡ some t → Spells t (u ++ v)
unfolding MaySpell after
after_spells [] {s} {t} {u} p e = rw append-nil (subst (λ (r : Standing). Spells r u) (cc) p)
after_spells (b ∷ v) {s} {t} {u} p e = go (λ r q h. after_spells v {s = r} q h) (move s b) refl
  where
    go : ((r : Standing) → Spells r (u ++ (b ∷ [])) → after r v ≡ some t → Spells t ((u ++ (b ∷ [])) ++ v))
        → (o : Option Standing)
        → move s b ≡ o
        → Spells t (u ++ (b ∷ v))
    go rest none f = let bad : ◌≡◌ {A = ℕ} 0 1 = cc (after_stop s b v f) in absurd (omega arith)
    go rest (some r) f =
        let q : Spells r (u ++ (b ∷ [])) = subst (λ (o : Option Standing). MaySpell o (u ++ (b ∷ []))) f (move_spells b p) in
        rw append_assoc at (rest r q (sym (after_move s b v f) ∙ e))

pub start_spells : Spells start []
unfolding start
start_spells = spells outermost nothing_begun_lem nothing_pending

ended_means : (s : Standing) (at : ℕ) {x : Expression} → read_from s at [] ≡ means x → ended s ≡ some x
ended_means s at {x} e = go (ended s) refl
  where
    go : (o : Option Expression) → ended s ≡ o → o ≡ some x
    go none f = let bad : ◌≡◌ {A = ℕ} 0 1 = cc (read_short s at f) in absurd (omega arith)
    go (some y) f = let same : means y ≡ means x = sym (read_end s at f) ∙ e in cc

-- what is read to its end is a pattern with that meaning
pub read_pattern_lem : {s : List ℕ} {x : Expression} → read_pattern s ≡ means x → IsPattern s x
unfolding read_pattern says
read_pattern_lem {s} {x} e =
    let p : Passed start s [] 0 x = means_passed s [] start 0 (rw append-nil e) in
    ended_pattern (after_spells s start_spells p.read) (ended_means p.reached (0 + length s) p.rest)
