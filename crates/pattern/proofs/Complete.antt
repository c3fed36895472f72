-- What is written as the grammar of patterns says, the reader reads, with the meaning that the grammar gives it.
use mathlib.Core.Path.{◌≡◌, refl, sym, ap, ◌∙◌}
use mathlib.Core.List.{List, [], ◌∷◌, ◌++◌, append_assoc, append-nil}
use mathlib.Core.Option.{Option, some, none}
use Prim.Native.Nat.{ℕ, suc, ◌+◌, ◌≤◌}
use native.Mathlib.Omega.{arith}
use lib.ListN.{length}
use borrow.Author.Tests.{le-leb}
use Rattle.pattern.specs.Pattern.{Range, Class, Expression, one, cat, alt}
use Rattle.pattern.specs.Marks.{most_open_groups, open_group, close_group, open_class, close_class, bar, backslash, dash, special, special_in_class}
use Rattle.pattern.specs.Written.{Byte, plain, escaped, range, Element, single, from_to, Elements, only, more, Sign, Sort, alternation, sequence, repetition, item, Written, alternative, or_else, alone, followed, unsigned, signed, one_byte, class, group, IsPattern}
use Rattle.pattern.specs.Kinds.{is_plain, kind_of, kind_in}
use Rattle.pattern.specs.Reader.{Begun, Pending, outside, in_class, in_range, standing, behind_backslash, nothing_begun, start, joined, with_item, settled, alternation_of, elements, byte_read, class_read, range_read, opened, closed, divided, marked, moved, move, ended, after, means, read_from, says, read_pattern}
use Rattle.pattern.proofs.ByteKinds.{plain_kind, sign_kind}
use Rattle.pattern.proofs.Steps.{move_plain, after_move, after_append, after_one, read_after, read_end}

-- bytes, elements and classes
module _ (room : ℕ) (around : List Begun) (a : Begun) where
  escape_after : (p : Pending) (b : ℕ)
      → after (standing room around a p) (backslash ∷ b ∷ []) ≡ moved room around a p b is_plain
  unfolding move moved kind_of kind_in
  escape_after p b = after_move (standing room around a p) backslash (b ∷ []) {t = behind_backslash room around a p} refl ∙ after_one (behind_backslash room around a p) b

  -- a byte, plain or behind a backslash
  pub byte_after : (p : Pending) {s : List ℕ} {b : ℕ}
      → Byte special_in_class s b
      → after (standing room around a p) s ≡ moved room around a p b is_plain
  unfolding move
  byte_after p (plain {b = b} h) = after_one (standing room around a p) b ∙ ap (moved room around a p b) (plain_kind b h)
  byte_after p (escaped {b = b}) = escape_after p b

  -- outside a class the dash is plain too
  pub byte_outside_after : (last : Option Expression) {s : List ℕ} {b : ℕ}
      → Byte special s b
      → after (standing room around a (outside last)) s ≡ byte_read room around a last b
  unfolding moved
  byte_outside_after last (escaped {b = b}) = escape_after (outside last) b
  byte_outside_after last (plain {b = b} h) = after_one (standing room around a (outside last)) b ∙ move_plain room around a last b h

  -- in a class it comes to where the elements are these
  record InClassAfter (c : Class) (last : Option ℕ) (s : List ℕ) (all : Class) : Type 0 where
    pub read_elements : Class
    pub last_byte : Option ℕ
    pub read : after (standing room around a (in_class c last)) s ≡ some (standing room around a (in_class read_elements last_byte))
    pub holds : elements read_elements last_byte ≡ all

  range_after : (c : Class) {low high : ℕ}
      → low ≤ high
      → range_read room around a c low high ≡ some (standing room around a (in_class (c ++ (range low high ∷ [])) none))
  unfolding range_read
  range_after c {low} {high} h = rw (le-leb low high (omega arith), range_read)

  element_after : (c : Class) (last : Option ℕ) {s : List ℕ} {r : Range}
      → Element s r
      → InClassAfter c last s (elements c last ++ (r ∷ []))
  unfolding elements move moved kind_of kind_in
  element_after c last (single {b = b} e) = record { read_elements = elements c last; last_byte = some b; read = byte_after (in_class c last) e; holds = refl }
  element_after c last (from_to {s = s} {t = t} {low = low} {high = high} e f h) =
      record {
        read_elements = elements c last ++ (range low high ∷ []);
        last_byte = none;
        read =
            after_append s (dash ∷ t) (standing room around a (in_class c last)) (byte_after (in_class c last) e)
            ∙ (after_move (standing room around a (in_class (elements c last) (some low))) dash t refl
            ∙ (byte_after (in_range (elements c last) low) f
            ∙ range_after (elements c last) {low = low} {high = high} (omega arith)));
        holds = refl;
      }

  elements_after : (c : Class) (last : Option ℕ) {s : List ℕ} {cs : Class}
      → Elements s cs
      → InClassAfter c last s (elements c last ++ cs)
  elements_after c last (only e) = element_after c last e
  elements_after c last (more {s = s} {t = t} {r = r} {c = cs} e es) =
      let one_more : InClassAfter c last s (elements c last ++ (r ∷ [])) = element_after c last e in
      let all : InClassAfter one_more.read_elements one_more.last_byte t (elements one_more.read_elements one_more.last_byte ++ cs) = elements_after one_more.read_elements one_more.last_byte es in
      record {
        read_elements = all.read_elements;
        last_byte = all.last_byte;
        read = after_append s t (standing room around a (in_class c last)) one_more.read ∙ all.read;
        holds = all.holds ∙ (ap (λ (d : Class). d ++ cs) one_more.holds ∙ append_assoc (elements c last) (r ∷ []) cs);
      }

  class_read_lem : {s : List ℕ} {c : Class}
      → Elements s c
      → class_read room around a c ≡ some (standing room around a (outside (some (one c))))
  unfolding class_read
  class_read_lem (only e) = refl
  class_read_lem (more e es) = refl

  class_after : {s : List ℕ} {c : Class}
      → Elements s c
      → after (standing room around a (in_class [] none)) (s ++ (close_class ∷ [])) ≡ some (standing room around a (outside (some (one c))))
  unfolding elements move moved kind_of kind_in
  class_after {s} {c} es =
      let all : InClassAfter [] none s c = elements_after [] none es in
      after_append s (close_class ∷ []) (standing room around a (in_class [] none)) all.read
      ∙ (after_one (standing room around a (in_class all.read_elements all.last_byte)) close_class
      ∙ (ap (class_read room around a) all.holds ∙ class_read_lem es))

-- from the last item on it comes to where this is begun, with its last item
record Comes (room : ℕ) (around : List Begun) (a : Begun) (last : Option Expression) (s : List ℕ) (P : Begun → Type 0) : Type 0 where
  pub begun : Begun
  pub last_item : Option Expression
  pub read : after (standing room around a (outside last)) s ≡ some (standing room around begun (outside last_item))
  pub holds : P (settled begun last_item)

-- what the reader makes of each sort, whatever groups are open around it
From : Sort → ℕ → List ℕ → Expression → Type 0
From alternation d s x = (around : List Begun) → Comes d around nothing_begun none s (λ a. alternation_of a ≡ some x)
From sequence d s x =
    (around : List Begun) (before : Option Expression)
    → Comes d around (record { before = before; items = none }) none s (λ a. a ≡ record { before = before; items = some x })
From repetition d s x =
    (around : List Begun) (a : Begun) (last : Option Expression)
    → Comes d around a last s (λ b. b ≡ with_item (settled a last) x)
From item d s x =
    (around : List Begun) (a : Begun) (last : Option Expression)
    → after (standing d around a (outside last)) s ≡ some (standing d around (settled a last) (outside (some x)))

record Reads (sort : Sort) (d : ℕ) (s : List ℕ) (x : Expression) : Type 0 where
  pub from : From sort d s x

module _ {d : ℕ} {s : List ℕ} {x : Expression} where
  reads_alternative : Reads sequence d s x → Reads alternation d s x
  unfolding From nothing_begun alternation_of joined
  reads_alternative w = record { from = go }
    where
      go : (around : List Begun) → Comes d around nothing_begun none s (λ a. alternation_of a ≡ some x)
      go around =
          let c : Comes d around (record { before = none; items = none }) none s (λ a. a ≡ record { before = none; items = some x }) = w.from around none in
          record { begun = c.begun; last_item = c.last_item; read = c.read; holds = ap alternation_of c.holds }

  reads_or_else : {t : List ℕ} {y : Expression}
      → Reads alternation d s x
      → Reads sequence d t y
      → Reads alternation d (s ++ (bar ∷ t)) (alt x y)
  unfolding From alternation_of joined move moved marked divided kind_of kind_in
  reads_or_else {t} {y} w v = record { from = go }
    where
      go : (around : List Begun)
          → Comes d around nothing_begun none (s ++ (bar ∷ t)) (λ a. alternation_of a ≡ some (alt x y))
      go around =
          let c : Comes d around nothing_begun none s (λ a. alternation_of a ≡ some x) = w.from around in
          let e : Comes d around (record { before = some x; items = none }) none t (λ a. a ≡ record { before = some x; items = some y }) = v.from around (some x) in
          record {
            begun = e.begun;
            last_item = e.last_item;
            read =
                after_append s (bar ∷ t) (standing d around nothing_begun (outside none)) c.read
                ∙ (after_move (standing d around c.begun (outside c.last_item)) bar t (ap (divided d around) c.holds) ∙ e.read);
            holds = ap alternation_of e.holds;
          }

  reads_alone : Reads repetition d s x → Reads sequence d s x
  unfolding From settled with_item joined
  reads_alone w = record { from = λ around before. w.from around (record { before = before; items = none }) none }

  reads_followed : {t : List ℕ} {y : Expression}
      → Reads sequence d s x
      → Reads repetition d t y
      → Reads sequence d (s ++ t) (cat x y)
  unfolding From with_item joined
  reads_followed {t} {y} w v = record { from = go }
    where
      go : (around : List Begun) (before : Option Expression)
          → Comes d around (record { before = before; items = none }) none (s ++ t) (λ a. a ≡ record { before = before; items = some (cat x y) })
      go around before =
          let c : Comes d around (record { before = before; items = none }) none s (λ a. a ≡ record { before = before; items = some x }) = w.from around before in
          let e : Comes d around c.begun c.last_item t (λ b. b ≡ with_item (settled c.begun c.last_item) y) = v.from around c.begun c.last_item in
          record {
            begun = e.begun;
            last_item = e.last_item;
            read = after_append s t (standing d around (record { before = before; items = none }) (outside none)) c.read ∙ e.read;
            holds = e.holds ∙ ap (λ (a : Begun). with_item a y) c.holds;
          }

  reads_unsigned : Reads item d s x → Reads repetition d s x
  unfolding From settled
  reads_unsigned w = record { from = λ around a last. record { begun = settled a last; last_item = some x; read = w.from around a last; holds = refl } }

  reads_signed : {b : ℕ} {f : Expression → Expression}
      → Reads item d s x
      → Sign b f
      → Reads repetition d (s ++ (b ∷ [])) (f x)
  unfolding From settled move moved marked
  reads_signed {b} {f} w g = record { from = go }
    where
      go : (around : List Begun) (a : Begun) (last : Option Expression)
          → Comes d around a last (s ++ (b ∷ [])) (λ c. c ≡ with_item (settled a last) (f x))
      go around a last =
          record {
            begun = with_item (settled a last) (f x);
            last_item = none;
            read =
                after_append s (b ∷ []) (standing d around a (outside last)) (w.from around a last)
                ∙ (after_one (standing d around (settled a last) (outside (some x))) b
                ∙ ap (moved d around (settled a last) (outside (some x)) b) (sign_kind g));
            holds = refl;
          }

  reads_group : Reads alternation d s x → Reads item (suc d) (open_group ∷ (s ++ (close_group ∷ []))) x
  unfolding From settled move moved marked opened closed kind_of kind_in
  reads_group w = record { from = go }
    where
      go : (around : List Begun) (a : Begun) (last : Option Expression)
          → after (standing (suc d) around a (outside last)) (open_group ∷ (s ++ (close_group ∷ []))) ≡ some (standing (suc d) around (settled a last) (outside (some x)))
      go around a last =
          let c : Comes d (settled a last ∷ around) nothing_begun none s (λ b. alternation_of b ≡ some x) = w.from (settled a last ∷ around) in
          after_move (standing (suc d) around a (outside last)) open_group (s ++ (close_group ∷ [])) refl
          ∙ (after_append s (close_group ∷ []) (standing d (settled a last ∷ around) nothing_begun (outside none)) c.read
          ∙ (after_one (standing d (settled a last ∷ around) c.begun (outside c.last_item)) close_group
          ∙ ap (closed d (settled a last ∷ around)) c.holds))

reads_byte : {d b : ℕ} {s : List ℕ} → Byte special s b → Reads item d s (one (range b b ∷ []))
unfolding From byte_read
reads_byte {d} e = record { from = λ around a last. byte_outside_after d around a last e }

reads_class : {d : ℕ} {s : List ℕ} {c : Class}
    → Elements s c
    → Reads item d (open_class ∷ (s ++ (close_class ∷ []))) (one c)
unfolding From move moved marked kind_of kind_in
reads_class {d} {s} es =
    record {
      from = λ around a last.
          after_move (standing d around a (outside last)) open_class (s ++ (close_class ∷ [])) refl
          ∙ class_after d around (settled a last) es;
    }

reads : {sort : Sort} {d : ℕ} {s : List ℕ} {x : Expression} → Written sort d s x → Reads sort d s x
reads (alternative w) = reads_alternative (reads w)
reads (or_else w v) = reads_or_else (reads w) (reads v)
reads (alone w) = reads_alone (reads w)
reads (followed w v) = reads_followed (reads w) (reads v)
reads (unsigned w) = reads_unsigned (reads w)
reads (signed w g) = reads_signed (reads w) g
reads (one_byte e) = reads_byte e
reads (class es) = reads_class es
reads (group w) = reads_group (reads w)

-- a pattern is read to its end, with its meaning
pub pattern_read : {s : List ℕ} {x : Expression} → IsPattern s x → read_pattern s ≡ means x
unfolding From read_pattern says start ended
pattern_read {s} {x} w =
    let c : Comes most_open_groups [] nothing_begun none s (λ a. alternation_of a ≡ some x) = (reads w).from [] in
    ap (read_from start 0) (sym (append-nil s)) ∙ (read_after s [] start 0 c.read ∙ read_end (standing most_open_groups [] c.begun (outside c.last_item)) (0 + length s) c.holds)
