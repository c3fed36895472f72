-- The text of a meaning is a pattern with that meaning.
use mathlib.Core.Path.{◌≡◌, refl, subst}
use mathlib.Core.Bool.{Bool, true, false}
use mathlib.Core.List.{List, [], ◌∷◌, ◌++◌, append-nil}
use Prim.Native.Nat.{ℕ, zero, suc, ◌≤◌}
use native.Mathlib.Omega.{arith}
use lib.Dec.{eqb, ltb}
use borrow.Author.Tests.{eqb-true}
use Rattle.pattern.specs.Pattern.{Range, Class, Expression, one, cat, alt, plus, opt}
use Rattle.pattern.specs.Marks.{open_group, close_group, bar, special, special_in_class, among}
use Rattle.pattern.specs.Written.{Byte, plain, escaped, range, Element, single, from_to, Elements, only, more, Sign, any_number, at_least_once, at_most_once, Sort, alternation, sequence, repetition, item, Written, alternative, or_else, alone, followed, unsigned, signed, one_byte, class, group}
use Rattle.pattern.specs.Text.{Rises, Listed, last_listed, more_listed, Writable, one_writable, cat_writable, alt_writable, plus_writable, opt_writable, byte_text, element_text, elements_text, bracketed, class_text, Draft, both, behind, rank, asked, drafted}
use Rattle.pattern.proofs.ByteKinds.{impossible}

byte_written : (marks : List ℕ) (b : ℕ) → Byte marks (byte_text marks b) b
unfolding byte_text
byte_written marks b = go (among b marks) refl
  where
    go : (t : Bool) → among b marks ≡ t → Byte marks (byte_text marks b) b
    go true e = rw (e, byte_text) escaped
    go false e = rw (e, byte_text) (plain e)

element_written : {r : Range} → Rises r → Element (element_text r) r
unfolding element_text
element_written {r} h = go (eqb r.low r.high) refl
  where
    go : (t : Bool) → eqb r.low r.high ≡ t → Element (element_text r) r
    go true e = rw (e, element_text) (subst (λ (n : ℕ). Element (byte_text special_in_class r.low) (range r.low n)) (eqb-true r.low r.high e) (single (byte_written special_in_class r.low)))
    go false e = rw (e, element_text) (from_to (byte_written special_in_class r.low) (byte_written special_in_class r.high) h.rising)

elements_written : {c : Class} → Listed c → Elements (elements_text c) c
unfolding elements_text
elements_written (last_listed h) = rw append-nil (only (element_written h))
elements_written (more_listed h hs) = more (element_written h) (elements_written hs)

class_written : {d : ℕ} {c : Class} → Listed c → Written item d (class_text c) (one c)
unfolding class_text bracketed
class_written {d = d} {c = []} l = elim l [ ]
class_written {d = d} {c = r ∷ []} l = go (eqb r.low r.high) refl
  where
    go : (t : Bool) → eqb r.low r.high ≡ t → Written item d (class_text (r ∷ [])) (one (r ∷ []))
    go true e = rw (e, class_text) (subst (λ (n : ℕ). Written item d (byte_text special r.low) (one (range r.low n ∷ []))) (eqb-true r.low r.high e) (one_byte (byte_written special r.low)))
    go false e = rw (e, class_text) (class (elements_written l))
class_written {d = d} {c = r ∷ (q ∷ c)} l = class (elements_written l)

-- what is of a sort is of every looser one
pub loosened : {d : ℕ} {s : List ℕ} {x : Expression} (sort own : Sort)
    → ltb (rank own) (rank sort) ≡ false
    → Written own d s x
    → Written sort d s x
unfolding rank
loosened alternation alternation e w = w
loosened alternation sequence e w = alternative w
loosened alternation repetition e w = alternative (alone w)
loosened alternation item e w = alternative (alone (unsigned w))
loosened sequence alternation e w = impossible e
loosened sequence sequence e w = w
loosened sequence repetition e w = alone w
loosened sequence item e w = alone (unsigned w)
loosened repetition alternation e w = impossible e
loosened repetition sequence e w = impossible e
loosened repetition repetition e w = w
loosened repetition item e w = unsigned w
loosened item alternation e w = impossible e
loosened item sequence e w = impossible e
loosened item repetition e w = impossible e
loosened item item e w = w

pub loosest : (own : Sort) → ltb (rank own) (rank alternation) ≡ false
unfolding rank
loosest alternation = refl
loosest sequence = refl
loosest repetition = refl
loosest item = refl

pub tightest : (sort : Sort) → ltb (rank item) (rank sort) ≡ false
unfolding rank
tightest alternation = refl
tightest sequence = refl
tightest repetition = refl
tightest item = refl

grouped : {d : ℕ} {s : List ℕ} {x : Expression} (sort own : Sort)
    → Written own d s x
    → Written sort (suc d) (open_group ∷ (s ++ (close_group ∷ []))) x
grouped sort own w = loosened sort item (tightest sort) (group (loosened alternation own (loosest own) w))

-- a draft that is of its own sort at its depth is, as it is asked for, of the sort asked for
asked_written : (sort own : Sort) (t : Draft) {x : Expression} → ((d : ℕ) → t.depth ≤ d → Written own d t.text x) → (d : ℕ)
    → (asked sort own t).depth ≤ d
    → Written sort d (asked sort own t).text x
unfolding asked
asked_written sort own t {x} w d h = go (ltb (rank own) (rank sort)) refl d h
  where
    go : (o : Bool)
        → ltb (rank own) (rank sort) ≡ o
        → (d : ℕ)
        → (asked sort own t).depth ≤ d
        → Written sort d (asked sort own t).text x
    go true e zero h = let none_left : suc t.depth ≤ zero = rw (e, asked) at h in absurd (omega arith)
    go true e (suc d) h = let left : suc t.depth ≤ suc d = rw (e, asked) at h in rw (e, asked) (grouped sort own (w d (omega arith)))
    go false e d h = let left : t.depth ≤ d = rw (e, asked) at h in rw (e, asked) (loosened sort own e (w d left))

module _ (sort : Sort) where
  signed_written : (t : Draft) {x : Expression} {b : ℕ} {f : Expression → Expression}
      → Sign b f
      → ((d : ℕ) → t.depth ≤ d → Written item d t.text x)
      → (d : ℕ)
      → (asked sort repetition (behind t b)).depth ≤ d
      → Written sort d (asked sort repetition (behind t b)).text (f x)
  unfolding behind
  signed_written t {b = b} g w = asked_written sort repetition (behind t b) (λ d h. signed (w d h) g)

  cat_written : (t u : Draft) {x y : Expression} → ((d : ℕ) → t.depth ≤ d → Written sequence d t.text x) → ((d : ℕ) → u.depth ≤ d → Written repetition d u.text y) → (d : ℕ)
      → (asked sort sequence (both t [] u)).depth ≤ d
      → Written sort d (asked sort sequence (both t [] u)).text (cat x y)
  unfolding both
  cat_written t u w v = asked_written sort sequence (both t [] u) (λ d h. followed (w d (omega arith)) (v d (omega arith)))

  alt_written : (t u : Draft) {x y : Expression} → ((d : ℕ) → t.depth ≤ d → Written alternation d t.text x) → ((d : ℕ) → u.depth ≤ d → Written sequence d u.text y) → (d : ℕ)
      → (asked sort alternation (both t (bar ∷ []) u)).depth ≤ d
      → Written sort d (asked sort alternation (both t (bar ∷ []) u)).text (alt x y)
  unfolding both
  alt_written t u w v = asked_written sort alternation (both t (bar ∷ []) u) (λ d h. or_else (w d (omega arith)) (v d (omega arith)))

pub drafted_written : (sort : Sort) {x : Expression}
    → Writable x
    → (d : ℕ)
    → (drafted sort x).depth ≤ d
    → Written sort d (drafted sort x).text x
unfolding drafted
drafted_written sort (one_writable l) d h = loosened sort item (tightest sort) (class_written l)
drafted_written sort (cat_writable {x = x} {y = y} w v) d h = cat_written sort (drafted sequence x) (drafted repetition y) (drafted_written sequence w) (drafted_written repetition v) d h
drafted_written sort (alt_writable {x = x} {y = y} w v) d h = alt_written sort (drafted alternation x) (drafted sequence y) (drafted_written alternation w) (drafted_written sequence v) d h
drafted_written sort (plus_writable {x = x} w) d h = signed_written sort (drafted item x) at_least_once (drafted_written item w) d h
drafted_written sort (opt_writable {x = plus x} (plus_writable w)) d h = signed_written sort (drafted item x) any_number (drafted_written item w) d h
drafted_written sort (opt_writable {x = one c} w) d h = signed_written sort (drafted item (one c)) at_most_once (drafted_written item w) d h
drafted_written sort (opt_writable {x = cat x y} w) d h = signed_written sort (drafted item (cat x y)) at_most_once (drafted_written item w) d h
drafted_written sort (opt_writable {x = alt x y} w) d h = signed_written sort (drafted item (alt x y)) at_most_once (drafted_written item w) d h
drafted_written sort (opt_writable {x = opt x} w) d h = signed_written sort (drafted item (opt x)) at_most_once (drafted_written item w) d h
