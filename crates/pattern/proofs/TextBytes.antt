-- The text of a meaning consists of bytes exactly if the meaning's classes do, and what is written in bytes means such classes.
use mathlib.Core.Path.{◌≡◌, refl}
use mathlib.Core.Bool.{Bool, true, false}
use mathlib.Core.List.{List, [], ◌∷◌}
use Prim.Native.Nat.{ℕ, ◌<◌}
use native.Mathlib.Omega.{arith}
use lib.Dec.{eqb, ltb}
use Rattle.pattern.specs.Pattern.{Range, Class, Expression, one, cat, alt, plus, opt}
use Rattle.pattern.specs.Marks.{open_group, close_group, open_class, close_class, bar, plus_sign, star_sign, question_mark, backslash, dash, special, special_in_class, among}
use Rattle.pattern.specs.Written.{range, Element, single, from_to, Elements, only, more, Sort, alternation, sequence, repetition, item, any_number, at_least_once, at_most_once, Written, alternative, or_else, alone, followed, unsigned, signed, one_byte, class, group}
use Rattle.pattern.specs.Text.{Bytes, no_byte, and_byte, Rises, Listed, last_listed, more_listed, Writable, one_writable, cat_writable, alt_writable, plus_writable, opt_writable, byte_text, element_text, elements_text, bracketed, class_text, Draft, both, behind, rank, asked, drafted}
use Rattle.pattern.proofs.Bytes.{bytes_append, bytes_left, bytes_right, bytes_tail, byte_below}

byte_bytes : (marks : List ℕ) {b : ℕ} → b < 256 → Bytes (byte_text marks b)
unfolding byte_text
byte_bytes marks {b} h = go (among b marks) refl
  where
    go : (t : Bool) → among b marks ≡ t → Bytes (byte_text marks b)
    go true e = rw (e, byte_text) (and_byte {b = backslash} (omega arith) (and_byte h no_byte))
    go false e = rw (e, byte_text) (and_byte h no_byte)

element_bytes : {r : Range} → Rises r → Bytes (element_text r)
unfolding element_text
element_bytes {r} h = go (eqb r.low r.high) refl
  where
    lower : Bytes (byte_text special_in_class r.low)
    lower = byte_bytes special_in_class (omega (arith, h.rising, h.below))

    go : (t : Bool) → eqb r.low r.high ≡ t → Bytes (element_text r)
    go true e = rw (e, element_text) lower
    go false e = rw (e, element_text) (bytes_append lower (and_byte {b = dash} (omega arith) (byte_bytes special_in_class h.below)))

elements_bytes : {c : Class} → Listed c → Bytes (elements_text c)
unfolding elements_text
elements_bytes (last_listed h) = bytes_append (element_bytes h) no_byte
elements_bytes (more_listed h hs) = bytes_append (element_bytes h) (elements_bytes hs)

bracketed_bytes : {c : Class} → Listed c → Bytes (bracketed c)
unfolding bracketed
bracketed_bytes l = and_byte {b = open_class} (omega arith) (bytes_append (elements_bytes l) (and_byte {b = close_class} (omega arith) no_byte))

class_bytes : {c : Class} → Listed c → Bytes (class_text c)
unfolding class_text
class_bytes {c = []} l = elim l [ ]
class_bytes {c = r ∷ []} (more_listed _ none) = elim none [ ]
class_bytes {c = r ∷ []} (last_listed h) = go (eqb r.low r.high) refl
  where
    go : (t : Bool) → eqb r.low r.high ≡ t → Bytes (class_text (r ∷ []))
    go true e = rw (e, class_text) (byte_bytes special (omega (arith, h.rising, h.below)))
    go false e = rw (e, class_text) (bracketed_bytes (last_listed h))
class_bytes {c = r ∷ (q ∷ c)} l = bracketed_bytes l

asked_bytes : (sort own : Sort) (t : Draft) → Bytes t.text → Bytes (asked sort own t).text
unfolding asked
asked_bytes sort own t k = go (ltb (rank own) (rank sort)) refl
  where
    go : (o : Bool) → ltb (rank own) (rank sort) ≡ o → Bytes (asked sort own t).text
    go true e = rw (e, asked) (and_byte {b = open_group} (omega arith) (bytes_append k (and_byte {b = close_group} (omega arith) no_byte)))
    go false e = rw (e, asked) k

signed_bytes : (sort : Sort) (t : Draft) (b : ℕ)
    → b < 256
    → Bytes t.text
    → Bytes (asked sort repetition (behind t b)).text
unfolding behind
signed_bytes sort t b h k = asked_bytes sort repetition (behind t b) (bytes_append k (and_byte h no_byte))

pub drafted_bytes : (sort : Sort) {x : Expression} → Writable x → Bytes (drafted sort x).text
unfolding drafted both
drafted_bytes sort (one_writable l) = class_bytes l
drafted_bytes sort (cat_writable {x = x} {y = y} w v) = asked_bytes sort sequence (both (drafted sequence x) [] (drafted repetition y)) (bytes_append (drafted_bytes sequence w) (drafted_bytes repetition v))
drafted_bytes sort (alt_writable {x = x} {y = y} w v) = asked_bytes sort alternation (both (drafted alternation x) (bar ∷ []) (drafted sequence y)) (bytes_append (drafted_bytes alternation w) (and_byte {b = bar} (omega arith) (drafted_bytes sequence v)))
drafted_bytes sort (plus_writable {x = x} w) = signed_bytes sort (drafted item x) plus_sign (omega arith) (drafted_bytes item w)
drafted_bytes sort (opt_writable {x = plus x} (plus_writable w)) = signed_bytes sort (drafted item x) star_sign (omega arith) (drafted_bytes item w)
drafted_bytes sort (opt_writable {x = one c} w) = signed_bytes sort (drafted item (one c)) question_mark (omega arith) (drafted_bytes item w)
drafted_bytes sort (opt_writable {x = cat x y} w) = signed_bytes sort (drafted item (cat x y)) question_mark (omega arith) (drafted_bytes item w)
drafted_bytes sort (opt_writable {x = alt x y} w) = signed_bytes sort (drafted item (alt x y)) question_mark (omega arith) (drafted_bytes item w)
drafted_bytes sort (opt_writable {x = opt x} w) = signed_bytes sort (drafted item (opt x)) question_mark (omega arith) (drafted_bytes item w)

element_rises : {s : List ℕ} {r : Range} → Element s r → Bytes s → Rises r
element_rises (single e) k = record { rising = omega arith; below = byte_below e k }
element_rises (from_to {s = s} {t = t} e f h) k = record { rising = omega arith; below = byte_below f (bytes_tail (bytes_right s (dash ∷ t) k)) }

elements_listed : {s : List ℕ} {c : Class} → Elements s c → Bytes s → Listed c
elements_listed (only e) k = last_listed (element_rises e k)
elements_listed (more {s = s} {t = t} e es) k = more_listed (element_rises e (bytes_left s t k)) (elements_listed es (bytes_right s t k))

pub written_writable : {sort : Sort} {d : ℕ} {s : List ℕ} {x : Expression} → Written sort d s x → Bytes s → Writable x
written_writable (alternative w) k = written_writable w k
written_writable (or_else {s = s} {t = t} w v) k = alt_writable (written_writable w (bytes_left s (bar ∷ t) k)) (written_writable v (bytes_tail (bytes_right s (bar ∷ t) k)))
written_writable (alone w) k = written_writable w k
written_writable (followed {s = s} {t = t} w v) k = cat_writable (written_writable w (bytes_left s t k)) (written_writable v (bytes_right s t k))
written_writable (unsigned w) k = written_writable w k
written_writable (signed {b = b} {s = s} w any_number) k = opt_writable (plus_writable (written_writable w (bytes_left s (b ∷ []) k)))
written_writable (signed {b = b} {s = s} w at_least_once) k = plus_writable (written_writable w (bytes_left s (b ∷ []) k))
written_writable (signed {b = b} {s = s} w at_most_once) k = opt_writable (written_writable w (bytes_left s (b ∷ []) k))
written_writable (one_byte {b = b} e) k = one_writable (last_listed {r = range b b} (record { rising = omega arith; below = byte_below e k }))
written_writable (class {s = s} es) k = one_writable (elements_listed es (bytes_left s (close_class ∷ []) (bytes_tail k)))
written_writable (group {s = s} w) k = written_writable w (bytes_left s (close_group ∷ []) (bytes_tail k))
