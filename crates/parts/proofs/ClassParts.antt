-- A class is read element by element: its first element, one more, and its end.
use mathlib.Core.Path.{◌≡◌, ◌∙◌}
use mathlib.Core.Logic.{◌↔◌, ◌≢◌, ◌⊎◌, inl, inr, ⊎_elim}
use mathlib.Core.List.{List, [], ◌∷◌, ◌++◌}
use Prim.Native.Nat.{ℕ, ◌+◌, ◌≤◌}
use native.Mathlib.Numerals.{add-one}
use native.Mathlib.Omega.{arith}
use lib.ListN.{get_or}
use Rattle.pattern.specs.Pattern.{Range, Class, InClass, here, there}
use Rattle.pattern.specs.Marks.{close_class}
use Rattle.parts.specs.declared.classes.Span.{Span}
use Rattle.parts.specs.Classes.{no_end, NoElement, SpanPassed, Spread, ElementMeant, NoClass, ClassMeant, elements_pending, class_pending}
use Rattle.parts.proofs.Marks.{mark_inside}
use Rattle.parts.proofs.Growth.{rows_then, rows_alike}
use Rattle.parts.proofs.ClassReading.{class_closes}

-- a byte is in a class with an element more if it is in the class or in the element
in_more : (c : Class) (r : Range) {b : ℕ} → (InClass c b ⊎ ((r.low ≤ b) × (b ≤ r.high))) ↔ InClass (c ++ (r ∷ [])) b
in_more c r = (to c, from c)
  where
    to : (c : Class) {b : ℕ} → InClass c b ⊎ ((r.low ≤ b) × (b ≤ r.high)) → InClass (c ++ (r ∷ [])) b
    to [] (inl i) = elim i [ ]
    to [] (inr w) = here w.0 w.1
    to (s ∷ c) (inl (here l h)) = here l h
    to (s ∷ c) (inl (there i)) = there (to c (inl i))
    to (s ∷ c) (inr w) = there (to c (inr w))

    from : (c : Class) {b : ℕ} → InClass (c ++ (r ∷ [])) b → InClass c b ⊎ ((r.low ≤ b) × (b ≤ r.high))
    from [] (here l h) = inr (l, h)
    from [] (there i) = elim i [ ]
    from (s ∷ c) (here l h) = inl (here l h)
    from (s ∷ c) (there i) = ⊎_elim (λ j. inl (there j)) inr (from c i)

module _ {text : List ℕ} {at position : ℕ} {readers : List ℕ} where
  pub element_read : {span : Span} {after : List ℕ}
      → SpanPassed text at span
      → Spread span.low span.high position readers after
      → ElementMeant text at position readers span.at after
  element_read {span} s spread =
      record {
        place = s.place;
        element = record { low = span.low; high = span.high };
        passed = s.passed;
        reads = spread;
      }

  pub class_first : {next : ℕ} {after : List ℕ}
      → ElementMeant text at position readers next after
      → ClassMeant text at elements_pending position readers next after
  class_first m =
      record {
        place = m.place;
        head = m.element;
        tail = [];
        passed = λ room around a. m.passed room around a [];
        reads = λ h. rows_alike (λ b p. (λ w. (here w.0.0 w.0.1, w.1), λ w. (alone w.0, w.1))) (m.reads h);
      }
    where
      alone : {b : ℕ} → InClass (m.element ∷ []) b → (m.element.low ≤ b) × (b ≤ m.element.high)
      alone (here l h) = (l, h)
      alone (there i) = elim i [ ]

  module _ {so_far : ℕ} {now : List ℕ} (m : ClassMeant text at elements_pending position readers so_far now) where
    pub class_more : {next : ℕ} {after : List ℕ}
        → ElementMeant text so_far position now next after
        → ClassMeant text at elements_pending position readers next after
    class_more e =
        record {
          place = record { moved = omega (arith, m.place, e.place); inside = e.place.inside };
          head = m.head;
          tail = m.tail ++ (e.element ∷ []);
          passed = λ room around a. m.passed room around a ∙ e.passed room around a (m.head ∷ m.tail);
          reads = λ h. rows_alike alike (rows_then (m.reads h) (e.reads h));
        }
      where
        c : Class
        c = m.head ∷ m.tail

        alike : (b p : ℕ)
            → ((InClass c b × (p ≡ position))
            ⊎ (((e.element.low ≤ b) × (b ≤ e.element.high)) × (p ≡ position)))
            ↔ (InClass (c ++ (e.element ∷ [])) b × (p ≡ position))
        alike b p = (
          ⊎_elim (λ w. ((in_more c e.element).0 (inl w.0), w.1)) (λ w. ((in_more c e.element).0 (inr w.0), w.1)),
          λ w. ⊎_elim (λ i. inl (i, w.1)) (λ i. inr (i, w.1)) ((in_more c e.element).1 w.0),
        )

    pub class_stops : {place : ℕ} → get_or text so_far 0 ≢ close_class → NoElement text so_far place → NoClass text at place
    class_stops unclosed none_there =
        record {
          moved = omega (arith, m.place, none_there.moved);
          inside = omega (arith, m.place, none_there.inside);
          stopped = λ room around a.
              m.passed room around a ∙ none_there.stopped room around a (m.head ∷ m.tail) (no_end unclosed);
        }

    pub class_end : get_or text so_far 0 ≡ close_class
        → ClassMeant text at class_pending position readers (so_far + 1) now
    class_end close =
        record {
          place = record { moved = omega (arith, m.place); inside = omega (arith, mark_inside text so_far close) };
          head = m.head;
          tail = m.tail;
          passed = λ room around a.
              m.passed room around a ∙ rw add-one (class_closes text room around a so_far m.tail m.head close);
          reads = m.reads;
        }
