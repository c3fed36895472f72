-- The first field out of its range is one, and it is found by going through the fields in order.
use mathlib.Core.Path.{◌≡◌, refl, sym, ap, ◌∙◌}
use mathlib.Core.Bool.{Bool, true, false, ◌&&◌, true≢false}
use mathlib.Core.List.{List, [], ◌∷◌}
use mathlib.Core.Option.{Option, some, none}
use Prim.Native.Nat.{ℕ}
use borrow.Author.Tests.{le-leb, lt-ltb, leb-true, ltb-true}
use lib.Dec.{leb, ltb}
use Rattle.grammar.specs.Grammar.{nothing, each}
use Rattle.answers.specs.declared.refusals.Refusal.{Refusal}
use Rattle.sheet.specs.Sheet.{Field, InRange, FirstFault, here, later, Faultless}

pub fault_unique : {fs : List Field} {n m : Refusal} {p q : ℕ} → FirstFault fs n p → FirstFault fs m q → (n ≡ m) × (p ≡ q)
fault_unique (here bad) (here worse) = (refl, refl)
fault_unique (here bad) (later fine rest) = absurd (bad fine)
fault_unique (later fine rest) (here bad) = absurd (bad fine)
fault_unique (later fine rest) (later good more) = fault_unique rest more

pub fault_not_faultless : {fs : List Field} {n : Refusal} {p : ℕ} → FirstFault fs n p → Faultless fs → ⊥
fault_not_faultless (here bad) (each fine all) = bad fine
fault_not_faultless (later fine rest) (each good all) = fault_not_faultless rest all

unfoldable pub in_range : Field → Bool
in_range f = leb f.low f.value && ltb f.value f.high

-- the refusal and the place of the first fault
unfoldable pub fault_in : List Field → Option (Refusal × ℕ)
fault_in [] = none
fault_in (f ∷ fs) = elim (in_range f) [ true ↦ fault_in fs | false ↦ some (f.why, f.place) ]

and_true : (x y : Bool) → x && y ≡ true → (x ≡ true) × (y ≡ true)
and_true true y e = (refl, e)
and_true false y e = absurd (true≢false (sym e))

range_true : (f : Field) → in_range f ≡ true → InRange f
unfolding in_range
range_true f e =
    let (low, high) = and_true (leb f.low f.value) (ltb f.value f.high) e in
    record { above = leb-true f.low f.value low; below = ltb-true f.value f.high high }

range_false : (f : Field) → in_range f ≡ false → ¬ InRange f
unfolding in_range
range_false f e fine =
    true≢false (sym (rw (le-leb f.low f.value fine.above, lt-ltb f.value f.high fine.below)) ∙ e)

-- what going through the fields comes to
data Sought (fs : List Field) : Option (Refusal × ℕ) → Type 0 where
  faultless : Faultless fs → Sought fs none
  fault : {n : Refusal} {p : ℕ} → FirstFault fs n p → Sought fs (some (n, p))

sought_later : {f : Field} {fs : List Field} {o : Option (Refusal × ℕ)} → InRange f → Sought fs o → Sought (f ∷ fs) o
sought_later fine (faultless all) = faultless (each fine all)
sought_later fine (fault first) = fault (later fine first)

sought : (fs : List Field) → Sought fs (fault_in fs)
unfolding fault_in
sought [] = faultless nothing
sought (f ∷ fs) = by (in_range f) refl (sought fs)
  where
    by : (x : Bool) → in_range f ≡ x → Sought fs (fault_in fs)
        → Sought (f ∷ fs) (elim x [ true ↦ fault_in fs | false ↦ some (f.why, f.place) ])
    by true e rest = sought_later (range_true f e) rest
    by false e rest = fault (here (range_false f e))

pub fault_found : (fs : List Field) {n : Refusal} {p : ℕ} → fault_in fs ≡ some (n, p) → FirstFault fs n p
fault_found fs {n} {p} e = by (sought fs) e
  where
    by : {o : Option (Refusal × ℕ)} → Sought fs o → o ≡ some (n, p) → FirstFault fs n p
    by (faultless all) e = let no : ⊥ = cc in absurd no
    by (fault {n = m} {p = q} first) e =
        let pairs : ◌≡◌ {A = Refusal × ℕ} (m, q) (n, p) = cc in
        let kinds : m ≡ n = ap (λ (x : Refusal × ℕ). x.0) pairs in
        let places : q ≡ p = ap (λ (x : Refusal × ℕ). x.1) pairs in
        rw (kinds, places) at first

pub none_found : (fs : List Field) → fault_in fs ≡ none → Faultless fs
none_found fs e = by (sought fs) e
  where
    by : {o : Option (Refusal × ℕ)} → Sought fs o → o ≡ none → Faultless fs
    by (faultless all) e = all
    by (fault first) e = let no : ⊥ = cc in absurd no
