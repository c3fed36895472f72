-- The kinds of bytes are those of the text: each special byte has its own, and every other is plain.
use mathlib.Core.Path.{◌≡◌, refl, sym, subst}
use mathlib.Core.Logic.{◌⊎◌, inl, inr}
use mathlib.Core.Bool.{Bool, true, false, ◌||◌}
use mathlib.Core.List.{List, [], ◌∷◌, map}
use Prim.Native.Nat.{ℕ}
use native.Mathlib.Omega.{arith}
use lib.Dec.{eqb}
use borrow.Author.Tests.{eqb-true}
use Rattle.pattern.specs.Pattern.{Expression}
use Rattle.pattern.specs.Marks.{open_group, close_group, open_class, close_class, bar, backslash, dash, special, special_in_class, among}
use Rattle.pattern.specs.Written.{Byte, plain, escaped, Sign, any_number, at_least_once, at_most_once}
use Rattle.pattern.specs.Kinds.{opens_group, closes_group, opens_class, divides, repeats, Kind, is_plain, is_dash, is_backslash, closes_class, marks, kinds, kind_in, kind_of}

-- byte b is of this kind
pub data KindIs : ℕ → Kind → Type 0 where
  plain_is : {b : ℕ} → among b special_in_class ≡ false → KindIs b is_plain
  dash_is : KindIs dash is_dash
  backslash_is : KindIs backslash is_backslash
  close_class_is : KindIs close_class closes_class
  open_class_is : KindIs open_class (marks opens_class)
  open_group_is : KindIs open_group (marks opens_group)
  close_group_is : KindIs close_group (marks closes_group)
  bar_is : KindIs bar (marks divides)
  sign_is : {b : ℕ} {f : Expression → Expression} → Sign b f → KindIs b (marks (repeats f))

-- so is each byte of a table
AllAre : List (ℕ × Kind) → Type 0
AllAre [] = Unit {0}
AllAre (m ∷ ms) = KindIs m.0 m.1 × AllAre ms

kind_in_lem : (ms : List (ℕ × Kind))
    → AllAre ms
    → (b : ℕ)
    → (among b (map (λ m. m.0) ms) ≡ false → KindIs b is_plain)
    → KindIs b (kind_in ms b)
unfolding AllAre kind_in among
kind_in_lem [] all b other = other refl
kind_in_lem (m ∷ ms) all b other = go (kind_in_lem ms all.1 b) (eqb b m.0) refl
  where
    go : ((among b (map (λ m. m.0) ms) ≡ false → KindIs b is_plain) → KindIs b (kind_in ms b))
        → (t : Bool)
        → eqb b m.0 ≡ t
        → KindIs b (kind_in (m ∷ ms) b)
    go rest true e = rw (e, kind_in) (subst (λ (c : ℕ). KindIs c m.1) (sym (eqb-true b m.0 e)) all.0)
    go rest false e = rw (e, kind_in) (rest (λ h. other (rw (e, among) h)))

pub kind_is : (b : ℕ) → KindIs b (kind_of b)
unfolding kind_of AllAre
kind_is b = kind_in_lem kinds (dash_is, (open_group_is, (close_group_is, (open_class_is, (close_class_is, (bar_is, (sign_is any_number, (sign_is at_least_once, (sign_is at_most_once, (backslash_is, tt)))))))))) b (λ h. plain_is h)

pub impossible : {A : Type 0} → true ≡ false → A
impossible e = let bad : ◌≡◌ {A = ℕ} 0 1 = cc in absurd (omega arith)

-- a byte that is plain in a class
pub plain_kind : (b : ℕ) → among b special_in_class ≡ false → kind_of b ≡ is_plain
unfolding among
plain_kind b h = go (kind_is b) h
  where
    go : {c : ℕ} {k : Kind} → KindIs c k → among c special_in_class ≡ false → k ≡ is_plain
    go (plain_is e) h = refl
    go dash_is h = impossible h
    go backslash_is h = impossible h
    go close_class_is h = impossible h
    go open_class_is h = impossible h
    go open_group_is h = impossible h
    go close_group_is h = impossible h
    go bar_is h = impossible h
    go (sign_is any_number) h = impossible h
    go (sign_is at_least_once) h = impossible h
    go (sign_is at_most_once) h = impossible h

-- a sign
pub sign_kind : {b : ℕ} {f : Expression → Expression} → Sign b f → kind_of b ≡ marks (repeats f)
unfolding kind_of kind_in
sign_kind any_number = refl
sign_kind at_least_once = refl
sign_kind at_most_once = refl

-- a byte that is plain outside a class is plain there too, or the dash
pub outside_kind : (b : ℕ) → among b special ≡ false → (kind_of b ≡ is_plain) ⊎ (kind_of b ≡ is_dash)
unfolding among kind_of kind_in
outside_kind b h = go (eqb b dash) refl
  where
    go : (t : Bool) → eqb b dash ≡ t → (kind_of b ≡ is_plain) ⊎ (kind_of b ≡ is_dash)
    go true e = inr (rw (eqb-true b dash e))
    go false e = inl (plain_kind b (rw (e, among) h))

-- what is plain in a class is plain outside
pub plain_outside : (b : ℕ) → among b special_in_class ≡ false → among b special ≡ false
unfolding among
plain_outside b h = go (eqb b dash) h
  where
    go : (t : Bool) → t || among b special ≡ false → among b special ≡ false
    go true e = impossible e
    go false e = e

pub byte_outside : {s : List ℕ} {b : ℕ} → Byte special_in_class s b → Byte special s b
byte_outside escaped = escaped
byte_outside (plain {b = b} h) = plain (plain_outside b h)
