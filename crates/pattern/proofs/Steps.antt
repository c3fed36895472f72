-- How the reader goes on: over texts put together, and from a standing to what it says of the rest.
use mathlib.Core.Path.{◌≡◌, refl, sym, ap, ◌∙◌}
use mathlib.Core.Logic.{⊎_elim}
use mathlib.Core.Bool.{true, false}
use mathlib.Core.List.{List, [], ◌∷◌, ◌++◌}
use mathlib.Core.Option.{Option, some, none}
use Prim.Native.Nat.{ℕ, suc, ◌+◌, ◌<◌, ◌≤◌}
use native.Mathlib.Omega.{arith}
use native.Mathlib.Nat.{add-zero}
use lib.ListN.{length, take}
use Rattle.pattern.specs.Pattern.{Expression}
use Rattle.pattern.specs.Marks.{open_group, close_group, open_class, bar, backslash, special, among}
use Rattle.pattern.specs.Kinds.{Kind}
use Rattle.pattern.specs.Reader.{Begun, outside, Standing, standing, byte_read, marked, moved, move, ended, after, means, refused, read_from}
use Rattle.pattern.proofs.ByteKinds.{KindIs, plain_is, dash_is, backslash_is, close_class_is, open_class_is, open_group_is, close_group_is, bar_is, sign_is, kind_is, impossible, outside_kind, plain_outside}

-- outside a class a byte is read that is plain there
pub move_plain : (room : ℕ) (around : List Begun) (a : Begun) (last : Option Expression) (b : ℕ)
    → among b special ≡ false
    → move (standing room around a (outside last)) b ≡ byte_read room around a last b
unfolding move moved
move_plain room around a last b h = ⊎_elim (ap kinded) (ap kinded) (outside_kind b h)
  where
    kinded : Kind → Option Standing
    kinded k = moved room around a (outside last) b k

-- of the special bytes only brackets, bars and backslashes can stand where an item starts
pub move_special : (room : ℕ) (around : List Begun) (a : Begun) (b : ℕ)
    → among b special ≡ true
    → among b (open_group ∷ close_group ∷ open_class ∷ bar ∷ backslash ∷ []) ≡ false
    → move (standing room around a (outside none)) b ≡ none
unfolding move moved marked among
move_special room around a b h n = go (kind_is b) h n
  where
    go : {c : ℕ} {k : Kind}
        → KindIs c k
        → among c special ≡ true
        → among c (open_group ∷ close_group ∷ open_class ∷ bar ∷ backslash ∷ []) ≡ false
        → moved room around a (outside none) c k ≡ none
    go {c = c} (plain_is e) h n = let bad : true ≡ false = sym h ∙ plain_outside c e in impossible bad
    go dash_is h n = impossible (sym h)
    go backslash_is h n = impossible n
    go close_class_is h n = refl
    go open_class_is h n = impossible n
    go open_group_is h n = impossible n
    go close_group_is h n = impossible n
    go bar_is h n = impossible n
    go (sign_is e) h n = refl

-- one byte, and a text put together
pub after_move : (s : Standing) (b : ℕ) (v : List ℕ) {t : Standing} → move s b ≡ some t → after s (b ∷ v) ≡ after t v
unfolding after
after_move s b v e = rw (e, after)

pub after_stop : (s : Standing) (b : ℕ) (v : List ℕ) → move s b ≡ none → after s (b ∷ v) ≡ none
unfolding after
after_stop s b v e = rw (e, after)

pub after_append : (u v : List ℕ) (s : Standing) {t : Standing} → after s u ≡ some t → after s (u ++ v) ≡ after t v
unfolding after
after_append [] v s e = cc
after_append (b ∷ u) v s {t} e = go (λ r h. after_append u v r h) (move s b) refl
  where
    go : ((r : Standing) → after r u ≡ some t → after r (u ++ v) ≡ after t v)
        → (o : Option Standing)
        → move s b ≡ o
        → after s (b ∷ (u ++ v)) ≡ after t v
    go rest none f = let stop : after s (b ∷ u) ≡ none = after_stop s b u f in cc
    go rest (some r) f = after_move s b (u ++ v) f ∙ rest r (sym (after_move s b u f) ∙ e)

pub after_one : (s : Standing) (b : ℕ) → after s (b ∷ []) ≡ move s b
unfolding after
after_one s b = go (move s b)
  where
    go : (o : Option Standing) → elim o as (λ x. Option Standing) [ none ↦ none | some t ↦ some t ] ≡ o
    go none = refl
    go (some t) = refl

-- what it says at a byte and at the end
module _ (s : Standing) (at : ℕ) where
  pub read_move : (b : ℕ) (v : List ℕ) {t : Standing}
      → move s b ≡ some t
      → read_from s at (b ∷ v) ≡ read_from t (suc at) v
  unfolding read_from
  read_move b v e = rw (e, read_from)

  pub read_stop : (b : ℕ) (v : List ℕ) → move s b ≡ none → read_from s at (b ∷ v) ≡ refused at
  unfolding read_from
  read_stop b v e = rw (e, read_from)

  pub read_end : {x : Expression} → ended s ≡ some x → read_from s at [] ≡ means x
  unfolding read_from
  read_end e = rw (e, read_from)

  pub read_short : ended s ≡ none → read_from s at [] ≡ refused at
  unfolding read_from
  read_short e = rw (e, read_from)

-- what it says of a text is what it says of the rest from the standing after the beginning
pub read_after : (u v : List ℕ) (s : Standing) (at : ℕ) {t : Standing}
    → after s u ≡ some t
    → read_from s at (u ++ v) ≡ read_from t (at + length u) v
unfolding after
read_after [] v s at {t} e = cc (add-zero at)
read_after (b ∷ u) v s at {t} e = go (λ r h. read_after u v r (suc at) h) (move s b) refl
  where
    go : ((r : Standing) → after r u ≡ some t → read_from r (suc at) (u ++ v) ≡ read_from t (suc at + length u) v)
        → (o : Option Standing)
        → move s b ≡ o
        → read_from s at (b ∷ (u ++ v)) ≡ read_from t (at + suc (length u)) v
    go rest none f = let stop : after s (b ∷ u) ≡ none = after_stop s b u f in cc
    go rest (some r) f = read_move s at b (u ++ v) f ∙ (rest r (sym (after_move s b u f) ∙ e) ∙ ap (λ (n : ℕ). read_from t n v) (omega arith))

-- what begins a text that it reads to the end, it reads
pub record Passed (s : Standing) (u v : List ℕ) (at : ℕ) (x : Expression) : Type 0 where
  pub reached : Standing
  pub read : after s u ≡ some reached
  pub rest : read_from reached (at + length u) v ≡ means x

pub means_passed : (u v : List ℕ) (s : Standing) (at : ℕ) {x : Expression}
    → read_from s at (u ++ v) ≡ means x
    → Passed s u v at x
unfolding after
means_passed [] v s at e = record { reached = s; read = refl; rest = rw add-zero e }
means_passed (b ∷ u) v s at {x} e = go (λ r h. means_passed u v r (suc at) h) (move s b) refl
  where
    go : ((r : Standing) → read_from r (suc at) (u ++ v) ≡ means x → Passed r u v (suc at) x)
        → (o : Option Standing)
        → move s b ≡ o
        → Passed s (b ∷ u) v at x
    go more none f = let bad : ◌≡◌ {A = ℕ} 0 1 = cc (read_stop s at b (u ++ v) f) in absurd (omega arith)
    go more (some r) f =
        let p : Passed r u v (suc at) x = more r (sym (read_move s at b (u ++ v) f) ∙ e) in
        record { reached = p.reached; read = after_move s b u f ∙ p.read; rest = ap (λ (n : ℕ). read_from p.reached n v) (omega arith) ∙ p.rest }

-- it goes k bytes into the text and no further
pub record Stopped (s : Standing) (v : List ℕ) (k : ℕ) : Type 0 where
  pub inside : k ≤ length v
  pub reached : Standing
  pub read : after s (take k v) ≡ some reached
  pub further : k < length v → after s (take (suc k) v) ≡ none

pub refused_stopped : (v : List ℕ) (s : Standing) (at : ℕ) {i : ℕ}
    → read_from s at v ≡ refused i
    → (k : ℕ) × (i ≡ at + k) × Stopped s v k
unfolding after read_from
refused_stopped [] s at {i} e = go (ended s) refl
  where
    go : (o : Option Expression) → ended s ≡ o → (k : ℕ) × (i ≡ at + k) × Stopped s [] k
    go none f = (0, cc (read_short s at f, add-zero at), record { inside = omega arith; reached = s; read = refl; further = λ h. absurd (omega arith) })
    go (some x) f = let bad : ◌≡◌ {A = ℕ} 0 1 = cc (read_end s at f) in absurd (omega arith)
refused_stopped (b ∷ v) s at {i} e = go (λ r h. refused_stopped v r (suc at) h) (move s b) refl
  where
    go : ((r : Standing) → read_from r (suc at) v ≡ refused i → (k : ℕ) × (i ≡ suc at + k) × Stopped r v k)
        → (o : Option Standing)
        → move s b ≡ o
        → (k : ℕ) × (i ≡ at + k) × Stopped s (b ∷ v) k
    go rest none f = (0, cc (read_stop s at b v f, add-zero at), record { inside = omega arith; reached = s; read = refl; further = λ h. after_stop s b (take 0 v) f })
    go rest (some r) f =
        let (k, same, p) = rest r (sym (read_move s at b v f) ∙ e) in
        (suc k, omega arith, record { inside = omega arith; reached = p.reached; read = after_move s b (take k v) f ∙ p.read; further = λ h. after_move s b (take (suc k) v) f ∙ p.further (omega arith) })
