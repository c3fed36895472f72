-- The algebra of joining, at any place e of the empty string and for numbers of any width: joining is associative, the set of
-- only the empty string is neutral on both sides, and joining distributes over union on both sides and is monotone.
use mathlib.Core.Path.{◌≡◌, refl, sym, ap, ◌∙◌}
use mathlib.Core.Bool.{Bool, true, false, cond, ◌&&◌, ◌||◌, and-true, and-false, or-false, and_assoc, and-or_distrib_left, and-or_distrib_right}
use mathlib.Core.Logic.{◌≢◌, ⊎_elim}
use Prim.Native.Nat.{ℕ}
use native.Mathlib.Decide.{ℕ_discrete}
use borrow.Author.Tests.{eq-eqb, ne_eqb}
use Rattle.sets.specs.Sets.{member, Subset, only, united, joined}
use Rattle.sets.proofs.Operations.{member_united, member_only, member_joined, join_keep, join_skip, join_cases}
use Rattle.sets.proofs.Equality.{same_members}

-- a join has the empty string exactly if both sets have it
pub joined_vanishes : (e x y : ℕ) → member e (joined e x y) ≡ member e x && member e y
joined_vanishes e x y = rw (member_joined, eq-eqb e e refl) (at_e (member e x))
  where
    at_e : (v : Bool) → cond v ((v && false) || member e y) v ≡ v && member e y
    at_e true = refl
    at_e false = refl

-- elsewhere it has what x has and, if x has the empty string, what y has
pub joined_elsewhere : (e k x y : ℕ) → k ≢ e → member k (joined e x y) ≡ member k x || (member e x && member k y)
joined_elsewhere e k x y d = rw (member_joined, ne_eqb k e d) (elsewhere (member e x) (member k x))
  where
    elsewhere : (v in_x : Bool) → cond v ((in_x && true) || member k y) in_x ≡ in_x || (v && member k y)
    elsewhere true in_x = ap (λ (b : Bool). b || member k y) (and-true in_x)
    elsewhere false in_x = sym (or-false in_x)

only_at : (e : ℕ) → member e (only e) ≡ true
only_at e = member_only e e ∙ eq-eqb e e refl

only_elsewhere : (e k : ℕ) → k ≢ e → member k (only e) ≡ false
only_elsewhere e k d = member_only k e ∙ ne_eqb k e d

-- two sets are one if they agree on the empty string and elsewhere
by_place : (e x y : ℕ) → member e x ≡ member e y → ((k : ℕ) → k ≢ e → member k x ≡ member k y) → x ≡ y
by_place e x y here elsewhere = same_members x y (λ k. go k (ℕ_discrete k e))
  where
    go : (k : ℕ) → Dec (k ≡ e) → member k x ≡ member k y
    go k (yes p) = rw p here
    go k (no d) = elsewhere k d

pub join_assoc : (e x y z : ℕ) → joined e (joined e x y) z ≡ joined e x (joined e y z)
join_assoc e x y z =
    by_place e (joined e (joined e x y) z) (joined e x (joined e y z))
    (simp joined_vanishes (and_assoc (member e x) (member e y) (member e z)))
    (λ k d. simp (joined_vanishes, joined_elsewhere)
    (regroup (member k x) (member e x) (member k y) (member e y) (member k z)))
  where
    regroup : (kx ex ky ey kz : Bool)
        → (kx || (ex && ky)) || ((ex && ey) && kz) ≡ kx || (ex && (ky || (ey && kz)))
    regroup true ex ky ey kz = refl
    regroup false true ky ey kz = refl
    regroup false false ky ey kz = refl

pub join_neutral_left : (e y : ℕ) → joined e (only e) y ≡ y
join_neutral_left e y =
    by_place e (joined e (only e) y) y
    (simp (joined_vanishes, only_at))
    (λ k d. simp (joined_elsewhere, only_at, only_elsewhere))

pub join_neutral_right : (e x : ℕ) → joined e x (only e) ≡ x
join_neutral_right e x =
    by_place e (joined e x (only e)) x
    (simp (joined_vanishes, only_at, and-true))
    (λ k d. simp (joined_elsewhere, only_elsewhere, and-false, or-false))

pub join_distributes_left : (e x y z : ℕ) → joined e x (united y z) ≡ united (joined e x y) (joined e x z)
join_distributes_left e x y z =
    by_place e (joined e x (united y z)) (united (joined e x y) (joined e x z))
    (simp (joined_vanishes, member_united) (and-or_distrib_left (member e x) (member e y) (member e z)))
    (λ k d. simp (joined_elsewhere, member_united) (spread (member k x) (member e x) (member k y) (member k z)))
  where
    spread : (kx ex ky kz : Bool) → kx || (ex && (ky || kz)) ≡ (kx || (ex && ky)) || (kx || (ex && kz))
    spread true ex ky kz = refl
    spread false true ky kz = refl
    spread false false ky kz = refl

pub join_distributes_right : (e x y z : ℕ) → joined e (united x y) z ≡ united (joined e x z) (joined e y z)
join_distributes_right e x y z =
    by_place e (joined e (united x y) z) (united (joined e x z) (joined e y z))
    (simp (joined_vanishes, member_united) (and-or_distrib_right (member e x) (member e y) (member e z)))
    (λ k d. simp (joined_elsewhere, member_united, and-or_distrib_right)
    (swap (member k x) (member k y) (member e x && member k z) (member e y && member k z)))
  where
    swap : (a b c d : Bool) → (a || b) || (c || d) ≡ (a || c) || (b || d)
    swap true b c d = refl
    swap false true true d = refl
    swap false true false d = refl
    swap false false c d = refl

pub join_monotone : (e x x' y y' : ℕ) → Subset x x' → Subset y y' → Subset (joined e x y) (joined e x' y')
join_monotone e x x' y y' left right k h =
    ⊎_elim (λ l. join_keep e k x' y' (left k l.0) l.1) (λ r. join_skip e k x' y' (left e r.0) (right k r.1))
    (join_cases e k x y h)
