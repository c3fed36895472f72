-- The members of a union, of a set with one more or one less, and of a join, as equations of Bools and as facts.
use mathlib.Core.Path.{◌≡◌, refl, sym, ap, ◌∙◌}
use mathlib.Core.Bool.{Bool, true, false, not, cond, ◌&&◌, ◌||◌, xor, false≢true, and-true}
use mathlib.Core.Logic.{◌≢◌, ◌⊎◌, inl, inr, ⊎_elim}
use Prim.Native.Nat.{ℕ}
use native.Mathlib.Decide.{ℕ_discrete}
use lib.Dec.{eqb}
use borrow.Author.Tests.{eq-eqb, ne_eqb, eqb-true, eqb-false, not-true}
use Rattle.sets.specs.Sets.{member, only, united, added, removed, joined}
use Rattle.sets.proofs.Members.{member_or, member_xor, member_power}

pub member_united : (k x y : ℕ) → member k (united x y) ≡ member k x || member k y
unfolding united
member_united = member_or

pub member_only : (k j : ℕ) → member k (only j) ≡ eqb k j
unfolding only
member_only = member_power

pub member_added : (k j x : ℕ) → member k (added j x) ≡ member k x || eqb k j
unfolding added
member_added k j x = rw (member_united, member_only)

pub member_removed : (k j x : ℕ) → member k (removed j x) ≡ member k x && not (eqb k j)
unfolding removed xor
member_removed k j x = rw (member_xor, member_added, member_only) (taken (member k x) (eqb k j))
  where
    taken : (a b : Bool) → xor (a || b) b ≡ a && not b
    taken true true = refl
    taken true false = refl
    taken false true = refl
    taken false false = refl

pub member_joined : (e k x y : ℕ)
    → member k (joined e x y) ≡ cond (member e x) ((member k x && not (eqb k e)) || member k y) (member k x)
unfolding joined
member_joined e k x y = go (member e x)
  where
    go : (vanishes : Bool)
        → member k (cond vanishes (united (removed e x) y) x)
        ≡ cond vanishes ((member k x && not (eqb k e)) || member k y) (member k x)
    go true = rw (member_united, member_removed)
    go false = refl

either : (a b : Bool) → a || b ≡ true → (a ≡ true) ⊎ (b ≡ true)
either true b h = inl refl
either false b h = inr h

right : (a b : Bool) → b ≡ true → a || b ≡ true
right true b h = refl
right false b h = h

both : (a b : Bool) → a && b ≡ true → (a ≡ true) × (b ≡ true)
both true b h = (refl, h)
both false b h = absurd (false≢true h)

pub or_left : (k x y : ℕ) → member k x ≡ true → member k (united x y) ≡ true
or_left k x y h = rw (member_united, h)

pub or_right : (k x y : ℕ) → member k y ≡ true → member k (united x y) ≡ true
or_right k x y h = rw member_united (right (member k x) (member k y) h)

pub or_cases : (k x y : ℕ) → member k (united x y) ≡ true → (member k x ≡ true) ⊎ (member k y ≡ true)
or_cases k x y h = either (member k x) (member k y) (rw member_united at h)

pub added_none : (k : ℕ) → added k 0 ≡ only k
unfolding added united
added_none k = refl

pub added_new : (k x : ℕ) → member k (added k x) ≡ true
added_new k x = rw member_added (right (member k x) (eqb k k) (eq-eqb k k refl))

pub added_keep : (k j x : ℕ) → member k x ≡ true → member k (added j x) ≡ true
added_keep k j x h = rw (member_added, h)

pub added_cases : (k j x : ℕ) → member k (added j x) ≡ true → (member k x ≡ true) ⊎ (k ≡ j)
added_cases k j x h =
    ⊎_elim inl (λ e. inr (eqb-true k j e)) (either (member k x) (eqb k j) (rw member_added at h))

pub removed_keep : (k j x : ℕ) → member k x ≡ true → k ≢ j → member k (removed j x) ≡ true
removed_keep k j x h d = rw (member_removed, h, ne_eqb k j d)

pub removed_cases : (k j x : ℕ) → member k (removed j x) ≡ true → (member k x ≡ true) × (k ≢ j)
removed_cases k j x h =
    let parts = both (member k x) (not (eqb k j)) (rw member_removed at h) in
    (parts.0, eqb-false k j (not-true (eqb k j) parts.1))

-- what is not there need not be removed
pub removed_absent : (k j x : ℕ) → member j x ≡ false → member k x && not (eqb k j) ≡ member k x
removed_absent k j x absent = go (ℕ_discrete k j)
  where
    go : Dec (k ≡ j) → member k x && not (eqb k j) ≡ member k x
    go (yes same) = rw (same, absent)
    go (no d) = rw (ne_eqb k j d, and-true)

pub join_keep : (e k x y : ℕ) → member k x ≡ true → k ≢ e → member k (joined e x y) ≡ true
join_keep e k x y h d = rw (member_joined, h, ne_eqb k e d) (go (member e x))
  where
    go : (vanishes : Bool) → cond vanishes true true ≡ true
    go true = refl
    go false = refl

pub join_skip : (e k x y : ℕ) → member e x ≡ true → member k y ≡ true → member k (joined e x y) ≡ true
join_skip e k x y v h = rw (member_joined, v) (right (member k x && not (eqb k e)) (member k y) h)

pub join_cases : (e k x y : ℕ) → member k (joined e x y) ≡ true
    → ((member k x ≡ true) × (k ≢ e)) ⊎ ((member e x ≡ true) × (member k y ≡ true))
unfolding joined
join_cases e k x y h = go (member e x) refl h
  where
    go : (vanishes : Bool) → member e x ≡ vanishes → member k (cond vanishes (united (removed e x) y) x) ≡ true
        → ((member k x ≡ true) × (k ≢ e)) ⊎ ((member e x ≡ true) × (member k y ≡ true))
    go true v h = ⊎_elim (λ l. inl (removed_cases k e x l)) (λ r. inr (v, r)) (or_cases k (removed e x) y h)
    go false v h = inl (h, λ same. false≢true (sym v ∙ ap (λ (j : ℕ). member j x) (sym same) ∙ h))
