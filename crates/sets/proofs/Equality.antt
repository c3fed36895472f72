-- A number is determined by its members.
use mathlib.Core.Path.{◌≡◌, refl, sym, ap, ◌∙◌}
use mathlib.Core.Bool.{Bool, true, false, ◌&&◌, ◌||◌, false≢true}
use Prim.Native.Nat.{ℕ, zero, suc, ◌+◌, ◌/◌, ◌%◌, ◌^◌, ◌<◌}
use native.Mathlib.Omega.{arith}
use lib.Arith.{lt-one}
use lib.Bits.{bit_and}
use Rattle.sets.specs.Sets.{member, Subset, Disjoint, Exactly, united}
use Rattle.sets.proofs.Members.{digit, member_lowest, member_next, member_and, member_none}
use Rattle.sets.proofs.Operations.{member_united, or_left}

-- two numbers of w places with the same members are one
pub same_below : (w x y : ℕ) → x < 2 ^ w → y < 2 ^ w → ((k : ℕ) → k < w → member k x ≡ member k y) → x ≡ y
same_below zero x y hx hy same = lt-one hx ∙ sym (lt-one hy)
same_below (suc w) x y hx hy same =
    let halves : x / 2 ≡ y / 2 =
    same_below w (x / 2) (y / 2) (omega arith) (omega arith)
    (λ k l. sym (member_next k x) ∙ same (suc k) (omega arith) ∙ member_next k y) in
    let lowest : x % 2 ≡ y % 2 = member_lowest x ∙ ap digit (same 0 (omega arith)) ∙ sym (member_lowest y) in
    omega arith

below_power : (n : ℕ) → n < 2 ^ n
below_power zero = omega arith
below_power (suc n) = omega (arith, below_power n)

-- and so are two numbers of any size
pub same_members : (x y : ℕ) → ((k : ℕ) → member k x ≡ member k y) → x ≡ y
same_members x y same =
    let below : x + y < 2 ^ (x + y) = below_power (x + y) in
    same_below (x + y) x y (omega arith) (omega arith) (λ k l. same k)

pub exactly_unique : {w : ℕ} (x y : ℕ) {P : ℕ → Type 0} → Exactly w x P → Exactly w y P → x ≡ y
exactly_unique x y ex ey =
    same_members x y
    (λ k. agree (member k x) (member k y) (λ h. ey.complete k (ex.sound k h)) (λ h. ex.complete k (ey.sound k h)))
  where
    agree : (a b : Bool) → (a ≡ true → b ≡ true) → (b ≡ true → a ≡ true) → a ≡ b
    agree true b f g = sym (f refl)
    agree false true f g = g refl
    agree false false f g = refl

-- a union with y is y exactly if x adds nothing
pub united_subset : (x y : ℕ) → Subset x y → united x y ≡ y
united_subset x y sub =
    same_members (united x y) y (λ k. member_united k x y ∙ absorb (member k x) (member k y) (sub k))
  where
    absorb : (a b : Bool) → (a ≡ true → b ≡ true) → a || b ≡ b
    absorb true b f = sym (f refl)
    absorb false b f = refl

pub subset_united : (x y : ℕ) → united x y ≡ y → Subset x y
subset_united x y e k h = rw e at (or_left k x y h)

-- the digits that two numbers share make 0 exactly if no member of one is one of the other
pub disjoint_and : (x y : ℕ) → Disjoint x y → bit_and x y ≡ 0
disjoint_and x y apart =
    same_members (bit_and x y) 0
    (λ k. member_and k x y ∙ none (member k x) (member k y) (apart k) ∙ sym (member_none k))
  where
    none : (a b : Bool) → (a ≡ true → ¬ (b ≡ true)) → a && b ≡ false
    none true true f = absurd (f refl refl)
    none true false f = refl
    none false b f = refl

pub and_disjoint : (x y : ℕ) → bit_and x y ≡ 0 → Disjoint x y
and_disjoint x y e k h l =
    let both : member k (bit_and x y) ≡ true = member_and k x y ∙ rw (h, l) in
    false≢true (sym (member_none k) ∙ rw e at both)
