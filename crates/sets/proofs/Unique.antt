-- No contract of the crate allows a second outcome.
use mathlib.Core.Path.{◌≡◌, refl, sym, ◌∙◌}
use mathlib.Core.Bool.{Bool, true, false}
use mathlib.Core.List.{List}
use Prim.Native.Nat.{ℕ}
use Rattle.sets.specs.declared.Set.{Set}
use Rattle.sets.specs.Sets.{member, Subset, Disjoint, column_place}
use Rattle.sets.specs.Calls.{number, Decides, None, Single, With, Without, Union, Join, Within, Apart, Same, Load}
use Rattle.sets.specs.Calls.{stored}
use Rattle.sets.proofs.Equality.{same_members}

-- what equals one value, what decides one statement, and sets with the same members
pub value_unique : {A : Type 0} {a r r' : A} → r ≡ a → r' ≡ a → r ≡ r'
value_unique h h' = h ∙ sym h'

pub decides_unique : (A : Type 0) (r r' : Bool) → Decides r A → Decides r' A → r ≡ r'
decides_unique A true true h h' = refl
decides_unique A true false h h' = absurd (h' h)
decides_unique A false true h h' = absurd (h h')
decides_unique A false false h h' = refl

pub number_unique : {r r' : Set} → number r ≡ number r' → r ≡ r'
number_unique same = λ i. record { word = same i }

pub members_unique : {r r' : Set} (m : ℕ → Bool)
    → ((k : ℕ) → member k (number r) ≡ m k) → ((k : ℕ) → member k (number r') ≡ m k) → r ≡ r'
members_unique {r} {r'} m h h' =
    number_unique (same_members (number r) (number r') (λ k. value_unique (h k) (h' k)))

pub none_unique : {r r' : Set} → None r → None r' → r ≡ r'
none_unique h h' = members_unique _ h.members h'.members

pub has_unique : (s : Set) (bit : ℕ) {r r' : Bool} → r ≡ member bit (number s) → r' ≡ member bit (number s) → r ≡ r'
has_unique s bit = value_unique

pub single_unique : {bit : ℕ} {r r' : Set} → Single bit r → Single bit r' → r ≡ r'
single_unique h h' = members_unique _ h.members h'.members

pub word_unique : (s : Set) {r r' : ℕ} → r ≡ number s → r' ≡ number s → r ≡ r'
word_unique s = value_unique

pub with_unique : {s : Set} {bit : ℕ} {r r' : Set} → With s bit r → With s bit r' → r ≡ r'
with_unique h h' = members_unique _ h.members h'.members

pub without_unique : {s : Set} {bit : ℕ} {r r' : Set} → Without s bit r → Without s bit r' → r ≡ r'
without_unique h h' = members_unique _ h.members h'.members

pub union_unique : {x y r r' : Set} → Union x y r → Union x y r' → r ≡ r'
union_unique h h' = members_unique _ h.members h'.members

pub join_unique : {x y r r' : Set} → Join x y r → Join x y r' → r ≡ r'
join_unique h h' = members_unique _ h.members h'.members

pub within_unique : (x y : Set) (r r' : Bool) → Within x y r → Within x y r' → r ≡ r'
within_unique x y = decides_unique (Subset (number x) (number y))

pub apart_unique : (x y : Set) (r r' : Bool) → Apart x y r → Apart x y r' → r ≡ r'
apart_unique x y = decides_unique (Disjoint (number x) (number y))

pub same_unique : (x y : Set) (r r' : Bool) → Same x y r → Same x y r' → r ≡ r'
same_unique x y = decides_unique (number x ≡ number y)

pub column_bit_unique : (column tokens : ℕ) {r r' : ℕ}
    → r ≡ column_place column tokens → r' ≡ column_place column tokens → r ≡ r'
column_bit_unique column tokens = value_unique

pub load_unique : {sets : List ℕ} {n : ℕ} {r r' : Set} → Load sets n r → Load sets n r' → r ≡ r'
load_unique h h' = number_unique (value_unique h.loaded h'.loaded)

pub store_unique : (sets : List ℕ) (n : ℕ) (s : Set) {after after' : List ℕ}
    → after ≡ stored sets n (number s) → after' ≡ stored sets n (number s) → after ≡ after'
store_unique sets n s = value_unique
