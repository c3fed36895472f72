-- The answers as those who cite the contracts use them: the number that each function makes, a Bool that decides, and the
-- sets of a family.
use mathlib.Core.Path.{◌≡◌, refl, sym, ◌∙◌}
use mathlib.Core.Bool.{Bool, true, false, false≢true, true≢false, and-true}
use mathlib.Core.Logic.{◌≢◌}
use mathlib.Core.List.{List}
use Prim.Native.Nat.{ℕ, ◌<◌}
use borrow.Author.Tests.{lt-ltb}
use lib.ListN.{length, length-set}
use lib.Seq.{get_or-set_same, get_or-set_other}
use Rattle.sets.specs.declared.Set.{Set}
use Rattle.sets.specs.Calls.{number, Decides, None, Single, With, Without, Union, Join, set_at, stored}
use Rattle.sets.specs.Sets.{width, empty_string, united, only, added, removed, joined}
use Rattle.sets.proofs.Members.{member_none}
use Rattle.sets.proofs.Operations.{member_united, member_only, member_added, member_removed, member_joined}
use Rattle.sets.proofs.Equality.{same_members}

pub none_is : {r : Set} → None r → number r ≡ 0
none_is {r} h = same_members (number r) 0 (λ k. h.members k ∙ sym (member_none k))

pub with_is : {s : Set} {bit : ℕ} {r : Set} → bit < width → With s bit r → number r ≡ added bit (number s)
with_is {s} {bit} {r} below h =
    same_members (number r) (added bit (number s))
    (λ k. h.members k ∙ rw (lt-ltb bit width below, and-true) (sym (member_added k bit (number s))))

pub single_is : {bit : ℕ} {r : Set} → bit < width → Single bit r → number r ≡ only bit
single_is {bit} {r} below h =
    same_members (number r) (only bit)
    (λ k. h.members k ∙ rw (lt-ltb bit width below, and-true) (sym (member_only k bit)))

pub without_is : {s : Set} {bit : ℕ} {r : Set} → Without s bit r → number r ≡ removed bit (number s)
without_is {s} {bit} {r} h =
    same_members (number r) (removed bit (number s)) (λ k. h.members k ∙ sym (member_removed k bit (number s)))

pub union_is : {x y r : Set} → Union x y r → number r ≡ united (number x) (number y)
union_is {x} {y} {r} h =
    same_members (number r) (united (number x) (number y)) (λ k. h.members k ∙ sym (member_united k (number x) (number y)))

pub join_is : {x y r : Set} → Join x y r → number r ≡ joined empty_string (number x) (number y)
join_is {x} {y} {r} h =
    same_members (number r) (joined empty_string (number x) (number y))
    (λ k. h.members k ∙ sym (member_joined empty_string k (number x) (number y)))

-- a Bool decides A if it is true exactly where A holds
pub decided : {A : Type 0} (r : Bool) → (r ≡ true → A) → (A → r ≡ true) → Decides r A
decided true holds told = holds refl
decided false holds told = λ a. false≢true (told a)

pub decides_true : (A : Type 0) (r : Bool) → Decides r A → r ≡ true → A
decides_true A true answer told = answer
decides_true A false answer told = absurd (false≢true told)

pub decides_false : (A : Type 0) (r : Bool) → Decides r A → r ≡ false → A → ⊥
decides_false A true answer told = absurd (true≢false told)
decides_false A false answer told = answer

-- a family after one of its sets is replaced
module _ (sets : List ℕ) (n x : ℕ) where
  pub stored_length : length (stored sets n x) ≡ length sets
  stored_length = length-set sets n x

  pub stored_there : n < length sets → set_at (stored sets n x) n ≡ x
  stored_there inside = get_or-set_same sets n x 0 inside

  pub stored_elsewhere : (m : ℕ) → m ≢ n → set_at (stored sets n x) m ≡ set_at sets m
  stored_elsewhere m d = get_or-set_other sets n m x 0 d
