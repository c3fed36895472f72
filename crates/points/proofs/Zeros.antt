-- The lowest member of a word, and a word without one of its members.
use mathlib.Core.Path.{◌≡◌, refl, sym, ap, ◌∙◌}
use mathlib.Core.Logic.{◌≢◌}
use mathlib.Core.Bool.{Bool, true, false, xor, false≢true}
use Prim.Native.Nat.{ℕ, ◌^◌, ◌<◌}
use native.Mathlib.Decide.{ℕ_discrete}
use native.Mathlib.Omega.{arith}
use lib.Bits.{bit_xor}
use borrow.Author.Tests.{eq-eqb, eqb-true, ne_eqb}
use Rattle.std.specs.Prelude.{Some, None}
use Rattle.std.specs.Int.{trailing_zeros, w64}
use Rattle.std.proofs.lemmas.Nat.Bits.{bit_at-trailing_zeros}
use Rattle.sets.specs.Sets.{member, Subset}
use Rattle.sets.specs.Words.{word_width}
use Rattle.sets.proofs.Members.{member_none, member_xor, member_power}
use Rattle.sets.proofs.Promise.{same_below, subset_lt}
use Rattle.points.specs.Points.{Lowest}

-- a word that is not 0 has as its lowest member as many as the zeros below it
pub lowest_trailing : (word : ℕ) → 0 < word → word < 2 ^ word_width → Lowest word (Some (trailing_zeros w64 word))
unfolding member
lowest_trailing word some fits =
    let lowest = bit_at-trailing_zeros w64 word some fits in
    record {
      inside = lowest.0;
      holds = eq-eqb _ 1 lowest.1;
      earlier = λ k below there. absurd (omega (arith, lowest.2 k below, eqb-true _ 1 there));
    }

pub lowest_zero : Lowest 0 None
unfolding member
lowest_zero k inside there = absurd (false≢true (sym (member_none k) ∙ there))

-- a word with no member is 0
pub lowest_none : (word : ℕ) → Lowest word None → word < 2 ^ word_width → word ≡ 0
lowest_none word none fits =
    same_below word_width word 0 fits (omega arith) (λ k below. not_true (member k word) (none k below) ∙ sym (member_none k))
  where
    not_true : (b : Bool) → ¬ (b ≡ true) → b ≡ false
    not_true true = λ no. absurd (no refl)
    not_true false = λ no. refl

-- a word without one of its members
unfoldable pub without : ℕ → ℕ → ℕ
without place word = bit_xor word (2 ^ place)

module _ (word place : ℕ) (there : member place word ≡ true) where
  pub without_there : member place (without place word) ≡ false
  unfolding without xor
  without_there = rw (member_xor, member_power, there, eq-eqb place place refl)

  pub without_other : (k : ℕ) → k ≢ place → member k (without place word) ≡ member k word
  unfolding without xor
  without_other k other = rw (member_xor, member_power, ne_eqb k place other) (same (member k word))
    where
      same : (b : Bool) → xor b false ≡ b
      same true = refl
      same false = refl

  pub without_keeps : Subset (without place word) word
  without_keeps k m = go (ℕ_discrete k place)
    where
      go : Dec (k ≡ place) → member k word ≡ true
      go (yes e) = rw e there
      go (no other) = sym (without_other k other) ∙ m

  pub without_falls : without place word < word
  without_falls =
      subset_lt (without place word) word without_keeps
      (λ same. false≢true (sym without_there ∙ (ap (member place) same ∙ there)))
