-- The token of a state: the lowest pattern whose end it holds, or none.
use mathlib.Core.Path.{◌≡◌, refl, sym, ◌∙◌}
use mathlib.Core.Bool.{Bool, true, false, false≢true, cond}
use mathlib.Core.Logic.{◌↔◌}
use Prim.Native.Nat.{ℕ, zero, suc, ◌+◌, ◌≤◌, ◌<◌}
use native.Mathlib.Decide.{dec_lt, ℕ_discrete}
use native.Mathlib.Omega.{arith}
use Rattle.sets.specs.Sets.{member}
use Rattle.answers.specs.Limits.{most_patterns, most_positions}
use Rattle.states.specs.Machine.{lowest_end, token_of}

-- k is the lowest pattern whose end is in x
pub record LowestEnd (x k : ℕ) : Type 0 where
  pub there : member (most_positions + k) x ≡ true
  pub lowest : (j : ℕ) → j < k → member (most_positions + j) x ≡ true → ⊥

module _ (x : ℕ) where
  -- r is the lowest from k on
  abbrev LowestFrom : ℕ → ℕ → Type 0
  LowestFrom k r =
      (member (most_positions + r) x ≡ true)
      × (k ≤ r)
      × ((j : ℕ) → k ≤ j → j < r → member (most_positions + j) x ≡ true → ⊥)

  -- of the n patterns from k on: a number below all patterns is the lowest
  lowest_sound : (n k : ℕ) → k + n ≡ most_patterns → lowest_end x k n < most_patterns → LowestFrom k (lowest_end x k n)
  unfolding lowest_end
  lowest_sound zero k all below = absurd (omega arith)
  lowest_sound (suc n) k all below =
      go (member (most_positions + k) x) refl (λ less. lowest_sound n (suc k) (omega arith) less) below
    where
      go : (b : Bool)
          → member (most_positions + k) x ≡ b
          → (lowest_end x (suc k) n < most_patterns → LowestFrom (suc k) (lowest_end x (suc k) n))
          → cond b k (lowest_end x (suc k) n) < most_patterns
          → LowestFrom k (cond b k (lowest_end x (suc k) n))
      go true e later less = (e, omega arith, λ j low high m. omega arith)
      go false e later less =
          let (there, up, lowest) = later less in
          (there, omega arith, λ j low high m. first j low high m (ℕ_discrete j k) lowest)
        where
          first : (j : ℕ) → k ≤ j → j < lowest_end x (suc k) n → member (most_positions + j) x ≡ true → Dec (j ≡ k)
              → ((i : ℕ) → suc k ≤ i → i < lowest_end x (suc k) n → member (most_positions + i) x ≡ true → ⊥)
              → ⊥
          first j low high m (yes same) lowest = false≢true (sym e ∙ rw same at m)
          first j low high m (no other) lowest = lowest j (omega arith) high m

  -- and where there is an end, the number is no greater
  lowest_complete : (n k j : ℕ) → k ≤ j → j < k + n → member (most_positions + j) x ≡ true → lowest_end x k n ≤ j
  unfolding lowest_end
  lowest_complete zero k j low high m = absurd (omega arith)
  lowest_complete (suc n) k j low high m =
      go (member (most_positions + k) x) refl (ℕ_discrete j k) (λ past. lowest_complete n (suc k) j past (omega arith) m)
    where
      go : (b : Bool)
          → member (most_positions + k) x ≡ b
          → Dec (j ≡ k)
          → (suc k ≤ j → lowest_end x (suc k) n ≤ j)
          → cond b k (lowest_end x (suc k) n) ≤ j
      go true e d later = low
      go false e (yes same) later = absurd (false≢true (sym e ∙ rw same at m))
      go false e (no other) later = later (omega arith)

  -- the token of x is k, a pattern's number, exactly if k is the lowest pattern whose end is in x
  pub token_lowest : (k : ℕ) → k < most_patterns → (k ≡ token_of x) ↔ LowestEnd x k
  unfolding token_of
  token_lowest k below = (to, from)
    where
      to : k ≡ lowest_end x 0 most_patterns → LowestEnd x k
      to e =
          let (there, up, lowest) = lowest_sound most_patterns 0 refl (omega arith) in
          record {
            there = rw (← e) at there;
            lowest = λ j low m. lowest j (omega arith) (omega arith) m;
          }

      from : LowestEnd x k → k ≡ lowest_end x 0 most_patterns
      from l =
          let most : lowest_end x 0 most_patterns ≤ k = lowest_complete most_patterns 0 k (omega arith) (omega arith) l.there in
          let (there, up, lowest) = lowest_sound most_patterns 0 refl (omega arith) in
          go (dec_lt (lowest_end x 0 most_patterns) k) most there
        where
          go : Dec (lowest_end x 0 most_patterns < k) → lowest_end x 0 most_patterns ≤ k
              → member (most_positions + lowest_end x 0 most_patterns) x ≡ true
              → k ≡ lowest_end x 0 most_patterns
          go (yes less) most there = absurd (l.lowest (lowest_end x 0 most_patterns) less there)
          go (no least) most there = omega arith

  -- and where the end of pattern j is in x, the token is no greater
  pub token_low : (j : ℕ) → j < most_patterns → member (most_positions + j) x ≡ true → token_of x ≤ j
  unfolding token_of
  token_low j below m = lowest_complete most_patterns 0 j (omega arith) (omega arith) m
