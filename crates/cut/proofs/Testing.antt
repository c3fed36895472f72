-- Tokens by computing: which ends come after each beginning of a line.
use mathlib.Core.Path.{◌≡◌, refl, sym, subst}
use mathlib.Core.Bool.{Bool, true, false, ◌&&◌, not, false≢true}
use mathlib.Core.Logic.{◌↔◌}
use mathlib.Core.List.{List}
use Prim.Native.Nat.{ℕ, zero, suc, ◌+◌, ◌-◌, ◌≤◌, ◌<◌}
use native.Mathlib.Decide.{ℕ_discrete}
use native.Mathlib.Omega.{arith}
use lib.ListN.{length, take}
use Rattle.sets.specs.Sets.{member}
use Rattle.answers.specs.Limits.{most_patterns, most_positions}
use Rattle.pattern.specs.Pattern.{Expression, Pattern}
use Rattle.pattern.specs.Positions.{positions, After}
use Rattle.pattern.proofs.Promise.{state_exact, below_length}
use Rattle.pieces.specs.Cut.{TokenAt}
use Rattle.cut.proofs.Pointing.{point_end}
use Rattle.cut.proofs.Listed.{start_set, after_from, string_exact}

-- it is so of every number below n
unfoldable pub all_below : ℕ → (ℕ → Bool) → Bool
all_below zero f = true
all_below (suc n) f = all_below n f && f n

pub both : (s t : Bool) → s && t ≡ true → (s ≡ true) × (t ≡ true)
both true t e = (refl, e)
both false t e = absurd (false≢true e)

each_below : (n : ℕ) (f : ℕ → Bool) → all_below n f ≡ true → (k : ℕ) → k < n → f k ≡ true
unfolding all_below
each_below zero f e k below = absurd (omega arith)
each_below (suc n) f e k below =
    let (lower, last) = both (all_below n f) (f n) e in go (each_below n f lower k) last (ℕ_discrete k n)
  where
    go : (k < n → f k ≡ true) → f n ≡ true → Dec (k ≡ n) → f k ≡ true
    go lower last (yes same) = subst (λ (i : ℕ). f i ≡ true) (sym same) last
    go lower last (no other) = lower (omega arith)

not_true : (t : Bool) → not t ≡ true → t ≡ true → ⊥
not_true true e d = false≢true e
not_true false e d = false≢true d

module _ (rs : List Expression) where
  -- pattern k ends after u
  unfoldable pub ends_after : ℕ → List ℕ → Bool
  unfolding after_from start_set
  ends_after k u = member (most_positions + k) (after_from rs (start_set rs) u)

  -- none of the first n patterns ends after u
  unfoldable pub none_ends : ℕ → List ℕ → Bool
  unfolding all_below ends_after
  none_ends n u = all_below n (λ j. not (ends_after j u))

  -- k ends after the first n bytes of w, no lower one does, and none after any more bytes of it
  unfoldable pub token_test : List ℕ → ℕ → ℕ → Bool
  unfolding ends_after none_ends all_below
  token_test w k n =
      ends_after k (take n w)
      && (none_ends k (take n w) && all_below (length w - n) (λ i. none_ends (length rs) (take (suc n + i) w)))

  module _ (few : length rs ≤ most_patterns) (fit : positions rs ≤ most_positions) where
    end_place_lem : (k : ℕ) (u : List ℕ) → (ends_after k u ≡ true) ↔ Pattern rs k u
    unfolding ends_after
    end_place_lem k u =
        let exact = string_exact rs few fit u in (
          λ m. (state_exact rs u k).0 (subst (After rs u) (point_end k) (exact.sound (most_positions + k) m)),
          λ p. exact.complete (most_positions + k) (subst (After rs u) (sym (point_end k)) ((state_exact rs u k).1 p)),
        )

    none_match : (n : ℕ) (u : List ℕ) → none_ends n u ≡ true → (j : ℕ) → j < n → Pattern rs j u → ⊥
    unfolding none_ends
    none_match n u test j below p =
        not_true (ends_after j u) (each_below n (λ j. not (ends_after j u)) test j below) ((end_place_lem j u).1 p)

    pub token_tested : (w : List ℕ) (k n : ℕ) → 0 < n → n ≤ length w → token_test w k n ≡ true → TokenAt (Pattern rs) w k n
    unfolding token_test
    token_tested w k n some_byte within test =
        let (ends, rest) = both (ends_after k (take n w)) _ test in
        let (lower, longer) = both (none_ends k (take n w)) _ rest in
        record {
          some_byte = some_byte;
          within = within;
          matches = (end_place_lem k (take n w)).0 ends;
          longest = λ j m more inside p. beyond longer j m more inside p;
          lowest = λ j less p. none_match k (take n w) lower j less p;
        }
      where
        beyond : all_below (length w - n) (λ i. none_ends (length rs) (take (suc n + i) w)) ≡ true
            → (j m : ℕ)
            → n < m
            → m ≤ length w
            → Pattern rs j (take m w)
            → ⊥
        beyond longer j m more inside p =
            let i = m - suc n in
            let here : suc n + i ≡ m = omega arith in
            let test : none_ends (length rs) (take m w) ≡ true =
            subst (λ (l : ℕ). none_ends (length rs) (take l w) ≡ true) here
            (each_below (length w - n) (λ i. none_ends (length rs) (take (suc n + i) w)) longer i (omega arith)) in
            none_match (length rs) (take m w) test j (below_length rs j p.at) p
