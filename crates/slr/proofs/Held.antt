-- The most states that a run holds, and that a derivation says are held.
use mathlib.Core.Path.{◌≡◌, ap, ◌∙◌}
use mathlib.Core.List.{List, [], ◌∷◌}
use mathlib.Core.Option.{Option, some}
use Prim.Native.Nat.{ℕ, zero, suc, ◌+◌, ◌≤◌, max}
use native.Mathlib.Omega.{arith}
use lib.ListN.{length, drop}
use Rattle.grammar.specs.Grammar.{Form, Grammar, Column, token, Rule}
use Rattle.grammar.specs.Machine.{front}
use Rattle.slr.specs.Rightmost.{Rightmost, done, with_token, with_nonterminal, states_held}
use Rattle.slr.specs.Actions.{Action, shift, reduce}
use Rattle.slr.specs.Machine.{Accepting, accepts, shifts, reduces}

module _ {g : Grammar} {cell : ℕ → Column → Option Action} {move : ℕ → ℕ → Option ℕ} where
  -- the most states held in a run
  unfoldable pub most_held : {σ w ps : List ℕ} → Accepting g cell move σ w ps → ℕ
  most_held (accepts {below = below} e) = suc (length below)
  most_held (shifts {below = below} e a) = max (suc (length below)) (most_held a)
  most_held (reduces {below = below} e r d m a) = max (suc (length below)) (most_held a)

  pub held_least : {σ w ps : List ℕ} (a : Accepting g cell move σ w ps) → length σ ≤ most_held a
  unfolding most_held
  held_least (accepts e) = omega arith
  held_least (shifts e a) = omega arith
  held_least (reduces e r d m a) = omega arith

-- a run that holds so many states at most
pub record Ran (g : Grammar) (cell : ℕ → Column → Option Action) (move : ℕ → ℕ → Option ℕ)
    (σ w ps : List ℕ) (most : ℕ) : Type 0 where
  pub run : Accepting g cell move σ w ps
  pub holds : most_held run ≡ most

-- at the end of the derivation of α, as many states more are held as α has symbols
pub held_end : {g : Grammar} {α : Form} {ps w : List ℕ} (k : ℕ) (d : Rightmost g α ps w) → length α + k ≤ states_held k d
unfolding states_held
held_end k done = omega arith
held_end k (with_token d) = omega (arith, held_end (suc k) d)
held_end k (with_nonterminal r e d) = omega (arith, held_end (suc k) d)

pub drop_more : (n : ℕ) (xs : List ℕ) {x : ℕ} {ys : List ℕ} → drop n xs ≡ x ∷ ys → drop (suc n) xs ≡ ys
drop_more zero [] e = let bad : ◌≡◌ {A = ℕ} 0 1 = cc in absurd (omega arith)
drop_more zero (y ∷ xs) e = cc
drop_more (suc n) [] e = let bad : ◌≡◌ {A = ℕ} 0 1 = cc in absurd (omega arith)
drop_more (suc n) (y ∷ xs) e = drop_more n xs e

drop_length_is : (n : ℕ) (xs : List ℕ) {x : ℕ} {ys : List ℕ} → drop n xs ≡ x ∷ ys → length xs ≡ n + suc (length ys)
drop_length_is zero xs e = omega (arith, ap (λ (z : List ℕ). length z) e)
drop_length_is (suc n) [] e = let bad : ◌≡◌ {A = ℕ} 0 1 = cc in absurd (omega arith)
drop_length_is (suc n) (y ∷ xs) e = omega (arith, drop_length_is n xs e)

module _ {g : Grammar} {cell : ℕ → Column → Option Action} {move : ℕ → ℕ → Option ℕ} where
  pub ran_most : {σ w ps : List ℕ} {m n : ℕ} → Ran g cell move σ w ps m → m ≡ n → Ran g cell move σ w ps n
  ran_most a e = record { run = a.run; holds = a.holds ∙ e }

  pub ran_shifts : {s t j most : ℕ} {below w ps : List ℕ}
      → cell s (token t) ≡ some (shift j)
      → Ran g cell move (j ∷ s ∷ below) w ps most
      → Ran g cell move (s ∷ below) (t ∷ w) ps most
  unfolding most_held
  ran_shifts e a = record { run = shifts e a.run; holds = omega (arith, held_least a.run, a.holds) }

  pub ran_reduces : {s p A k j most : ℕ} {β : Form} {below rest w ps : List ℕ}
      → cell s (front w) ≡ some (reduce p)
      → Rule g p A β
      → drop (length β) (s ∷ below) ≡ k ∷ rest
      → move k A ≡ some j
      → Ran g cell move (j ∷ k ∷ rest) w ps most
      → Ran g cell move (s ∷ below) w (p ∷ ps) (max (length β + suc (length rest)) most)
  unfolding most_held
  ran_reduces {s} {β = β} {below} e r d m a =
      record {
        run = reduces e r d m a.run;
        holds = omega (arith, a.holds, drop_length_is (length β) (s ∷ below) d);
      }
