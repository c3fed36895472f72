-- The machine goes one way: from the same states, on the same string, it lists the same productions.
use mathlib.Core.Path.{◌≡◌, refl, subst}
use mathlib.Core.List.{List, ◌∷◌}
use mathlib.Core.Option.{Option, some}
use Prim.Native.Nat.{ℕ}
use native.Mathlib.Omega.{arith}
use lib.ListN.{length, drop}
use Rattle.grammar.specs.Grammar.{Form, Grammar, Column, Rule}
use Rattle.grammar.proofs.Leftmost.{rule_same}
use Rattle.slr.specs.Actions.{Action}
use Rattle.slr.specs.Machine.{Accepting, accepts, shifts, reduces}

-- a reduction leaves the same states
same_states : {g : Grammar} (move : ℕ → ℕ → Option ℕ) (σ : List ℕ) {p q A B k l j i : ℕ} {β γ : Form} {rest others : List ℕ}
    → q ≡ p
    → Rule g p A β
    → Rule g q B γ
    → drop (length β) σ ≡ k ∷ rest
    → drop (length γ) σ ≡ l ∷ others
    → move k A ≡ some j
    → move l B ≡ some i
    → i ∷ l ∷ others ≡ j ∷ k ∷ rest
same_states {g} move σ {B = B} {γ = γ} same r r' d d' m m' =
    let (left, right) = rule_same (subst (λ (o : ℕ). Rule g o B γ) same r') r in
    cc

module _ {g : Grammar} {cell : ℕ → Column → Option Action} {move : ℕ → ℕ → Option ℕ} where
  pub accepting_unique : {σ w ps qs : List ℕ} → Accepting g cell move σ w ps → Accepting g cell move σ w qs → ps ≡ qs
  accepting_unique (accepts e) (accepts f) = refl
  accepting_unique (accepts e) (reduces f r d m b) = let bad : ◌≡◌ {A = ℕ} 0 1 = cc in absurd (omega arith)
  accepting_unique (shifts {s = s} {below = below} {w = w} {ps = ps} e a) (shifts {ps = qs} f b) =
      accepting_unique a (subst (λ (j : ℕ). Accepting g cell move (j ∷ s ∷ below) w qs) (cc) b)
  accepting_unique (shifts e a) (reduces f r d m b) = let bad : ◌≡◌ {A = ℕ} 0 1 = cc in absurd (omega arith)
  accepting_unique (reduces e r d m a) (accepts f) = let bad : ◌≡◌ {A = ℕ} 0 1 = cc in absurd (omega arith)
  accepting_unique (reduces e r d m a) (shifts f b) = let bad : ◌≡◌ {A = ℕ} 0 1 = cc in absurd (omega arith)
  accepting_unique (reduces {s = s} {p = p} {below = below} {w = w} e r d m a) (reduces {p = q} {ps = qs} f r' d' m' b) =
      let same : q ≡ p = cc in
      let rest =
      accepting_unique a
      (subst (λ (σ : List ℕ). Accepting g cell move σ w qs) (same_states move (s ∷ below) same r r' d d' m m') b) in
      cc
