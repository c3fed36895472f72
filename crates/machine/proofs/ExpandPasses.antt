-- Beginnings of leftmost derivations: which stack is left after some productions are used and some tokens written.
use mathlib.Core.Path.{◌≡◌, refl, ap}
use mathlib.Core.List.{List, [], ◌∷◌, ◌++◌}
use Prim.Native.Nat.{ℕ}
use Rattle.grammar.specs.declared.Symbol.TheVariants.{Token, Nonterminal}
use Rattle.grammar.specs.Grammar.{Form, spelled, Grammar, Rule, replace, Derives, itself, step, Leftmost, shift, expand}
use Rattle.grammar.proofs.Derivation.{derives_behind}
use Rattle.grammar.proofs.Leftmost.{rule_same, recast}

-- from the stack α, when the productions qs are used and the tokens u written, the stack is β
pub data Passes (g : Grammar) : Form → List ℕ → List ℕ → Form → Type 0 where
  stay : {α : Form} → Passes g α [] [] α
  write : {t : ℕ} {α β : Form} {qs u : List ℕ} → Passes g α qs u β → Passes g (Token t ∷ α) qs (t ∷ u) β
  use_rule : {p A : ℕ} {α β γ : Form} {qs u : List ℕ} → Rule g p A γ → Passes g (γ ++ α) qs u β → Passes g (Nonterminal A ∷ α) (p ∷ qs) u β

module _ {g : Grammar} where
  -- whoever goes on from β completes a derivation from α
  pub passes_on : {α β : Form} {qs u rs v : List ℕ} → Passes g α qs u β → Leftmost g β rs v → Leftmost g α (qs ++ rs) (u ++ v)
  passes_on stay d = d
  passes_on (write r) d = shift (passes_on r d)
  passes_on (use_rule k r) d = expand k (passes_on r d)

  -- whoever begins with qs from α passes through β
  pub passes_through : {α β : Form} {qs u : List ℕ} → Passes g α qs u β → (rs : List ℕ) {w : List ℕ} → Leftmost g α (qs ++ rs) w → (v : List ℕ) × Leftmost g β rs v × (w ≡ u ++ v)
  passes_through stay rs {w} d = (w, d, refl)
  passes_through (write {t = t} r) rs (shift d) = let (v, d', e) = passes_through r rs d in (v, d', ap (λ x. t ∷ x) e)
  passes_through (use_rule {α = α} k r) rs (expand l d) = passes_through r rs (recast (ap (λ (x : Form). x ++ α) (rule_same l k).1) d)

  pub passes_derives : {α β : Form} {qs u : List ℕ} → Passes g α qs u β → Derives g α (spelled u ++ β)
  passes_derives stay = itself
  passes_derives (write {t = t} r) = derives_behind (Token t ∷ []) (passes_derives r)
  passes_derives (use_rule {α = α} k r) = step (replace [] α k) (passes_derives r)
