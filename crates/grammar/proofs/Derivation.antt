-- Derivations: in a context, one after another, and side by side.
use mathlib.Core.List.{[], ◌∷◌, ◌++◌, append_assoc, append-nil}
use Prim.Native.Nat.{ℕ}
use Rattle.grammar.specs.declared.Symbol.TheVariants.{Nonterminal}
use Rattle.grammar.specs.Grammar.{Form, Grammar, Rule, Step, replace, Derives, itself, step}

module _ {g : Grammar} where
  pub derives_trans : {α β γ : Form} → Derives g α β → Derives g β γ → Derives g α γ
  derives_trans itself e = e
  derives_trans (step s d) e = step s (derives_trans d e)

  step_in : (x y : Form) {α β : Form} → Step g α β → Step g (x ++ (α ++ y)) (x ++ (β ++ y))
  step_in x y (replace u v {A = A} {β = β} r) = simp append_assoc (simp append_assoc at (replace (x ++ u) (v ++ y) r))

  -- a derivation goes on inside any context
  pub derives_in : (x y : Form) {α β : Form} → Derives g α β → Derives g (x ++ (α ++ y)) (x ++ (β ++ y))
  derives_in x y itself = itself
  derives_in x y (step s d) = step (step_in x y s) (derives_in x y d)

  -- with something behind it
  pub derives_before : (y : Form) {α β : Form} → Derives g α β → Derives g (α ++ y) (β ++ y)
  derives_before y d = derives_in [] y d

  -- with something in front
  pub derives_behind : (x : Form) {α β : Form} → Derives g α β → Derives g (x ++ α) (x ++ β)
  derives_behind x {α} {β} d = simp append-nil at (derives_in x [] d)

  -- a rule is a derivation of one step
  pub derives_rule : {p A : ℕ} {β : Form} → Rule g p A β → Derives g (Nonterminal A ∷ []) β
  derives_rule {β = β} r = step (rw append-nil at (replace [] [] r)) itself

  -- two derivations side by side
  pub derives_both : {α β γ δ : Form} → Derives g α β → Derives g γ δ → Derives g (α ++ γ) (β ++ δ)
  derives_both {β = β} {γ = γ} d e = derives_trans (derives_before γ d) (derives_behind β e)
