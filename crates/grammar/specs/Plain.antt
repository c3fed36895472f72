-- The plain profile: every right side starts with a token, and no two productions of one nonterminal start with the
-- same one; and the production that a grammar breaks it by.
-- Request W14, "The plain profile". Definitions only.
use Rattle.std.specs.Prelude.{◌≡◌, [], ◌∷◌, ℕ, ◌<◌}
use Rattle.grammar.specs.declared.Symbol.TheVariants.{Token, Nonterminal}
use Rattle.grammar.specs.Grammar.{Form, Grammar, Rule}

module _ (g : Grammar) where
  -- production p breaks the profile: its right side is empty, or starts with a nonterminal, or starts with the token
  -- that a lower production of the same left side starts with
  pub data Breaks (p : ℕ) : Type 0 where
    bare : {A : ℕ} → Rule g p A [] → Breaks p
    named : {A B : ℕ} {α : Form} → Rule g p A (Nonterminal B ∷ α) → Breaks p
    again : {q A t : ℕ} {α β : Form} → q < p → Rule g q A (Token t ∷ α) → Rule g p A (Token t ∷ β) → Breaks p

  -- every right side starts with a token, and a left side and that token are of one production only
  pub record Plain : Type 0 where
    pub headed : {p A : ℕ} {β : Form} → Rule g p A β → (t : ℕ) × (γ : Form) × (β ≡ Token t ∷ γ)
    pub apart : {p q A t : ℕ} {α β : Form} → Rule g p A (Token t ∷ α) → Rule g q A (Token t ∷ β) → p ≡ q

  -- production p breaks the profile, and no lower one does
  pub record LowestBreak (p : ℕ) : Type 0 where
    pub breaks : Breaks p
    pub earlier : (q : ℕ) → q < p → ¬ Breaks q
