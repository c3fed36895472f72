-- Rightmost derivations, and how many states are held while one is run backwards.
-- Source document 000, 2.3.3 (definition 2.9) and 3.4.1; document 02, W12. Definitions only.
use Rattle.std.specs.Prelude.{List, [], ◌∷◌, ◌++◌, ℕ, suc, max}
use Rattle.grammar.specs.declared.Symbol.TheVariants.{Token, Nonterminal}
use Rattle.grammar.specs.Grammar.{Form, spelled, Grammar, Rule}

module _ (g : Grammar) where
  -- the last nonterminal of a form is replaced by production p: only tokens stand behind it
  pub data RightmostStep (p : ℕ) : Form → Form → Type 0 where
    rightmost : (u : Form) (v : List ℕ) {A : ℕ} {β : Form}
        → Rule g p A β
        → RightmostStep p (u ++ (Nonterminal A ∷ spelled v)) (u ++ (β ++ spelled v))

  -- rightmost steps, with the list of their productions
  pub data RightmostSteps : Form → List ℕ → Form → Type 0 where
    stay : {α : Form} → RightmostSteps α [] α
    next : {p : ℕ} {α β γ : Form} {ps : List ℕ}
        → RightmostStep p α β
        → RightmostSteps β ps γ
        → RightmostSteps α (p ∷ ps) γ

  -- α gives the token string w by rightmost steps, and ps, read backwards, is the list of their productions: nothing;
  -- a token in front; or a nonterminal in front, whose right side gives what the string begins with
  pub data Rightmost : Form → List ℕ → List ℕ → Type 0 where
    done : Rightmost [] [] []
    with_token : {t : ℕ} {α : Form} {ps w : List ℕ} → Rightmost α ps w → Rightmost (Token t ∷ α) ps (t ∷ w)
    with_nonterminal : {p A : ℕ} {α β : Form} {qs ps v w : List ℕ}
        → Rule g p A β
        → Rightmost β qs v
        → Rightmost α ps w
        → Rightmost (Nonterminal A ∷ α) (qs ++ (p ∷ ps)) (v ++ w)

  -- ps, read backwards, derives w from the start symbol
  abbrev pub Reduces : List ℕ → List ℕ → Type 0
  Reduces ps w = Rightmost (Nonterminal g.start ∷ []) ps w

-- the most states held while a derivation is run backwards above k states: each symbol that is read or made holds one
-- more, and the right side of a nonterminal is run where that nonterminal will stand
unfoldable pub states_held : {g : Grammar} {α : Form} {ps w : List ℕ} → ℕ → Rightmost g α ps w → ℕ
states_held k done = k
states_held k (with_token d) = states_held (suc k) d
states_held k (with_nonterminal r e d) = max (states_held k e) (states_held (suc k) d)
