-- What the machine has matched, what it has used since, and the tokens that can come then.
-- Request W2, "The hint of a syntax refusal is exact".
use Rattle.std.specs.Prelude.{◌≡◌, List, [], ◌∷◌, ◌++◌, ℕ}
use Rattle.std.proofs.Math.Option.{Option, some}
use Rattle.grammar.specs.declared.Symbol.TheVariants.{Token, Nonterminal}
use Rattle.grammar.specs.Grammar.{Form, Grammar, Column, token, endmark, Member, column, empty, Rule, First}

-- in a family the end mark stands for the empty string
abbrev pub merged : Column → Member
merged (token t) = column (token t)
merged endmark = empty

module _ (g : Grammar) (cell : ℕ → Column → Option ℕ) where
  -- from the stack α the machine uses ps on the column of t and matches it, and comes to β
  pub data Consumes (t : ℕ) : Form → List ℕ → Form → Type 0 where
    matched : {α : Form} → Consumes t (Token t ∷ α) [] α
    used : {p A : ℕ} {α β γ : Form} {ps : List ℕ}
        → cell A (token t) ≡ some p
        → Rule g p A γ
        → Consumes t (γ ++ α) ps β
        → Consumes t (Nonterminal A ∷ α) (p ∷ ps) β

  -- so with each token of u, one after the other: it ends right after a match, or where it began
  pub data ConsumesAll : Form → List ℕ → List ℕ → Form → Type 0 where
    none_yet : {α : Form} → ConsumesAll α [] [] α
    one_more : {t : ℕ} {α β γ : Form} {u ps qs : List ℕ}
        → Consumes t α ps β
        → ConsumesAll β u qs γ
        → ConsumesAll α (t ∷ u) (ps ++ qs) γ

-- a token of FIRST of A
pub data OwnToken (g : Grammar) (A : ℕ) : Column → Type 0 where
  own_token : {t : ℕ} → First g (Nonterminal A ∷ []) (column (token t)) → OwnToken g A (token t)

-- a token of FIRST of the left side of a production of the list
pub data Seen (g : Grammar) : List ℕ → Column → Type 0 where
  now_seen : {p A : ℕ} {γ : Form} {ps : List ℕ} {c : Column} → Rule g p A γ → OwnToken g A c → Seen g (p ∷ ps) c
  later_seen : {p : ℕ} {ps : List ℕ} {c : Column} → Seen g ps c → Seen g (p ∷ ps) c
