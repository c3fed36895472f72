-- The LL(1) machine with room without end, and the place at which it stops.
-- Document 01, "Running and expanding", and demand 3. Definitions only.
use Rattle.std.specs.Prelude.{◌≡◌, ◌≢◌, List, [], ◌∷◌, ◌++◌, ℕ, ◌≤◌, length, take}
use Rattle.std.proofs.Math.Option.{Option, some, none}
use Rattle.grammar.specs.declared.Symbol.TheVariants.{Token, Nonterminal}
use Rattle.grammar.specs.Grammar.{Form, Grammar, Column, token, endmark, Member, column, Rule, Derivable, Cell}

-- the column of what is unread: its first token, or the end mark
abbrev pub front : List ℕ → Column
front [] = endmark
front (t ∷ w) = token t

module _ (g : Grammar) where
  -- each cell holds the only production that claims it
  pub record Exact (cell : ℕ → Column → Option ℕ) : Type 0 where
    pub cells : (A : ℕ) (c : Column) → Cell g A c (cell A c)

  module _ (cell : ℕ → Column → Option ℕ) where
    -- with α on the stack and u ++ z unread, the machine reads u, lists ps and comes to the stack β with z unread
    pub data Run (z : List ℕ) : Form → List ℕ → List ℕ → Form → Type 0 where
      here : {α : Form} → Run z α [] [] α
      match : {t : ℕ} {α β : Form} {u ps : List ℕ} → Run z α u ps β → Run z (Token t ∷ α) (t ∷ u) ps β
      expand : {p A : ℕ} {α β γ : Form} {u ps : List ℕ}
          → cell A (front (u ++ z)) ≡ some p
          → Rule g p A γ
          → Run z (γ ++ α) u ps β
          → Run z (Nonterminal A ∷ α) u (p ∷ ps) β

    -- the whole string is read and the stack is empty
    abbrev pub Accepts : List ℕ → List ℕ → Type 0
    Accepts w ps = Run [] (Nonterminal g.start ∷ []) w ps []

    -- it stops: tokens are left on an empty stack, the token on top is not next, or the cell is vacant
    pub data Stopped : Form → List ℕ → Type 0 where
      left_over : {t : ℕ} {z : List ℕ} → Stopped [] (t ∷ z)
      unmatched : {t : ℕ} {α : Form} {z : List ℕ} → front z ≢ token t → Stopped (Token t ∷ α) z
      vacant : {A : ℕ} {α : Form} {z : List ℕ} → cell A (front z) ≡ none → Stopped (Nonterminal A ∷ α) z

    -- from the stack α it reads all of w and ends with an empty stack, or it stops
    pub data Halted (α : Form) (w : List ℕ) : Type 0 where
      accepted : {ps : List ℕ} → Run [] α w ps [] → Halted α w
      stopped : {ps : List ℕ} {β : Form} (u z : List ℕ) → w ≡ u ++ z → Run z α u ps β → Stopped β z → Halted α w

  -- u begins some derivable string
  pub record Begins (u : List ℕ) : Type 0 where
    pub rest : List ℕ
    pub derivable : Derivable g (u ++ rest)

  -- what can come after u: a token that with u begins some derivable string, and the end mark where u is derivable
  pub data Continues (u : List ℕ) : Member → Type 0 where
    may_come : {t : ℕ} → Begins (u ++ (t ∷ [])) → Continues u (column (token t))
    may_end : Derivable g u → Continues u (column endmark)

  -- k is the length of the longest beginning of w that some derivable string shares
  pub record Longest (w : List ℕ) (k : ℕ) : Type 0 where
    pub inside : k ≤ length w
    pub begun : Begins (take k w)
    pub longest : (j : ℕ) → j ≤ length w → Begins (take j w) → j ≤ k
