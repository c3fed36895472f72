-- What the machines take from a grammar, the greatest height that the stack reaches along a derivation, and the room
-- that is always enough.
-- Document 01, "Running and expanding", and the room of demand 3; request W11.
use Rattle.std.specs.Prelude.{Bool, false, List, [], ◌++◌, ℕ, suc, ◌+◌, ◌*◌, ◌≤◌, max, eqb, length, take}
use Rattle.std.proofs.Math.Option.{some, none}
use Rattle.std.proofs.Math.ListN.{get_elem?}
use Rattle.grammar.specs.Grammar.{Form, Grammar, Leftmost, done, shift, expand, Complete}

-- the right side of production p
unfoldable pub right_of : Grammar → ℕ → Form
right_of g p = elim (get_elem? g.productions p) [ none ↦ [] | some r ↦ r.right ]

-- whether p is a production of A
unfoldable pub is_of : Grammar → ℕ → ℕ → Bool
is_of g A p = elim (get_elem? g.productions p) [ none ↦ false | some r ↦ eqb r.left A ]

-- the greatest height of the stack while the derivation is followed, the stack that it starts with included
unfoldable pub peak : {g : Grammar} {α : Form} {ps w : List ℕ} → Leftmost g α ps w → ℕ
peak done = 0
peak (shift {α = α} d) = max (suc (length α)) (peak d)
peak (expand {α = α} r d) = max (suc (length α)) (peak d)

-- the list begins some complete list
pub record BeginsList (g : Grammar) (ps : List ℕ) : Type 0 where
  pub rest : List ℕ
  pub string : List ℕ
  pub complete : Complete g (ps ++ rest) string

-- k is the length of the longest beginning of the list that some complete list shares
pub record LongestList (g : Grammar) (ps : List ℕ) (k : ℕ) : Type 0 where
  pub inside : k ≤ length ps
  pub begun : BeginsList g (take k ps)
  pub longest : (j : ℕ) → j ≤ length ps → BeginsList g (take j ps) → j ≤ k

-- the room that is always enough for n tokens where no right side is empty: for each token a list cell for every
-- nonterminal; and a stack cell for the start symbol and 15 for each list cell, since 16 symbols may replace one
abbrev pub list_cells : Grammar → ℕ → ℕ
list_cells g n = g.nonterminals * n

abbrev pub stack_cells : Grammar → ℕ → ℕ
stack_cells g n = 1 + 15 * (g.nonterminals * n)
