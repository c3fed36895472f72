-- The tokens of FIRST, FOLLOW and lookahead are tokens of the grammar, so that no token stands at the end mark's or the empty
-- string's place.
use mathlib.Core.List.{[], ◌∷◌}
use Prim.Native.Nat.{ℕ, ◌<◌}
use Rattle.grammar.specs.declared.Symbol.TheVariants.{Token, Nonterminal}
use Rattle.grammar.specs.Grammar.{Form, Grammar, Column, token, endmark, column, Every, each, Rule, First, starts, Follow, before}
use Rattle.grammar.specs.Grammar.{Lookahead, first, follow, Claims, Known, known_token, WellFormed}
use Rattle.grammar.proofs.Every.{every_right}
use Rattle.grammar.proofs.Useful.{known_derived, sentential_known}

-- a column of the grammar: a token below T, or the end mark
pub data Proper (g : Grammar) : Column → Type 0 where
  below : {t : ℕ} → t < g.tokens → Proper g (token t)
  the_end_mark : Proper g endmark

module _ {g : Grammar} where
  pub proper_token : {t : ℕ} → Proper g (token t) → t < g.tokens
  proper_token (below h) = h

  pub known_head : {t : ℕ} {α : Form} → Every (Known g) (Token t ∷ α) → t < g.tokens
  known_head (each (known_token h) rest) = h

  module _ (well : WellFormed g) where
    pub first_known : {α : Form} {t : ℕ} → Every (Known g) α → First g α (column (token t)) → t < g.tokens
    first_known h (starts γ d) = known_head (known_derived well d h)

    pub follow_known : {A t : ℕ} → Follow g A (column (token t)) → t < g.tokens
    follow_known {A} {t} (before u v s) = known_head (every_right (Nonterminal A ∷ []) (Token t ∷ v) (every_right u (Nonterminal A ∷ (Token t ∷ v)) (sentential_known well s)))

    pub lookahead_proper : {p A : ℕ} {α : Form} → Rule g p A α → (c : Column) → Lookahead g A α (column c) → Proper g c
    lookahead_proper r (token t) (first f) = below (first_known (well.right_known r) f)
    lookahead_proper r (token t) (follow v f) = below (follow_known f)
    lookahead_proper r endmark l = the_end_mark

    pub claims_row : {A : ℕ} {c : Column} {p : ℕ} → Claims g A c p → A < g.nonterminals
    claims_row k = well.left_known k.rule

    pub claims_proper : {A : ℕ} {c : Column} {p : ℕ} → Claims g A c p → Proper g c
    claims_proper {c = c} k = lookahead_proper k.rule c k.ahead
