-- Sets of a grammar as numbers: bit t for token t, then the end mark's and the empty string's places.
-- Document 01, "Sets and table".
use Rattle.std.specs.Prelude.{◌≡◌, List, [], ◌∷◌, ℕ, ◌≤◌, ◌<◌, length, get_or}
use Rattle.grammar.specs.declared.Symbol.TheVariants.{Nonterminal}
use Rattle.grammar.specs.Grammar.{Grammar, token, endmark, Member, column, empty, First}
use Rattle.sets.specs.Sets.{width, end_mark, empty_string, Exactly}
use Rattle.answers.specs.Limits.{most_nonterminals}

-- the place of a member
abbrev pub place_of : Member → ℕ
place_of (column (token t)) = t
place_of (column endmark) = end_mark
place_of empty = empty_string

-- some member at this place is in the set
pub record At (P : Member → Type 0) (k : ℕ) : Type 0 where
  pub member : Member
  pub place : place_of member ≡ k
  pub in_set : P member

-- the number has the bits of the set's members, and no other
abbrev pub IsSet : ℕ → (Member → Type 0) → Type 0
IsSet x P = Exactly width x (At P)

-- FIRST of a nonterminal
abbrev pub FirstOfNonterminal : Grammar → ℕ → Member → Type 0
FirstOfNonterminal g A = First g (Nonterminal A ∷ [])

-- a set for each nonterminal, in order
pub record Sets (g : Grammar) (P : ℕ → Member → Type 0) (cells : List ℕ) : Type 0 where
  pub size : length cells ≡ g.nonterminals
  pub each : (A : ℕ) → A < g.nonterminals → IsSet (get_or cells A 0) (P A)

abbrev pub FirstSets : Grammar → List ℕ → Type 0
FirstSets g cells = Sets g (FirstOfNonterminal g) cells

-- and in the cells beyond them, up to the most that a grammar has, no member
pub record FamilyOf (g : Grammar) (P : ℕ → Member → Type 0) (cells : List ℕ) : Type 0 where
  pub sized : length cells ≡ most_nonterminals
  pub each : (A : ℕ) → A < g.nonterminals → IsSet (get_or cells A 0) (P A)
  pub beyond : (A : ℕ) → g.nonterminals ≤ A → get_or cells A 0 ≡ 0

abbrev pub FirstFamily : Grammar → List ℕ → Type 0
FirstFamily g cells = FamilyOf g (FirstOfNonterminal g) cells
