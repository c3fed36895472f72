-- What a form can begin with, as a number, going on with another set where all of it vanishes; how many of its leading
-- symbols do; and what the passes that work out FIRST carry. Document 01, "Sets and table": FIRST and the join of its
-- symbols' sets; document 02, W5.
use Rattle.std.specs.Prelude.{◌≡◌, true, false, List, [], ◌∷◌, map, ℕ, suc, ◌<◌, ltb, get_or}
use Rattle.grammar.specs.declared.Symbol.{Symbol}
use Rattle.grammar.specs.declared.Symbol.TheVariants.{Token, Nonterminal}
use Rattle.grammar.specs.Grammar.{Form, Grammar, Member, Rule}
use Rattle.sets.specs.Sets.{width, empty_string, member, Subset, only, joined}
use Rattle.sets.specs.Calls.{number}
use Rattle.reader.specs.Fields.{symbol_of_byte}
use Rattle.first.specs.declared.forms.Trail.{Trail}
use Rattle.first.specs.Numbers.{At, IsSet, FirstOfNonterminal}

-- the set of a token alone; a number past the width has no place in a set
unfoldable pub token_set : ℕ → ℕ
token_set t = elim (ltb t width) [ true ↦ only t | false ↦ 0 ]

-- FIRST of one symbol, with FIRST of each nonterminal in fs
unfoldable pub symbol_set : List ℕ → Symbol → ℕ
symbol_set fs (Token t) = token_set t
symbol_set fs (Nonterminal A) = get_or fs A 0

-- the join of the sets of a form's symbols, and of k behind them
unfoldable pub trail : List ℕ → ℕ → Form → ℕ
trail fs k [] = k
trail fs k (s ∷ α) = joined empty_string (symbol_set fs s) (trail fs k α)

-- how many leading symbols of a form have sets with the empty string
unfoldable pub vanishing : List ℕ → Form → ℕ
vanishing fs [] = 0
vanishing fs (s ∷ α) = elim (member empty_string (symbol_set fs s)) [ true ↦ suc (vanishing fs α) | false ↦ 0 ]

-- both of a form, as they are worked out
pub record Trailed (fs : List ℕ) (k : ℕ) (α : Form) (r : Trail) : Type 0 where
  pub holds : number r.set ≡ trail fs k α
  pub leading : r.vanishing ≡ vanishing fs α

-- the form that bytes stand for
abbrev pub form_of : List ℕ → Form
form_of bytes = map symbol_of_byte bytes

-- every member of the number is in the set
pub record Inside (P : Member → Type 0) (x : ℕ) : Type 0 where
  pub reason : (k : ℕ) → member k x ≡ true → At P k

-- the number of each nonterminal lies in its set: what has been found so far is right
pub record Sound (g : Grammar) (P : ℕ → Member → Type 0) (cells : List ℕ) : Type 0 where
  pub each : (A : ℕ) → A < g.nonterminals → Inside (P A) (get_or cells A 0)

abbrev pub FirstSound : Grammar → List ℕ → Type 0
FirstSound g fs = Sound g (FirstOfNonterminal g) fs

-- no set has lost a member
pub record Grown (before after : List ℕ) : Type 0 where
  pub keeps : (A : ℕ) → Subset (get_or before A 0) (get_or after A 0)

-- cell A is the set of nonterminal A; cells past the last nonterminal do not matter
pub record SetsAt (g : Grammar) (P : ℕ → Member → Type 0) (cells : List ℕ) : Type 0 where
  pub each : (A : ℕ) → A < g.nonterminals → IsSet (get_or cells A 0) (P A)

abbrev pub FirstAt : Grammar → List ℕ → Type 0
FirstAt g fs = SetsAt g (FirstOfNonterminal g) fs

-- no production adds to FIRST
pub record FirstClosed (g : Grammar) (fs : List ℕ) : Type 0 where
  pub closed : {p A : ℕ} {β : Form} → Rule g p A β → Subset (trail fs (only empty_string) β) (get_or fs A 0)
