-- The textbook: grammars, derivations, FIRST, FOLLOW, lookahead, cells and conflicts, useful symbols, all by
-- derivation.
-- Document 01, "The book", "Refusals" (6 and 8) and "Sets and table". Definitions only.
use Rattle.std.specs.Prelude.{◌≡◌, ◌≢◌, List, [], ◌∷◌, ◌++◌, map, ℕ, ◌<◌}
use Rattle.std.proofs.Math.Option.{Option, some, none}
use Rattle.std.proofs.Math.ListN.{get_elem?}
use Rattle.grammar.specs.declared.Symbol.{Symbol}
use Rattle.grammar.specs.declared.Symbol.TheVariants.{Token, Nonterminal}

-- a string of symbols: a right side, or a sentential form
abbrev pub Form : Type 0
Form = List Symbol

-- a token string as a form
abbrev pub spelled : List ℕ → Form
spelled w = map Token w

pub record Production : Type 0 where
  pub left : ℕ
  pub right : Form

-- T tokens, N nonterminals, the start symbol, and the productions by number
pub record Grammar : Type 0 where
  pub tokens : ℕ
  pub nonterminals : ℕ
  pub start : ℕ
  pub productions : List Production

-- a column of the table: a token, or the end mark
pub data Column : Type 0 where
  token : ℕ → Column
  endmark : Column

-- a member of a set: a token, the end mark, or the empty string
pub data Member : Type 0 where
  column : Column → Member
  empty : Member

-- every element of a list satisfies P
pub data Every {A : Type 0} (P : A → Type 0) : List A → Type 0 where
  nothing : Every P []
  each : {x : A} {xs : List A} → P x → Every P xs → Every P (x ∷ xs)

module _ (g : Grammar) where
  -- production p is A → β
  pub record Rule (p A : ℕ) (β : Form) : Type 0 where
    pub at : get_elem? g.productions p ≡ some (record { left = A; right = β })

  -- one nonterminal of a form is replaced by a right side of it
  pub data Step : Form → Form → Type 0 where
    replace : (u v : Form) {p A : ℕ} {β : Form} → Rule p A β → Step (u ++ (Nonterminal A ∷ v)) (u ++ (β ++ v))

  pub data Derives : Form → Form → Type 0 where
    itself : {α : Form} → Derives α α
    step : {α β γ : Form} → Step α β → Derives β γ → Derives α γ

  abbrev pub Sentential : Form → Type 0
  Sentential α = Derives (Nonterminal g.start ∷ []) α

  -- the start symbol derives the token string
  abbrev pub Derivable : List ℕ → Type 0
  Derivable w = Sentential (spelled w)

  -- the first nonterminal of a form is replaced by production p
  pub data LeftmostStep (p : ℕ) : Form → Form → Type 0 where
    leftmost : (u : List ℕ) (v : Form) {A : ℕ} {β : Form}
        → Rule p A β
        → LeftmostStep p (spelled u ++ (Nonterminal A ∷ v)) (spelled u ++ (β ++ v))

  -- leftmost steps, with the list of their productions
  pub data LeftmostSteps : Form → List ℕ → Form → Type 0 where
    stay : {α : Form} → LeftmostSteps α [] α
    next : {p : ℕ} {α β γ : Form} {ps : List ℕ} → LeftmostStep p α β → LeftmostSteps β ps γ → LeftmostSteps α (p ∷ ps) γ

  -- the productions ps, applied leftmost from α, give the token string w
  pub data Leftmost : Form → List ℕ → List ℕ → Type 0 where
    done : Leftmost [] [] []
    shift : {t : ℕ} {α : Form} {ps w : List ℕ} → Leftmost α ps w → Leftmost (Token t ∷ α) ps (t ∷ w)
    expand : {p A : ℕ} {α β : Form} {ps w : List ℕ}
        → Rule p A β
        → Leftmost (β ++ α) ps w
        → Leftmost (Nonterminal A ∷ α) (p ∷ ps) w

  -- a complete list: it derives w from the start symbol
  abbrev pub Complete : List ℕ → List ℕ → Type 0
  Complete ps w = Leftmost (Nonterminal g.start ∷ []) ps w

  -- FIRST of α holds t if α derives something that starts with t, and the empty string if α derives it
  pub data First (α : Form) : Member → Type 0 where
    starts : {t : ℕ} (γ : Form) → Derives α (Token t ∷ γ) → First α (column (token t))
    vanishes : Derives α [] → First α empty

  -- FOLLOW of A holds t if some sentential form has t right after A, and the end mark if one ends in A
  pub data Follow (A : ℕ) : Member → Type 0 where
    before : {t : ℕ} (u v : Form) → Sentential (u ++ (Nonterminal A ∷ (Token t ∷ v))) → Follow A (column (token t))
    last : (u : Form) → Sentential (u ++ (Nonterminal A ∷ [])) → Follow A (column endmark)

  -- the lookahead of A → α: FIRST of α without the empty string, with FOLLOW of A added if α can vanish
  pub data Lookahead (A : ℕ) (α : Form) : Member → Type 0 where
    first : {c : Column} → First α (column c) → Lookahead A α (column c)
    follow : {m : Member} → First α empty → Follow A m → Lookahead A α m

  -- production p claims the cell of row A and column c
  pub record Claims (A : ℕ) (c : Column) (p : ℕ) : Type 0 where
    pub right : Form
    pub rule : Rule p A right
    pub ahead : Lookahead A right (column c)

  -- two productions claim one cell
  pub record Conflict : Type 0 where
    pub row : ℕ
    pub col : Column
    pub one : ℕ
    pub other : ℕ
    pub distinct : one ≢ other
    pub claims_one : Claims row col one
    pub claims_other : Claims row col other

  -- a cell holds the only production of its row that claims it, else nothing
  pub data Cell (A : ℕ) (c : Column) : Option ℕ → Type 0 where
    only : {p : ℕ} → Claims A c p → ((q : ℕ) → Claims A c q → q ≡ p) → Cell A c (some p)
    vacant : ((q : ℕ) → ¬ Claims A c q) → Cell A c none

  -- A derives a token string
  pub record Productive (A : ℕ) : Type 0 where
    pub string : List ℕ
    pub derives : Derives (Nonterminal A ∷ []) (spelled string)

  -- A occurs in a sentential form
  pub record Reachable (A : ℕ) : Type 0 where
    pub left : Form
    pub right : Form
    pub occurs : Sentential (left ++ (Nonterminal A ∷ right))

  -- A occurs in a derivation of a token string from the start symbol
  pub record Useful (A : ℕ) : Type 0 where
    pub left : Form
    pub right : Form
    pub string : List ℕ
    pub occurs : Sentential (left ++ (Nonterminal A ∷ right))
    pub ends : Derives (left ++ (Nonterminal A ∷ right)) (spelled string)

  -- a token below T, or a nonterminal below N
  pub data Known : Symbol → Type 0 where
    known_token : {t : ℕ} → t < g.tokens → Known (Token t)
    known_nonterminal : {A : ℕ} → A < g.nonterminals → Known (Nonterminal A)

  -- start, left sides and right sides are of the grammar
  pub record WellFormed : Type 0 where
    pub start_known : g.start < g.nonterminals
    pub left_known : {p A : ℕ} {β : Form} → Rule p A β → A < g.nonterminals
    pub right_known : {p A : ℕ} {β : Form} → Rule p A β → Every Known β
