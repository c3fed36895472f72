-- What a form can begin with, read off a family of sets: the join of its symbols' sets, going on with K where all of them vanish.
-- In a family the end mark stands for the empty string.
use mathlib.Core.Path.{◌≡◌, refl, ap}
use mathlib.Core.List.{[], ◌∷◌, ◌++◌}
use Prim.Native.Nat.{ℕ}
use Rattle.grammar.specs.declared.Symbol.{Symbol}
use Rattle.grammar.specs.declared.Symbol.TheVariants.{Token, Nonterminal}
use Rattle.grammar.specs.Grammar.{Form, Column, token, endmark}
pub use Rattle.grammar.specs.Occurrence.{Behind, first, later}

abbrev pub Family : Type 1
Family = ℕ → Column → Type 0

pub data End : Column → Type 0 where
  ended : End endmark

pub data Join (F : Family) (K : Column → Type 0) : Form → Column → Type 0 where
  over : {c : Column} → K c → Join F K [] c
  here : {t : ℕ} {α : Form} → Join F K (Token t ∷ α) (token t)
  begins : {A t : ℕ} {α : Form} → F A (token t) → Join F K (Nonterminal A ∷ α) (token t)
  past : {A : ℕ} {α : Form} {c : Column} → F A endmark → Join F K α c → Join F K (Nonterminal A ∷ α) c

-- a token of α itself, or α vanishes and K has it
pub data Cases (F : Family) (K : Column → Type 0) (α : Form) : Column → Type 0 where
  own : {t : ℕ} → Join F End α (token t) → Cases F K α (token t)
  beyond : {c : Column} → Join F End α endmark → K c → Cases F K α c

module _ {F : Family} where
  pub join_map : {G : Family} {K L : Column → Type 0} → ((A : ℕ) (c : Column) → F A c → G A c) → ((c : Column) → K c → L c) → {α : Form} {c : Column} → Join F K α c → Join G L α c
  join_map f k (over {c = c} h) = over (k c h)
  join_map f k here = here
  join_map f k (begins {A = A} {t = t} h) = begins (f A (token t) h)
  join_map f k (past {A = A} h j) = past (f A endmark h) (join_map f k j)

  pub join_in : {K : Column → Type 0} (α β : Form) {c : Column} → Join F (Join F K β) α c → Join F K (α ++ β) c
  join_in [] β (over j) = j
  join_in (Token t ∷ α) β here = here
  join_in (Nonterminal A ∷ α) β (begins h) = begins h
  join_in (Nonterminal A ∷ α) β (past h j) = past h (join_in α β j)

  pub join_out : {K : Column → Type 0} (α β : Form) {c : Column} → Join F K (α ++ β) c → Join F (Join F K β) α c
  join_out [] β j = over j
  join_out (Token t ∷ α) β here = here
  join_out (Nonterminal A ∷ α) β (begins h) = begins h
  join_out (Nonterminal A ∷ α) β (past h j) = past h (join_out α β j)

  past_cases : {K : Column → Type 0} {A : ℕ} {α : Form} {c : Column} → F A endmark → Cases F K α c → Cases F K (Nonterminal A ∷ α) c
  past_cases h (own j) = own (past h j)
  past_cases h (beyond j k) = beyond (past h j) k

  pub join_cases : {K : Column → Type 0} {α : Form} {c : Column} → Join F K α c → Cases F K α c
  join_cases (over k) = beyond (over ended) k
  join_cases here = own here
  join_cases (begins h) = own (begins h)
  join_cases (past h j) = past_cases h (join_cases j)

  pub join_own : {K : Column → Type 0} {α : Form} {t : ℕ} → Join F End α (token t) → Join F K α (token t)
  join_own {K = K} {t = t} (over x) = elim x [ ]
  join_own here = here
  join_own (begins h) = begins h
  join_own (past h j) = past h (join_own j)

  pub join_beyond : {K : Column → Type 0} {α : Form} {c : Column} → Join F End α endmark → K c → Join F K α c
  join_beyond (over e) k = over k
  join_beyond (past h j) k = past h (join_beyond j k)

pub behind_split : {A : ℕ} {v α : Form} → Behind A v α → (u : Form) × (α ≡ u ++ (Nonterminal A ∷ v))
behind_split first = ([], refl)
behind_split (later {s = s} b) = (s ∷ (behind_split b).0, ap (λ x. s ∷ x) (behind_split b).1)

pub behind_at : (u : Form) {A : ℕ} {v : Form} → Behind A v (u ++ (Nonterminal A ∷ v))
behind_at [] = first
behind_at (s ∷ u) = later (behind_at u)

pub behind_left : {A : ℕ} {v α : Form} (β : Form) → Behind A v α → Behind A (v ++ β) (α ++ β)
behind_left β first = first
behind_left β (later b) = later (behind_left β b)

pub behind_right : {A : ℕ} {v β : Form} (α : Form) → Behind A v β → Behind A v (α ++ β)
behind_right [] b = b
behind_right (s ∷ α) b = later (behind_right α b)

-- where in α ++ β an occurrence stands
pub data Within (A : ℕ) (w α β : Form) : Type 0 where
  left : (v : Form) → Behind A v α → w ≡ v ++ β → Within A w α β
  right : Behind A w β → Within A w α β

shifted : {A : ℕ} {s : Symbol} {w α β : Form} → Within A w α β → Within A w (s ∷ α) β
shifted (left v b e) = left v (later b) e
shifted (right b) = right b

pub behind_append : {A : ℕ} {w : Form} (α β : Form) → Behind A w (α ++ β) → Within A w α β
behind_append [] β b = right b
behind_append (s ∷ α) β first = left α first refl
behind_append (s ∷ α) β (later b) = shifted (behind_append α β b)
