-- Useful symbols: productive, then reachable through productive productions only; what is sound and closed under these is exact.
use mathlib.Core.Path.{◌≡◌, refl}
use mathlib.Core.Logic.{◌↔◌}
use mathlib.Core.List.{List, [], ◌∷◌, ◌++◌, append_assoc}
use Prim.Native.Nat.{ℕ, ◌<◌}
use Rattle.grammar.specs.declared.Symbol.{Symbol}
use Rattle.grammar.specs.declared.Symbol.TheVariants.{Token, Nonterminal}
use Rattle.grammar.specs.Grammar.{Form, spelled, Grammar, Every, nothing, each, Rule, replace, Derives, itself, step, Sentential, Leftmost, done, shift, expand, Productive, Reachable, Useful, Known, known_nonterminal, WellFormed}
use Rattle.grammar.proofs.Derivation.{derives_trans, derives_both, derives_rule}
use Rattle.grammar.proofs.Leftmost.{Split, leftmost_split, leftmost_derives, derives_leftmost, spelled_append}
use Rattle.grammar.proofs.Every.{every_append, every_left, every_right}
use Rattle.grammar.proofs.Join.{Behind, first, later, behind_split}

-- a symbol of which nothing is asked if it is a token, and M if it is a nonterminal
pub data Named (M : ℕ → Type 0) : Symbol → Type 0 where
  a_token : {t : ℕ} → Named M (Token t)
  named : {A : ℕ} → M A → Named M (Nonterminal A)

-- every nonterminal of the form is in M
abbrev pub Names : (ℕ → Type 0) → Form → Type 0
Names M α = Every (Named M) α

pub behind_named : {M : ℕ → Type 0} {A : ℕ} {v α : Form} → Behind A v α → Names M α → M A
behind_named first (each (named m) h) = m
behind_named (later b) (each n h) = behind_named b h

-- an occurrence of each nonterminal
pub names_from : {M : ℕ → Type 0} (α : Form) → ((A : ℕ) (v : Form) → Behind A v α → M A) → Names M α
names_from [] f = nothing
names_from (Token t ∷ α) f = each a_token (names_from α (λ A v b. f A v (later b)))
names_from (Nonterminal A ∷ α) f = each (named (f A α first)) (names_from α (λ B v b. f B v (later b)))

-- the form derives some token string
pub record Ends (g : Grammar) (α : Form) : Type 0 where
  pub string : List ℕ
  pub derives : Derives g α (spelled string)

module _ (g : Grammar) where
  pub record ProductiveClosed (M : ℕ → Type 0) : Type 0 where
    pub closed : {p A : ℕ} {β : Form} → Rule g p A β → Names M β → M A

  -- closed under productive productions
  pub record UsefulClosed (U : ℕ → Type 0) : Type 0 where
    pub at_start : U g.start
    pub closed : {p A B : ℕ} {β v : Form} → U A → Rule g p A β → Names (Productive g) β → Behind B v β → U B

module _ {g : Grammar} where
  ends_append : {α β : Form} → Ends g α → Ends g β → Ends g (α ++ β)
  ends_append a b = record { string = a.string ++ b.string; derives = rw spelled_append (derives_both a.derives b.derives) }

  cut : (α β : Form) (e : Ends g (α ++ β)) → Split g α β (derives_leftmost e.string e.derives).0 e.string
  cut α β e = leftmost_split (derives_leftmost e.string e.derives).1 α β refl

  pub ends_left : (α β : Form) → Ends g (α ++ β) → Ends g α
  ends_left α β e = record { string = (cut α β e).string_left; derives = leftmost_derives (cut α β e).left }

  pub ends_right : (α β : Form) → Ends g (α ++ β) → Ends g β
  ends_right α β e = record { string = (cut α β e).string_right; derives = leftmost_derives (cut α β e).right }

  ends_before : {α β : Form} → Derives g α β → Ends g β → Ends g α
  ends_before d e = record { string = e.string; derives = derives_trans d e.derives }

  -- a form of tokens and productive nonterminals derives a token string
  pub names_end : {α : Form} → Names (Productive g) α → Ends g α
  names_end nothing = record { string = []; derives = itself }
  names_end (each (a_token {t = t}) h) = ends_append {α = Token t ∷ []} (record { string = t ∷ []; derives = itself }) (names_end h)
  names_end (each (named {A = A} m) h) = ends_append {α = Nonterminal A ∷ []} (record { string = m.string; derives = m.derives }) (names_end h)

  -- each single addition to the productive nonterminals is sound
  pub productive_addition : {p A : ℕ} {β : Form} → Rule g p A β → Names (Productive g) β → Productive g A
  productive_addition r h = record { string = (names_end h).string; derives = derives_trans (derives_rule r) (names_end h).derives }

  module _ {M : ℕ → Type 0} (M-closed : ProductiveClosed g M) where
    leftmost_names : {α : Form} {ps w : List ℕ} → Leftmost g α ps w → Names M α
    leftmost_names done = nothing
    leftmost_names (shift d) = each a_token (leftmost_names d)
    leftmost_names (expand {α = α} {β = β} r d) = each (named (M-closed.closed r (every_left β α (leftmost_names d)))) (every_right β α (leftmost_names d))

    pub ends_names : {α : Form} → Ends g α → Names M α
    ends_names e = leftmost_names (derives_leftmost e.string e.derives).1

    -- the productive nonterminals are among those of any closed set
    pub productive_complete : (A : ℕ) → Productive g A → M A
    productive_complete A h = behind_named first (ends_names (record { string = h.string; derives = h.derives }))

  productive_closed : ProductiveClosed g (Productive g)
  productive_closed = record { closed = λ r h. productive_addition r h }

  useful_ends : {A : ℕ} (u : Useful g A) → Ends g (u.left ++ (Nonterminal A ∷ u.right))
  useful_ends u = record { string = u.string; derives = u.ends }

  pub useful_reachable : {A : ℕ} → Useful g A → Reachable g A
  useful_reachable u = record { left = u.left; right = u.right; occurs = u.occurs }

  pub useful_productive : {A : ℕ} → Useful g A → Productive g A
  useful_productive {A} u =
      let e : Ends g (Nonterminal A ∷ []) = ends_left (Nonterminal A ∷ []) u.right (ends_right u.left (Nonterminal A ∷ u.right) (useful_ends u)) in
      record { string = e.string; derives = e.derives }

  -- a start that derives nothing makes every nonterminal useless
  pub useful_start : {A : ℕ} → Useful g A → Productive g g.start
  useful_start u = record { string = u.string; derives = derives_trans u.occurs u.ends }

  pub start_useful : Productive g g.start → Useful g g.start
  start_useful h = record { left = []; right = []; string = h.string; occurs = itself; ends = h.derives }

  useful_at : {B : ℕ} (x y : Form) {σ : Form} → σ ≡ x ++ (Nonterminal B ∷ y) → Sentential g σ → Ends g σ → Useful g B
  useful_at x y e s d = record { left = x; right = y; string = d.string; occurs = rw e at s; ends = rw e at d.derives }

  -- each single addition to the useful nonterminals is sound
  pub useful_addition : {p A B : ℕ} {β v : Form} → Useful g A → Rule g p A β → Names (Productive g) β → Behind B v β → Useful g B
  useful_addition {A = A} {B = B} {β = β} {v = v} a r h b = go (behind_split b)
    where
      l : Form
      l = a.left

      k : Form
      k = a.right

      ends : Ends g (l ++ (β ++ k))
      ends =
          ends_append (ends_left l (Nonterminal A ∷ k) (useful_ends a))
          (ends_append (names_end h) (ends_right (Nonterminal A ∷ []) k (ends_right l (Nonterminal A ∷ k) (useful_ends a))))

      go : (u : Form) × (β ≡ u ++ (Nonterminal B ∷ v)) → Useful g B
      go (u, e) =
          useful_at (l ++ u) (v ++ k) (simp (e, append_assoc)) (derives_trans a.occurs (step (replace l k r) itself)) ends

  module _ {U : ℕ → Type 0} (U-closed : UsefulClosed g U) where
    names_put : {p A : ℕ} {β : Form} (u v : Form) → Rule g p A β → Ends g (u ++ (β ++ v)) → Names U (u ++ (Nonterminal A ∷ v)) → Names U (u ++ (β ++ v))
    names_put {A = A} {β = β} u v r e h =
        let productive : Names (Productive g) β = ends_names productive_closed (ends_left β v (ends_right u (β ++ v) e)) in
        let a : U A = behind_named first (every_right u (Nonterminal A ∷ v) h) in
        every_append u (β ++ v) (every_left u (Nonterminal A ∷ v) h)
        (every_append β v (names_from β (λ B w b. U-closed.closed a r productive b))
        (every_right (Nonterminal A ∷ []) v (every_right u (Nonterminal A ∷ v) h)))

    names_derived : {α γ : Form} → Derives g α γ → Ends g γ → Names U α → Names U γ
    names_derived itself e h = h
    names_derived (step (replace u v r) d) e h = names_derived d e (names_put u v r (ends_before d e) h)

    -- the useful nonterminals are among those of any closed set
    pub useful_complete : (A : ℕ) → Useful g A → U A
    useful_complete A u =
        behind_named first (every_right u.left (Nonterminal A ∷ u.right) (names_derived u.occurs (useful_ends u) (each (named U-closed.at_start) nothing)))

  module _ (well : WellFormed g) where
    pub known_derived : {α γ : Form} → Derives g α γ → Every (Known g) α → Every (Known g) γ
    known_derived itself h = h
    known_derived (step (replace u v {A = A} {β = β} r) d) h =
        known_derived d
        (every_append u (β ++ v) (every_left u (Nonterminal A ∷ v) h)
        (every_append β v (well.right_known r) (every_right (Nonterminal A ∷ []) v (every_right u (Nonterminal A ∷ v) h))))

    -- every symbol of a sentential form is of the grammar
    pub sentential_known : {α : Form} → Sentential g α → Every (Known g) α
    sentential_known d = known_derived d (each (known_nonterminal well.start_known) nothing)

    pub reachable_known : {A : ℕ} → Reachable g A → A < g.nonterminals
    reachable_known {A} h = go (every_right h.left (Nonterminal A ∷ h.right) (sentential_known h.occurs))
      where
        go : {α : Form} → Every (Known g) (Nonterminal A ∷ α) → A < g.nonterminals
        go (each (known_nonterminal k) rest) = k

    -- where every nonterminal is useful, whatever is reachable is productive
    pub useful_all : ((A : ℕ) → A < g.nonterminals → Useful g A) → (A : ℕ) → Reachable g A → Productive g A
    useful_all u A h = useful_productive (u A (reachable_known h))

  -- productive: sound and closed is exact
  pub productive_exact : {M : ℕ → Type 0} → ((A : ℕ) → M A → Productive g A) → ProductiveClosed g M → (A : ℕ) → M A ↔ Productive g A
  productive_exact sound M-closed A = (sound A, productive_complete M-closed A)

  -- useful: sound and closed is exact
  pub useful_exact : {U : ℕ → Type 0} → ((A : ℕ) → U A → Useful g A) → UsefulClosed g U → (A : ℕ) → U A ↔ Useful g A
  useful_exact sound U-closed A = (sound A, useful_complete U-closed A)

  no_production : {A : ℕ} {ps w : List ℕ} → ((p : ℕ) (β : Form) → ¬ Rule g p A β) → ¬ Leftmost g (Nonterminal A ∷ []) ps w
  no_production none (expand {p = p} {β = β} r d) = none p β r

  -- a nonterminal without productions is useless
  pub without_productions : {A : ℕ} → ((p : ℕ) (β : Form) → ¬ Rule g p A β) → ¬ Useful g A
  without_productions none u = let h = useful_productive u in no_production none (derives_leftmost h.string h.derives).1
