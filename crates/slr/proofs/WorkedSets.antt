-- Sets of items worked out and compared, and the symbols of columns: tests that compute.
use mathlib.Core.Path.{◌≡◌, refl, subst}
use mathlib.Core.Bool.{Bool, true, false, ◌&&◌, ◌||◌, not}
use mathlib.Core.List.{List, [], ◌∷◌}
use mathlib.Core.Option.{Option, some, none, none-ne-some, some-injective}
use Prim.Native.Nat.{ℕ, zero, suc, ◌+◌, ◌-◌, ◌≤◌, ◌<◌}
use native.Mathlib.Omega.{arith}
use lib.Dec.{T, ltb, ltb→lt}
use Rattle.grammar.specs.declared.Symbol.{Symbol}
use Rattle.grammar.specs.declared.Symbol.TheVariants.{Token, Nonterminal}
use Rattle.grammar.specs.Grammar.{Form, Grammar, Every, nothing, each}
use Rattle.grammar.proofs.Every.{every_map}
use Rattle.grammar.proofs.Tests.{and_left, and_right, and_both, or_elim, all, any, all_every}
use Rattle.slr.specs.Items.{Item, Along}
use Rattle.slr.specs.States.{columns_of, SameState, SymbolColumn, column_token, column_nonterminal}
use Rattle.slr.proofs.Codes.{below_true, below_false}
use Rattle.slr.proofs.WorkedItems.{has_item, has_every, items_along, along_test, items_sound, items_complete}

pub every_all : {A : Type 0} (f : A → Bool) {xs : List A} → Every (λ x. T (f x)) xs → T (all f xs)
unfolding all
every_all f nothing = tt
every_all f (each {x = x} {xs = xs} p h) = and_both (f x) (all f xs) p (every_all f h)

-- the test holds of some number below n
unfoldable pub some_below : ℕ → (ℕ → Bool) → Bool
some_below zero f = false
some_below (suc n) f = f n || some_below n f

pub some_below_lem : (n : ℕ) (f : ℕ → Bool) → T (some_below n f) → (k : ℕ) × (k < n) × T (f k)
unfolding some_below
some_below_lem zero f t = absurd t
some_below_lem (suc n) f t =
    or_elim (f n) (some_below n f) (λ h. (n, omega arith, h))
    (λ h. let (k, low, here) = some_below_lem n f h in (k, omega arith, here)) t

unfoldable pub is_empty : {A : Type 0} → List A → Bool
is_empty [] = true
is_empty (x ∷ xs) = false

-- the items of the first list are in the second
unfoldable pub within : List Item → List Item → Bool
unfolding all has_item
within xs ys = all (has_item ys) xs

-- the same items
unfoldable pub same_set : List Item → List Item → Bool
unfolding within
same_set xs ys = within xs ys && within ys xs

-- the symbol of a column
unfoldable pub nonterminal_in : Grammar → ℕ → Option Symbol
nonterminal_in g c =
    elim (ltb g.tokens c && ltb c (columns_of g)) [ true ↦ some (Nonterminal (c - (g.tokens + 1))) | false ↦ none ]

unfoldable pub symbol_in : Grammar → ℕ → Option Symbol
unfolding nonterminal_in
symbol_in g c = elim (ltb c g.tokens) [ true ↦ some (Token c) | false ↦ nonterminal_in g c ]

nonterminal_column : (g : Grammar) (c : ℕ) (x : Symbol) → nonterminal_in g c ≡ some x → SymbolColumn g x c
unfolding nonterminal_in
nonterminal_column g c x e = go (ltb g.tokens c && ltb c (columns_of g)) (λ t. t) e
  where
    A : ℕ
    A = c - (g.tokens + 1)

    go : (b : Bool)
        → (T b → T (ltb g.tokens c && ltb c (columns_of g)))
        → elim b [ true ↦ some (Nonterminal A) | false ↦ none ] ≡ some x
        → SymbolColumn g x c
    go true f h =
        let above : g.tokens < c = ltb→lt g.tokens c (and_left (ltb g.tokens c) (ltb c (columns_of g)) (f tt)) in
        let under : c < columns_of g =
        ltb→lt c (columns_of g) (and_right (ltb g.tokens c) (ltb c (columns_of g)) (f tt)) in
        let fits : c - (g.tokens + 1) < g.nonterminals = omega arith in
        let same : g.tokens + 1 + (c - (g.tokens + 1)) ≡ c = omega arith in
        subst (λ (y : Symbol). SymbolColumn g y c) (some-injective (Nonterminal A) x h)
        (subst (SymbolColumn g (Nonterminal A)) same (column_nonterminal fits))
    go false f h = absurd (none-ne-some x h)

pub symbol_column : (g : Grammar) (c : ℕ) (x : Symbol) → symbol_in g c ≡ some x → SymbolColumn g x c
unfolding symbol_in
symbol_column g c x e = go (ltb c g.tokens) (ltb→lt c g.tokens) e
  where
    go : (b : Bool)
        → (T b → c < g.tokens)
        → elim b [ true ↦ some (Token c) | false ↦ nonterminal_in g c ] ≡ some x
        → SymbolColumn g x c
    go true f h =
        subst (λ (y : Symbol). SymbolColumn g y c) (some-injective (Token c) x h) (column_token (f tt))
    go false f h = nonterminal_column g c x h

pub column_symbol_in : {g : Grammar} {c : ℕ} {x : Symbol} → SymbolColumn g x c → symbol_in g c ≡ some x
unfolding symbol_in nonterminal_in
column_symbol_in (column_token h) = rw (below_true h, symbol_in)
column_symbol_in {g} (column_nonterminal {A = A} h) =
    let c : ℕ = g.tokens + 1 + A in
    let low : g.tokens ≤ c = omega arith in
    let above : g.tokens < c = omega arith in
    let under : c < columns_of g = omega arith in
    let less : c - (g.tokens + 1) ≡ A = omega arith in
    rw (below_false low, below_true above, below_true under, less, symbol_in, nonterminal_in)

module _ (g : Grammar) (n : ℕ) where
  within_state : (γ δ : Form)
      → T (along_test g n γ)
      → T (within (items_along g n γ) (items_along g n δ))
      → (i : Item)
      → Along g γ i
      → Along g δ i
  unfolding within
  within_state γ δ a s i h =
      has_every (Along g δ) (items_sound g n δ) i
      (has_every (λ j. T (has_item (items_along g n δ) j)) (all_every (has_item (items_along g n δ)) (items_along g n γ) s) i
      (items_complete g n γ a i h))

  state_within : (γ δ : Form)
      → T (along_test g n δ)
      → ((i : Item) → Along g γ i → Along g δ i)
      → T (within (items_along g n γ) (items_along g n δ))
  unfolding within
  state_within γ δ b f =
      every_all (has_item (items_along g n δ)) (every_map (λ i h. items_complete g n δ b i (f i h)) (items_sound g n γ))

  pub same_set_state : (γ δ : Form)
      → T (along_test g n γ)
      → T (along_test g n δ)
      → T (same_set (items_along g n γ) (items_along g n δ))
      → SameState g γ δ
  unfolding same_set
  same_set_state γ δ a b t =
      let into : Bool = within (items_along g n γ) (items_along g n δ) in
      let back : Bool = within (items_along g n δ) (items_along g n γ) in
      record { into = within_state γ δ a (and_left into back t); back = within_state δ γ b (and_right into back t) }

  pub state_same_set : (γ δ : Form)
      → T (along_test g n γ)
      → T (along_test g n δ)
      → SameState g γ δ
      → T (same_set (items_along g n γ) (items_along g n δ))
  unfolding same_set
  state_same_set γ δ a b s =
      and_both (within (items_along g n γ) (items_along g n δ)) (within (items_along g n δ) (items_along g n γ))
      (state_within γ δ b s.into)
      (state_within δ γ a s.back)

-- there is a value, and the test holds of it
unfoldable pub holds_of : {A : Type 0} → Option A → (A → Bool) → Bool
holds_of none f = false
holds_of (some x) f = f x

pub holds_of_lem : {A : Type 0} (o : Option A) (f : A → Bool) → T (holds_of o f) → (x : A) × (o ≡ some x) × T (f x)
unfolding holds_of
holds_of_lem none f t = absurd t
holds_of_lem (some x) f t = (x, refl, t)

pub holds_at : {A : Type 0} (o : Option A) (f : A → Bool) {x : A} → o ≡ some x → T (holds_of o f) → T (f x)
unfolding holds_of
holds_at o f e t = rw e at t

unfoldable pub is_none : {A : Type 0} → Option A → Bool
is_none none = true
is_none (some x) = false

pub none_there : (xs : List Item) (i : Item) → T (is_empty xs) → T (has_item xs i) → ⊥
unfolding is_empty has_item any
none_there [] i t h = h
none_there (j ∷ xs) i t h = t

pub empty_is : {A : Type 0} (xs : List A) → T (is_empty xs) → xs ≡ []
unfolding is_empty
empty_is [] t = refl
empty_is (x ∷ xs) t = absurd t

pub not_empty : {P : Item → Type 0} (xs : List Item) → Every P xs → T (not (is_empty xs)) → (i : Item) × P i
unfolding is_empty
not_empty [] h t = absurd t
not_empty (i ∷ xs) (each p h) t = (i, p)
