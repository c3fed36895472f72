-- Sets of items: which are the same, what leads into the set along a path, and where its items come from.
use mathlib.Core.Path.{◌≡◌, refl, subst}
use mathlib.Core.List.{[], ◌∷◌}
use Prim.Native.Nat.{ℕ, suc}
use native.Mathlib.Omega.{arith}
use Rattle.grammar.specs.declared.Symbol.{Symbol}
use Rattle.grammar.specs.declared.Symbol.TheVariants.{Nonterminal}
use Rattle.grammar.specs.Grammar.{Form, Grammar, Rule, Known, known_nonterminal, WellFormed}
use Rattle.grammar.proofs.Every.{every_at}
use Rattle.slr.specs.Items.{Item, begin, finish, dotted, Items, SameItems, Advances, over_start, over_symbol, Closure, given, opened, Advanced, Goto, Along}

pub same_itself : (I : Items) → SameItems I I
same_itself I = record { into = λ i h. h; back = λ i h. h }

pub same_back : {I J : Items} → SameItems I J → SameItems J I
same_back s = record { into = s.back; back = s.into }

pub same_trans : {I J K : Items} → SameItems I J → SameItems J K → SameItems I K
same_trans s t = record { into = λ i h. t.into i (s.into i h); back = λ i h. s.back i (t.back i h) }

module _ {g : Grammar} where
  closure_map : {I J : Items} → ((i : Item) → I i → J i) → {i : Item} → Closure g I i → Closure g J i
  closure_map f (given {i = i} h) = given (f i h)
  closure_map f (opened c a r) = opened (closure_map f c) a r

  goto_map : {I J : Items} (x : Symbol) → ((i : Item) → I i → J i) → {i : Item} → Goto g I x i → Goto g J x i
  goto_map x f c =
      closure_map (λ i h. record { item = h.item; inside = f h.item h.inside; advances = h.advances }) c

  -- the gotos of the same sets are the same
  pub goto_same : {I J : Items} (x : Symbol) → SameItems I J → SameItems (Goto g I x) (Goto g J x)
  goto_same x s = record { into = λ i h. goto_map x s.into h; back = λ i h. goto_map x s.back h }

  -- a closure has an item only if the set has one
  closure_some : {I : Items} {i : Item} → Closure g I i → (j : Item) × I j
  closure_some (given {i = i} h) = (i, h)
  closure_some (opened c a r) = closure_some c

  -- what the dot goes over is a symbol of the grammar
  pub advances_known : WellFormed g → {i j : Item} {x : Symbol} → Advances g i x j → Known g x
  advances_known well over_start = known_nonterminal well.start_known
  advances_known well (over_symbol {k = k} {x = x} r e) = every_at (well.right_known r) k x e

  not_begun : {x : Symbol} {i : Item} → Advances g i x begin → ⊥
  not_begun a = elim a [ ]

  finished : {x : Symbol} {i : Item} → Advances g i x finish → (i ≡ begin) × (x ≡ Nonterminal g.start)
  finished over_start = (refl, refl)

-- where an item with the dot past its first place comes from
pub record Pulled (g : Grammar) (γ : Form) (p k : ℕ) : Type 0 where
  pub symbol : Symbol
  pub before : Form
  pub path : γ ≡ symbol ∷ before
  pub inside : Along g before (dotted p k)
  pub advances : Advances g (dotted p k) symbol (dotted p (suc k))

module _ (g : Grammar) where
  pub along_same : (γ δ : Form) (x : Symbol)
      → SameItems (Along g γ) (Along g δ)
      → SameItems (Along g (x ∷ γ)) (Along g (x ∷ δ))
  unfolding Along
  along_same γ δ x s = goto_same x s

  pub along_begin : Along g [] begin
  unfolding Along
  along_begin = given refl

  pub along_advances : (γ : Form) {x : Symbol} {i j : Item} → Along g γ i → Advances g i x j → Along g (x ∷ γ) j
  unfolding Along
  along_advances γ {i = i} h a = given (record { item = i; inside = h; advances = a })

  pub along_opens : (γ : Form) {p A : ℕ} {β : Form} {i j : Item}
      → Along g γ i
      → Advances g i (Nonterminal A) j
      → Rule g p A β
      → Along g γ (dotted p 0)
  unfolding Along
  along_opens [] h a r = opened h a r
  along_opens (x ∷ γ) h a r = opened h a r

  -- where the set along x ∷ γ has an item, one along γ has the dot before x
  pub along_before : (γ : Form) (x : Symbol) (i : Item) → Along g (x ∷ γ) i → (j : Item) × Advanced g (Along g γ) x j
  unfolding Along
  along_before γ x i h = closure_some h

  -- S' → · S is along the empty path only
  pub along_begin_only : (γ : Form) → Along g γ begin → γ ≡ []
  unfolding Along
  along_begin_only [] h = refl
  along_begin_only (x ∷ γ) (given h) = absurd (not_begun h.advances)

  -- S' → S · is along the path of the start symbol only
  pub along_finish_only : (γ : Form) → Along g γ finish → γ ≡ Nonterminal g.start ∷ []
  unfolding Along
  along_finish_only [] (given e) = let bad : ◌≡◌ {A = ℕ} 0 1 = cc in absurd (omega arith)
  along_finish_only (x ∷ γ) (given h) =
      let (first, symbol) = finished h.advances in
      let rest : γ ≡ [] = along_begin_only γ (subst (Along g γ) first h.inside) in
      cc

  pub along_pulled : (γ : Form) {p k : ℕ} → Along g γ (dotted p (suc k)) → Pulled g γ p k
  unfolding Along
  along_pulled [] (given e) = let bad : ◌≡◌ {A = ℕ} 0 1 = cc in absurd (omega arith)
  along_pulled (x ∷ γ) {p} {k} (given h) = go h.advances h.inside
    where
      go : {i : Item} {y : Symbol} → Advances g i y (dotted p (suc k)) → Along g γ i → Pulled g (y ∷ γ) p k
      go (over_symbol {x = y} r e) within =
          record { symbol = y; before = γ; path = refl; inside = within; advances = over_symbol r e }
