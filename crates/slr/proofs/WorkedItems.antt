-- The sets of items along paths of a small grammar worked out: lists of items, exact wherever a test passes that computes.
use mathlib.Core.Path.{◌≡◌, refl, sym, ap, ◌∙◌, subst}
use mathlib.Core.Bool.{Bool, true, false, ◌&&◌}
use mathlib.Core.List.{List, [], ◌∷◌, ◌++◌, map}
use mathlib.Core.Option.{Option, some, none, none-ne-some, some-injective}
use Prim.Native.Nat.{ℕ, zero, suc}
use lib.Dec.{T, eqb, eqb→eq, eqb_refl}
use lib.ListN.{get_elem?}
use Rattle.grammar.specs.declared.Symbol.{Symbol}
use Rattle.grammar.specs.declared.Symbol.TheVariants.{Token, Nonterminal}
use Rattle.grammar.specs.Grammar.{Form, Production, Grammar, Every, nothing, each, Rule}
use Rattle.grammar.proofs.Every.{every_append}
use Rattle.grammar.proofs.Tests.{and_left, and_right, and_both, or_left, or_right, or_elim, all, any, all_every, any_of}
use Rattle.slr.specs.Items.{Item, begin, finish, dotted, Advances, over_start, over_symbol, Closure, given, opened, Along}
use Rattle.slr.proofs.Items.{along_begin, along_advances, along_opens}
use Rattle.slr.proofs.Choosing.{choosing, choosing_sound, choosing_all, any_map, map_every}

unfoldable pub same_item : Item → Item → Bool
same_item begin begin = true
same_item begin finish = false
same_item begin (dotted q l) = false
same_item finish begin = false
same_item finish finish = true
same_item finish (dotted q l) = false
same_item (dotted p k) begin = false
same_item (dotted p k) finish = false
same_item (dotted p k) (dotted q l) = eqb p q && eqb k l

pub same_item_is : (i j : Item) → T (same_item i j) → i ≡ j
unfolding same_item
same_item_is begin begin t = refl
same_item_is begin finish t = absurd t
same_item_is begin (dotted q l) t = absurd t
same_item_is finish begin t = absurd t
same_item_is finish finish t = refl
same_item_is finish (dotted q l) t = absurd t
same_item_is (dotted p k) begin t = absurd t
same_item_is (dotted p k) finish t = absurd t
same_item_is (dotted p k) (dotted q l) t =
    let first : p ≡ q = eqb→eq p q (and_left (eqb p q) (eqb k l) t) in
    let second : k ≡ l = eqb→eq k l (and_right (eqb p q) (eqb k l) t) in
    cc

pub same_item_self : (i : Item) → T (same_item i i)
unfolding same_item
same_item_self begin = tt
same_item_self finish = tt
same_item_self (dotted p k) = and_both (eqb p p) (eqb k k) (eqb_refl p) (eqb_refl k)

unfoldable pub same_symbol : Symbol → Symbol → Bool
same_symbol (Token s) (Token t) = eqb s t
same_symbol (Token s) (Nonterminal B) = false
same_symbol (Nonterminal A) (Token t) = false
same_symbol (Nonterminal A) (Nonterminal B) = eqb A B

same_symbol_is : (x y : Symbol) → T (same_symbol x y) → x ≡ y
unfolding same_symbol
same_symbol_is (Token s) (Token t) h = ap {B = Symbol} Token (eqb→eq s t h)
same_symbol_is (Token s) (Nonterminal B) h = absurd h
same_symbol_is (Nonterminal A) (Token t) h = absurd h
same_symbol_is (Nonterminal A) (Nonterminal B) h = ap {B = Symbol} Nonterminal (eqb→eq A B h)

same_symbol_self : (x : Symbol) → T (same_symbol x x)
unfolding same_symbol
same_symbol_self (Token s) = eqb_refl s
same_symbol_self (Nonterminal A) = eqb_refl A

-- the item is in the list
unfoldable pub has_item : List Item → Item → Bool
unfolding any same_item
has_item xs i = any (λ j. same_item j i) xs

pub has_every : (P : Item → Type 0) {xs : List Item} → Every P xs → (i : Item) → T (has_item xs i) → P i
unfolding has_item
has_every P h i t = any_of (λ j. same_item j i) h (λ j p s. subst P (same_item_is j i s) p) t

-- the productions of A with the dot in front
unfoldable pub openings : Grammar → ℕ → List Item
unfolding choosing
openings g A = map (λ p. dotted p 0) (choosing (λ p r. eqb r.left A) 0 g.productions)

openings_sound : (g : Grammar) (A : ℕ) {P : Item → Type 0}
    → ((p : ℕ) (β : Form) → Rule g p A β → P (dotted p 0))
    → Every P (openings g A)
unfolding openings
openings_sound g A {P} h =
    map_every (λ p. dotted p 0)
    (λ p c. h p c.production.right (rw (eqb→eq c.production.left A c.holds) at c.rule))
    (choosing_sound g (λ p r. eqb r.left A))

openings_all : (g : Grammar) {p A : ℕ} {β : Form} → Rule g p A β → T (has_item (openings g A) (dotted p 0))
unfolding openings has_item same_item
openings_all g {p} {A} r =
    any_map (eqb p) (λ j. same_item j (dotted p 0)) (λ q. dotted q 0)
    (λ q t. and_both (eqb q p) (eqb 0 0) (subst (λ (o : ℕ). T (eqb o p)) (eqb→eq p q t) (eqb_refl p)) (eqb_refl 0))
    (choosing (λ p r. eqb r.left A) 0 g.productions)
    (choosing_all g (λ p r. eqb r.left A) r (eqb_refl A))

-- the item with the dot one symbol further on
unfoldable pub over : Item → Item
over begin = finish
over finish = finish
over (dotted p k) = dotted p (suc k)

module _ (g : Grammar) where
  -- the symbol after the dot
  unfoldable pub after : Item → Option Symbol
  after begin = some (Nonterminal g.start)
  after finish = none
  after (dotted p k) = elim (get_elem? g.productions p) [ none ↦ none | some r ↦ get_elem? r.right k ]

  after_advances : (i : Item) (x : Symbol) → after i ≡ some x → Advances g i x (over i)
  unfolding after over
  after_advances begin x e =
      subst (λ (y : Symbol). Advances g begin y finish) (some-injective (Nonterminal g.start) x e) over_start
  after_advances finish x e = absurd (none-ne-some x e)
  after_advances (dotted p k) x e = go (get_elem? g.productions p) refl e
    where
      go : (o : Option Production)
          → get_elem? g.productions p ≡ o
          → elim o [ none ↦ none | some r ↦ get_elem? r.right k ] ≡ some x
          → Advances g (dotted p k) x (dotted p (suc k))
      go none at f = absurd (none-ne-some x f)
      go (some r) at f = over_symbol (record { at = at }) f

  advances_after : {i j : Item} {x : Symbol} → Advances g i x j → (after i ≡ some x) × (j ≡ over i)
  unfolding after over
  advances_after over_start = (refl, refl)
  advances_after (over_symbol r e) = (rw (r.at, after) e, refl)

  -- x is the symbol after the dot
  unfoldable pub is_after : Symbol → Item → Bool
  unfolding after same_symbol
  is_after x i = elim (after i) [ none ↦ false | some y ↦ same_symbol y x ]

  after_is : (x : Symbol) (i : Item) → T (is_after x i) → after i ≡ some x
  unfolding is_after
  after_is x i t = go (after i) t
    where
      go : (o : Option Symbol) → T (elim o [ none ↦ false | some y ↦ same_symbol y x ]) → o ≡ some x
      go none h = absurd h
      go (some y) h = ap {B = Option Symbol} some (same_symbol_is y x h)

  is_after_lem : (x : Symbol) (i : Item) → after i ≡ some x → T (is_after x i)
  unfolding is_after
  is_after_lem x i e = rw (e, is_after) (same_symbol_self x)

  -- the items that stand behind an item's dot
  unfoldable pub opens_of : Symbol → List Item
  opens_of (Token t) = []
  opens_of (Nonterminal A) = openings g A

  unfoldable pub opens : Item → List Item
  unfolding after openings opens_of
  opens i = elim (after i) [ none ↦ [] | some x ↦ opens_of x ]

  opens_sound : (γ : Form) (i : Item) → Along g γ i → Every (Along g γ) (opens i)
  unfolding opens
  opens_sound γ i h = go (after i) refl
    where
      behind : (x : Symbol) → after i ≡ some x → Every (Along g γ) (opens_of x)
      behind (Token t) e = nothing
      behind (Nonterminal A) e =
          openings_sound g A (λ p β r. along_opens g γ h (after_advances i (Nonterminal A) e) r)

      go : (o : Option Symbol) → after i ≡ o → Every (Along g γ) (elim o [ none ↦ [] | some x ↦ opens_of x ])
      go none e = nothing
      go (some x) e = behind x e

  opens_all : {i j : Item} {p A : ℕ} {β : Form}
      → Advances g i (Nonterminal A) j
      → Rule g p A β
      → T (has_item (opens i) (dotted p 0))
  unfolding opens
  opens_all a r = rw ((advances_after a).0, opens) (openings_all g r)

-- those of the first list that the second lacks are added to it
unfoldable pub adding : List Item → List Item → List Item
adding [] xs = xs
adding (i ∷ is) xs = adding is (elim (has_item xs i) [ true ↦ xs | false ↦ i ∷ xs ])

adding_every : {P : Item → Type 0} (is xs : List Item) → Every P is → Every P xs → Every P (adding is xs)
unfolding adding
adding_every [] xs nothing h = h
adding_every {P} (i ∷ is) xs (each p k) h = adding_every is _ k (go (has_item xs i))
  where
    go : (b : Bool) → Every P (elim b [ true ↦ xs | false ↦ i ∷ xs ])
    go true = h
    go false = each p h

adding_keeps : (is xs : List Item) (i : Item) → T (has_item xs i) → T (has_item (adding is xs) i)
unfolding adding has_item any
adding_keeps [] xs i t = t
adding_keeps (j ∷ is) xs i t = adding_keeps is _ i (go (has_item xs j))
  where
    go : (b : Bool) → T (has_item (elim b [ true ↦ xs | false ↦ j ∷ xs ]) i)
    go true = t
    go false = or_right (same_item j i) (any (λ k. same_item k i) xs) t

module _ (g : Grammar) where
  unfoldable pub opened_by : List Item → List Item
  opened_by [] = []
  opened_by (i ∷ is) = opens g i ++ opened_by is

  -- what the items open is added, so many times
  unfoldable pub closing : ℕ → List Item → List Item
  unfolding adding opened_by opens
  closing zero xs = xs
  closing (suc n) xs = closing n (adding (opened_by xs) xs)

  -- the dot goes over x
  unfoldable pub advancing : Symbol → List Item → List Item
  unfolding is_after over
  advancing x [] = []
  advancing x (i ∷ is) = elim (is_after g x i) [ true ↦ over i ∷ advancing x is | false ↦ advancing x is ]

  -- the set along a path
  unfoldable pub items_along : ℕ → Form → List Item
  unfolding closing advancing
  items_along n [] = closing n (begin ∷ [])
  items_along n (x ∷ γ) = closing n (advancing x (items_along n γ))

  -- nothing is left to be added
  unfoldable pub closed_test : List Item → Bool
  unfolding all has_item opens
  closed_test xs = all (λ i. all (has_item xs) (opens g i)) xs

  unfoldable pub along_test : ℕ → Form → Bool
  unfolding closed_test items_along
  along_test n [] = closed_test (items_along n [])
  along_test n (x ∷ γ) = closed_test (items_along n (x ∷ γ)) && along_test n γ

  opened_sound : (γ : Form) {xs : List Item} → Every (Along g γ) xs → Every (Along g γ) (opened_by xs)
  unfolding opened_by
  opened_sound γ nothing = nothing
  opened_sound γ (each {x = i} {xs = is} p h) =
      every_append (opens g i) (opened_by is) (opens_sound g γ i p) (opened_sound γ h)

  closing_sound : (γ : Form) (n : ℕ) (xs : List Item) → Every (Along g γ) xs → Every (Along g γ) (closing n xs)
  unfolding closing
  closing_sound γ zero xs h = h
  closing_sound γ (suc n) xs h = closing_sound γ n _ (adding_every (opened_by xs) xs (opened_sound γ h) h)

  advancing_sound : (γ : Form) (x : Symbol) {xs : List Item}
      → Every (Along g γ) xs
      → Every (Along g (x ∷ γ)) (advancing x xs)
  unfolding advancing
  advancing_sound γ x nothing = nothing
  advancing_sound γ x (each {x = i} {xs = is} p h) = go (is_after g x i) (after_is g x i) (advancing_sound γ x h)
    where
      go : (b : Bool)
          → (T b → after g i ≡ some x)
          → Every (Along g (x ∷ γ)) (advancing x is)
          → Every (Along g (x ∷ γ)) (elim b [ true ↦ over i ∷ advancing x is | false ↦ advancing x is ])
      go true f rest = each (along_advances g γ p (after_advances g i x (f tt))) rest
      go false f rest = rest

  -- every item of the list is in the set
  pub items_sound : (n : ℕ) (γ : Form) → Every (Along g γ) (items_along n γ)
  unfolding items_along
  items_sound n [] = closing_sound [] n (begin ∷ []) (each (along_begin g) nothing)
  items_sound n (x ∷ γ) = closing_sound (x ∷ γ) n (advancing x (items_along n γ)) (advancing_sound γ x (items_sound n γ))

  closing_keeps : (n : ℕ) (xs : List Item) (i : Item) → T (has_item xs i) → T (has_item (closing n xs) i)
  unfolding closing
  closing_keeps zero xs i t = t
  closing_keeps (suc n) xs i t = closing_keeps n _ i (adding_keeps (opened_by xs) xs i t)

  advancing_all : (x : Symbol) (xs : List Item) {i j : Item}
      → T (has_item xs i)
      → Advances g i x j
      → T (has_item (advancing x xs) j)
  unfolding advancing has_item any
  advancing_all x [] t a = t
  advancing_all x (k ∷ xs) {i} {j} t a =
      or_elim (same_item k i) (any (λ l. same_item l i) xs)
      (λ s. first (same_item_is k i s))
      (λ s. later (is_after g x k) (advancing_all x xs s a)) t
    where
      rest : Bool
      rest = any (λ l. same_item l j) (advancing x xs)

      put : (b : Bool)
          → T b
          → T (same_item (over k) j)
          → T (has_item (elim b [ true ↦ over k ∷ advancing x xs | false ↦ advancing x xs ]) j)
      put true s h = or_left (same_item (over k) j) rest h
      put false s h = absurd s

      first : k ≡ i → T (has_item (advancing x (k ∷ xs)) j)
      first e =
          let (at, is) = advances_after g a in
          let over_is : over k ≡ j = ap over e ∙ sym is in
          put (is_after g x k) (is_after_lem g x k (ap (after g) e ∙ at))
          (subst (λ (l : Item). T (same_item (over k) l)) over_is (same_item_self (over k)))

      later : (b : Bool)
          → T rest
          → T (has_item (elim b [ true ↦ over k ∷ advancing x xs | false ↦ advancing x xs ]) j)
      later true r = or_right (same_item (over k) j) rest r
      later false r = r

  -- a list to which nothing is left to be added has the closure of what it has
  closed_all : (xs : List Item)
      → T (closed_test xs)
      → {I : Item → Type 0}
      → ((i : Item) → I i → T (has_item xs i))
      → {i : Item}
      → Closure g I i
      → T (has_item xs i)
  unfolding closed_test
  closed_all xs t f (given {i = i} h) = f i h
  closed_all xs t f (opened {i = i} {p = p} c a r) =
      let each_open : T (all (has_item xs) (opens g i)) =
      has_every (λ k. T (all (has_item xs) (opens g k))) (all_every (λ k. all (has_item xs) (opens g k)) xs t) i
      (closed_all xs t f c) in
      has_every (λ k. T (has_item xs k)) (all_every (has_item xs) (opens g i) each_open) (dotted p 0) (opens_all g a r)

  -- and the set has no others
  pub items_complete : (n : ℕ) (γ : Form)
      → T (along_test n γ)
      → (i : Item)
      → Along g γ i
      → T (has_item (items_along n γ) i)
  unfolding along_test items_along Along
  items_complete n [] t i h =
      closed_all (closing n (begin ∷ [])) t (λ j e. rw e (closing_keeps n (begin ∷ []) begin tt)) h
  items_complete n (x ∷ γ) t i h =
      let base : List Item = advancing x (items_along n γ) in
      let closed : T (closed_test (closing n base)) = and_left (closed_test (closing n base)) (along_test n γ) t in
      let before : T (along_test n γ) = and_right (closed_test (closing n base)) (along_test n γ) t in
      closed_all (closing n base) closed
      (λ j m.
      let has : T (has_item (items_along n γ) m.item) = items_complete n γ before m.item m.inside in
      closing_keeps n base j (advancing_all x (items_along n γ) has m.advances))
      h
