-- Items, closure and goto, and the set of items that a path of symbols leads to.
-- Source document 000, 3.4.2: an item is a production with a position; S' → S $ is added, of which $ is never read.
-- Definitions only; a set of items is a predicate.
use Rattle.std.specs.Prelude.{◌≡◌, [], ◌∷◌, ℕ, suc}
use Rattle.std.proofs.Math.Option.{some}
use Rattle.std.proofs.Math.ListN.{get_elem?}
use Rattle.grammar.specs.declared.Symbol.{Symbol}
use Rattle.grammar.specs.declared.Symbol.TheVariants.{Nonterminal}
use Rattle.grammar.specs.Grammar.{Form, Grammar, Rule}

-- S' → · S, S' → S ·, or production p with the dot before place k of its right side
pub data Item : Type 0 where
  begin : Item
  finish : Item
  dotted : (p k : ℕ) → Item

abbrev pub Items : Type 1
Items = Item → Type 0

-- both inclusions
pub record SameItems (I J : Items) : Type 0 where
  pub into : (i : Item) → I i → J i
  pub back : (i : Item) → J i → I i

module _ (g : Grammar) where
  -- x stands right after the dot of the first item, and the second has the dot right after x
  pub data Advances : Item → Symbol → Item → Type 0 where
    over_start : Advances begin (Nonterminal g.start) finish
    over_symbol : {p A k : ℕ} {β : Form} {x : Symbol}
        → Rule g p A β
        → get_elem? β k ≡ some x
        → Advances (dotted p k) x (dotted p (suc k))

  -- what is in I; and where the dot stands before A, the productions of A with the dot in front
  pub data Closure (I : Items) : Item → Type 0 where
    given : {i : Item} → I i → Closure I i
    opened : {i j : Item} {p A : ℕ} {β : Form}
        → Closure I i
        → Advances i (Nonterminal A) j
        → Rule g p A β
        → Closure I (dotted p 0)

  -- the items of I with the dot after x where it stood before x
  pub record Advanced (I : Items) (x : Symbol) (j : Item) : Type 0 where
    pub item : Item
    pub inside : I item
    pub advances : Advances item x j

  abbrev pub Goto : Items → Symbol → Items
  Goto I x = Closure (Advanced I x)

  -- the set that a path leads to from the closure of S' → · S; the path's last symbol stands first
  unfoldable pub Along : Form → Items
  Along [] = Closure (λ i. i ≡ begin)
  Along (x ∷ γ) = Goto (Along γ) x
