-- What the columns of an index say of its grammar, and that each call on them allows one answer.
use mathlib.Core.Path.{◌≡◌, refl, sym, ◌∙◌, ap, subst}
use mathlib.Core.Bool.{Bool}
use mathlib.Core.List.{List}
use mathlib.Core.Option.{some}
use Prim.Native.Nat.{ℕ, zero, suc, ◌+◌, ◌≤◌, ◌<◌}
use native.Mathlib.Decide.{dec_lt}
use native.Mathlib.Omega.{arith}
use borrow.Author.Tests.{eqb-true, eq-eqb}
use lib.Dec.{eqb}
use lib.ListN.{get_or, set, replicate, length-set, length-replicate}
use lib.Seq.{ext_get_or, get_or-set_same, get_or-set_other}
use Rattle.grammar.specs.Grammar.{Form, Production, Rule}
use Rattle.sets.specs.Calls.{Decides}
use Rattle.sets.proofs.Promise.{decided, decides_unique}
use Rattle.reader.specs.Fields.{left_at, right_at}
use Rattle.book.specs.declared.Index.{Index}
use Rattle.book.specs.declared.columns.Outline.{Outline}
use Rattle.book.specs.Columns.{production_at, outlined, Gathered, Lefts, Lengths, Heads, IsOf}
use Rattle.book.proofs.IndexGrammar.{production_found, production_missing}

zeros_read : (n p : ℕ) → get_or (replicate {A = ℕ} n 0) p 0 ≡ 0
zeros_read zero p = refl
zeros_read (suc n) zero = refl
zeros_read (suc n) (suc p) = zeros_read n p

module _ {field : ℕ → ℕ} {places : List ℕ} where
  -- nothing is gathered yet
  pub gathered_none : Gathered field places 0 (replicate 256 0)
  gathered_none =
      record {
        sized = length-replicate {A = ℕ} 256 0;
        inside = λ p h. absurd (omega arith);
        beyond = λ p h. zeros_read 256 p;
      }

  -- one production more
  pub gathered_turn : {p v : ℕ} (column : List ℕ)
      → Gathered field places p column
      → p < 256
      → v ≡ field (get_or places p 0)
      → Gathered field places (p + 1) (set column p v)
  gathered_turn {p} {v} column g h e =
      record {
        sized = length-set column p v ∙ g.sized;
        inside = λ q k. within q k (dec_lt q p);
        beyond = λ q k. get_or-set_other column p q v 0 (λ same. omega arith) ∙ g.beyond q (omega arith);
      }
    where
      within : (q : ℕ) → q < p + 1 → Dec (q < p) → get_or (set column p v) q 0 ≡ field (get_or places q 0)
      within q k (yes l) = get_or-set_other column p q v 0 (λ same. omega arith) ∙ g.inside q l
      within q k (no n) =
          let same : q ≡ p = omega arith in
          rw same (get_or-set_same column p v 0 (omega (arith, g.sized)) ∙ e)

  -- all are gathered
  pub gathered_all : {p last : ℕ} {column : List ℕ}
      → p ≤ last
      → last ≤ p
      → Gathered field places p column
      → Gathered field places last column
  gathered_all {p} {last} {column} h k g =
      let same : p ≡ last = omega arith in
      subst (λ (n : ℕ). Gathered field places n column) same g

  -- a column is determined
  pub gathered_unique : {count : ℕ} {column column' : List ℕ}
      → Gathered field places count column
      → Gathered field places count column'
      → column ≡ column'
  gathered_unique {count} {column} {column'} h k =
      ext_get_or 0 column column' (h.sized ∙ sym k.sized) (λ p inside. go p (dec_lt p count))
    where
      go : (p : ℕ) → Dec (p < count) → get_or column p 0 ≡ get_or column' p 0
      go p (yes l) = h.inside p l ∙ sym (k.inside p l)
      go p (no n) = h.beyond p (omega arith) ∙ sym (k.beyond p (omega arith))

module _ (book places : List ℕ) (o : Outline) {p A : ℕ} {lefts : List ℕ} (column : Gathered (left_at book) places o.productions lefts) where
  -- by the column p is a production of A exactly if the grammar has it as one
  pub is_of_rule : IsOf lefts o A p → (β : Form) × Rule (outlined book places o) p A β
  unfolding production_at
  is_of_rule h =
      let left : left_at book (get_or places p 0) ≡ A = sym (column.inside p h.inside) ∙ h.left in
      let one : production_at book (get_or places p 0) ≡ record { left = A; right = right_at book (get_or places p 0) } =
      λ i. record { left = left i; right = right_at book (get_or places p 0) } in
      (right_at book (get_or places p 0), record { at = production_found book places o h.inside ∙ ap some one })

  pub rule_is_of : {β : Form} → Rule (outlined book places o) p A β → IsOf lefts o A p
  unfolding production_at
  rule_is_of {β} rule = go (dec_lt p o.productions)
    where
      go : Dec (p < o.productions) → IsOf lefts o A p
      go (yes inside) =
          let found = production_found book places o inside in
          let there = rule.at in
          let same : production_at book (get_or places p 0) ≡ record { left = A; right = β } = cc in
          record { inside = inside; left = column.inside p inside ∙ ap (λ (x : Production). x.left) same }
      go (no n) =
          let missing = production_missing book places o {p = p} (omega arith) in
          let there = rule.at in
          let bad : ◌≡◌ {A = ℕ} 0 1 = cc in absurd (omega arith)

-- what a column holds for p decides, where p is one of the productions
pub is_of_decided : (lefts : List ℕ) (o : Outline) (A : ℕ) {p left : ℕ}
    → p < o.productions
    → left ≡ get_or lefts p 0
    → Decides (eqb left A) (IsOf lefts o A p)
is_of_decided lefts o A {p} {left} inside e =
    decided (eqb left A) (λ same. record { inside = inside; left = sym e ∙ eqb-true left A same })
    (λ h. eq-eqb left A (e ∙ h.left))

-- the one answer of each call
pub lefts_unique : (book : List ℕ) (i : Index) {column column' : List ℕ}
    → Lefts book i column
    → Lefts book i column'
    → column ≡ column'
lefts_unique book i = gathered_unique

pub lengths_unique : (book : List ℕ) (i : Index) {column column' : List ℕ}
    → Lengths book i column
    → Lengths book i column'
    → column ≡ column'
lengths_unique book i = gathered_unique

pub heads_unique : (book : List ℕ) (i : Index) {column column' : List ℕ}
    → Heads book i column
    → Heads book i column'
    → column ≡ column'
heads_unique book i = gathered_unique

pub is_of_unique : (lefts : List ℕ) (o : Outline) (A p : ℕ) (r r' : Bool)
    → Decides r (IsOf lefts o A p)
    → Decides r' (IsOf lefts o A p)
    → r ≡ r'
is_of_unique lefts o A p = decides_unique (IsOf lefts o A p)
