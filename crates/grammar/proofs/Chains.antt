-- Chains: with no empty right side the cells of a token bring it to the front by one production after another, and no nonterminal is
-- replaced twice on the way.
use mathlib.Core.Path.{◌≡◌, refl, ap, subst}
use mathlib.Core.Logic.{◌≢◌}
use mathlib.Core.List.{List, [], ◌∷◌, ◌++◌}
use mathlib.Core.Option.{Option, some}
use Prim.Native.Nat.{ℕ, suc, ◌≤◌, ◌<◌}
use native.Mathlib.Omega.{arith}
use lib.ListN.{length, length-append}
use Rattle.grammar.specs.declared.Symbol.{Symbol}
use Rattle.grammar.specs.declared.Symbol.TheVariants.{Token, Nonterminal}
use Rattle.grammar.specs.Filled.{NoEmptyRight, Leads, there, through}
use Rattle.grammar.specs.Grammar.{Form, Grammar, Column, token, endmark, column, empty, Every, nothing, each, Rule, Step, replace, Derives, itself, step, First, starts, vanishes, Lookahead, first, follow, Claims, Cell, only, vacant, WellFormed}
use Rattle.grammar.specs.Machine.{Exact}
use Rattle.grammar.proofs.Every.{every_map}
use Rattle.grammar.proofs.Derivation.{derives_trans, derives_before, derives_rule}
use Rattle.grammar.proofs.Leftmost.{rule_same}
use Rattle.grammar.proofs.Machine.{claims_cell}
use Rattle.grammar.proofs.Distinct.{Distinct, none, apart, distinct_few}

module _ {g : Grammar} (full : NoEmptyRight g) where
  step_longer : {α β : Form} → Step g α β → length α ≤ length β
  step_longer (replace u v {A = A} {β = β} r) =
      omega (arith, full.filled r, length-append u (Nonterminal A ∷ v), length-append u (β ++ v), length-append β v)

  -- what a form derives is not shorter than it
  pub derives_longer : {α β : Form} → Derives g α β → length α ≤ length β
  derives_longer itself = omega arith
  derives_longer (step s d) = omega (arith, step_longer s, derives_longer d)

  -- so no right side vanishes
  right_stays : {p A : ℕ} {β : Form} → Rule g p A β → ¬ First g β empty
  right_stays r (vanishes d) = omega (arith, full.filled r, derives_longer d)

  -- and nothing is claimed in the end mark's column
  pub end_unclaimed : {A p : ℕ} → ¬ Claims g A endmark p
  end_unclaimed k = go k.rule k.ahead
    where
      go : {p A : ℕ} {β : Form} → Rule g p A β → Lookahead g A β (column endmark) → ⊥
      go r (first f) = elim f [ ]
      go r (follow v f) = right_stays r v

-- a cell holds one right side
one_right : {g : Grammar} {o : Option ℕ} {A p q : ℕ} {β γ : Form} → o ≡ some p → o ≡ some q → Rule g p A β → Rule g q A γ → β ≡ γ
one_right {g} {A = A} {p = p} {q = q} {β = β} c d r s =
    let same : p ≡ q = cc in
    (rule_same (subst (λ (o : ℕ). Rule g o A β) same r) s).1

-- and what it holds claims it
pub claimed_by : {g : Grammar} {A p : ℕ} {c : Column} {o : Option ℕ} → Cell g A c o → o ≡ some p → Claims g A c p
claimed_by {g} {A} {p} {c} (only {p = q} k same) e = let held : q ≡ p = cc in subst (λ (o : ℕ). Claims g A c o) held k
claimed_by (vacant none_claims) e = let bad : ◌≡◌ {A = ℕ} 0 1 = cc in absurd (omega arith)

module _ {g : Grammar} {cell : ℕ → Column → Option ℕ} {t : ℕ} where
  -- the number of productions is determined, a cell holding one production
  pub leads_alike : {x y : Symbol} {k j : ℕ} → x ≡ y → Leads g cell t x k → Leads g cell t y j → k ≡ j
  leads_alike e there there = refl
  leads_alike e there (through d s m) = cc
  leads_alike e (through c r l) there = cc
  leads_alike e (through {A = A} {x = x} {β = β} c r l) (through {p = q} {A = B} {k = j} {x = y} {β = γ} d s m) =
      let row : B ≡ A = cc in
      let held : cell A (token t) ≡ some q = rw row at d in
      let form : y ∷ γ ≡ x ∷ β = one_right held c (subst (λ (o : ℕ). Rule g q o (y ∷ γ)) row s) r in
      let same : x ≡ y = cc in
      ap suc (leads_alike same l m)

  pub leads_same : {x : Symbol} {k j : ℕ} → Leads g cell t x k → Leads g cell t x j → k ≡ j
  leads_same l m = leads_alike refl l m

  leads_derives : {x : Symbol} {k : ℕ} → Leads g cell t x k → (δ : Form) × Derives g (x ∷ []) (Token t ∷ δ)
  leads_derives there = ([], itself)
  leads_derives (through {β = β} c r l) = let (δ, d) = leads_derives l in (δ ++ β, derives_trans (derives_rule r) (derives_before β d))

  leads_first : {x : Symbol} {k : ℕ} → Leads g cell t x k → (β : Form) → First g (x ∷ β) (column (token t))
  leads_first l β = let (δ, d) = leads_derives l in starts (δ ++ β) (derives_before β d)

  module _ (exact : Exact g cell) (full : NoEmptyRight g) where
    -- a production whose right side leads to the token stands in the token's cell
    leads_rule : {p A : ℕ} {x : Symbol} {β : Form} → Rule g p A (x ∷ β) → (k : ℕ) × Leads g cell t x k → (k : ℕ) × Leads g cell t (Nonterminal A) k
    leads_rule {x = x} {β = β} r (k, l) = (suc k, through (claims_cell exact (record { right = x ∷ β; rule = r; ahead = first (leads_first l β) })) r l)

    -- the first symbol of a form leads to the token that a form derived from it starts with
    derives_leads : {α γ δ : Form} → Derives g α γ → γ ≡ Token t ∷ δ → (x : Symbol) (β : Form) → α ≡ x ∷ β → (k : ℕ) × Leads g cell t x k
    derives_leads itself f x β e = let same : Token t ≡ x = cc in (0, subst (λ (y : Symbol). Leads g cell t y 0) same there)
    derives_leads (step (replace [] v {β = []} r) d) f x β e = absurd (omega (arith, full.filled r))
    derives_leads (step (replace [] v {A = A} {β = y ∷ α} r) d) f x β e =
        let same : Nonterminal A ≡ x = cc in
        rw same at (leads_rule r (derives_leads d f y (α ++ v) refl))
    derives_leads (step (replace (y ∷ u) v {β = α} r) d) f x β e =
        let same : y ≡ x = cc in
        rw same at (derives_leads d f y (u ++ (α ++ v)) refl)

    right_leads : {p A : ℕ} (β : Form) → Rule g p A β → First g β (column (token t)) → (k : ℕ) × Leads g cell t (Nonterminal A) k
    right_leads [] r f = absurd (omega (arith, full.filled r))
    right_leads (x ∷ β) r (starts γ d) = leads_rule r (derives_leads d refl x β refl)

    -- every filled cell leads to its token
    pub leads_all : {A p : ℕ} → cell A (token t) ≡ some p → (k : ℕ) × Leads g cell t (Nonterminal A) k
    leads_all {A} {p} e = go (claimed_by (exact.cells A (token t)) e)
      where
        looked : {β : Form} → Rule g p A β → Lookahead g A β (column (token t)) → (k : ℕ) × Leads g cell t (Nonterminal A) k
        looked {β} r (first f) = right_leads β r f
        looked r (follow v f) = absurd (right_stays full r v)

        go : Claims g A (token t) p → (k : ℕ) × Leads g cell t (Nonterminal A) k
        go c = looked c.rule c.ahead

-- and the end mark's cells are vacant
pub end_vacant : {g : Grammar} {cell : ℕ → Column → Option ℕ} → Exact g cell → NoEmptyRight g → {A p : ℕ} → cell A endmark ≢ some p
end_vacant exact full {A} e = end_unclaimed full (claimed_by (exact.cells A endmark) e)

-- the left sides of k productions that lead to t, and by how many each of them leads
record Chain (g : Grammar) (cell : ℕ → Column → Option ℕ) (t k : ℕ) : Type 0 where
  lefts : List ℕ
  long : length lefts ≡ k
  leading : Every (λ B. (j : ℕ) × (j ≤ k) × Leads g cell t (Nonterminal B) j) lefts
  distinct : Distinct lefts

module _ {g : Grammar} {cell : ℕ → Column → Option ℕ} {t : ℕ} where
  -- what leads by more productions is another nonterminal
  chain_more : {A k : ℕ} → Leads g cell t (Nonterminal A) (suc k) → Chain g cell t k → Chain g cell t (suc k)
  chain_more {A} {k} l c =
      record {
        lefts = A ∷ c.lefts;
        long = omega (arith, c.long);
        leading = each (suc k, omega arith, l) (every_map (λ B m. (m.0, omega arith, m.2)) c.leading);
        distinct = apart (every_map other c.leading) c.distinct;
      }
    where
      other : (B : ℕ) → ((j : ℕ) × (j ≤ k) × Leads g cell t (Nonterminal B) j) → A ≢ B
      other B m e = omega (arith, leads_same (subst (λ (C : ℕ). Leads g cell t (Nonterminal C) (suc k)) e l) m.2, m.1)

  leads_chain : {x : Symbol} {k : ℕ} → Leads g cell t x k → Chain g cell t k
  leads_chain there = record { lefts = []; long = refl; leading = nothing; distinct = none }
  leads_chain (through c r l) = chain_more (through c r l) (leads_chain l)

  -- there are no more productions than nonterminals
  pub leads_few : WellFormed g → {x : Symbol} {k : ℕ} → Leads g cell t x k → k ≤ g.nonterminals
  leads_few well l =
      let c = leads_chain l in
      omega (arith, c.long, distinct_few g.nonterminals c.lefts c.distinct (every_map (λ B m. known m.2) c.leading))
    where
      known : {B k : ℕ} → Leads g cell t (Nonterminal B) k → B < g.nonterminals
      known (through c r l) = well.left_known r
