-- What the machine accepts on exact cells is derived: the states on the stack stand over a form, and each reduction is a
-- rightmost step back.
use mathlib.Core.Path.{◌≡◌, refl, sym, ap, ◌∙◌, subst}
use mathlib.Core.List.{List, [], ◌∷◌, ◌++◌, reverse, reverse_aux, reverse_aux-eq, reverse-cons}
use mathlib.Core.Option.{Option, some, none-ne-some}
use Prim.Native.Nat.{ℕ, zero, suc}
use native.Mathlib.Omega.{arith}
use lib.ListN.{length, take, drop, get_elem?}
use lib.Seq.{take-length}
use Rattle.grammar.specs.declared.Symbol.{Symbol}
use Rattle.grammar.specs.declared.Symbol.TheVariants.{Token, Nonterminal}
use Rattle.grammar.specs.Grammar.{Form, spelled, Grammar, Column, endmark, token, Rule}
use Rattle.grammar.specs.Machine.{front}
use Rattle.grammar.proofs.Leftmost.{rule_same}
use Rattle.numbering.specs.Numbering.{IsState}
use Rattle.slr.specs.Rightmost.{rightmost, RightmostSteps, stay, next, Reduces}
use Rattle.slr.specs.Items.{Item, finish, dotted, Advances, over_symbol, Along}
use Rattle.slr.specs.States.{collection, InState, LeadsTo}
use Rattle.slr.specs.Actions.{Action, shift, reduce, accept, Acts, ExactActions}
use Rattle.slr.specs.Actions as acting
use Rattle.slr.specs.Machine.{Accepting, accepts, shifts, reduces, SlrAccepts}
use Rattle.slr.proofs.Rightmost.{steps_trans, steps_rightmost}
use Rattle.slr.proofs.Items.{along_finish_only, Pulled, along_pulled}
use Rattle.slr.proofs.States.{state_has, leads_state}

-- one symbol more of a right side
take_more : {A : Type 0} (β : List A) (k : ℕ) {x : A} (v : List A)
    → get_elem? β k ≡ some x
    → take (suc k) β ++ v ≡ take k β ++ (x ∷ v)
take_more [] k {x} v e = absurd (none-ne-some x e)
take_more (y ∷ β) zero v e = cc
take_more (y ∷ β) (suc k) v e = ap (λ z. y ∷ z) (take_more β k v e)

module _ {g : Grammar} where
  pub advances_at : {p A k : ℕ} {β : Form} {x : Symbol} {j : Item}
      → Rule g p A β
      → Advances g (dotted p k) x j
      → get_elem? β k ≡ some x
  advances_at {k = k} r (over_symbol {x = x} r' e) = subst (λ (α : Form). get_elem? α k ≡ some x) (rule_same r' r).1 e

module _ (g : Grammar) (paths : List Form) where
  -- the state on top and those below it are the states of the path, of the path without its last symbol, and so on
  data Stands : ℕ → List ℕ → Form → Type 0 where
    bottom : IsState (collection g) paths 0 [] → Stands 0 [] []
    above : {s j : ℕ} {σ : List ℕ} {γ : Form} {x : Symbol}
        → IsState (collection g) paths j (x ∷ γ)
        → Stands s σ γ
        → Stands j (s ∷ σ) (x ∷ γ)

  -- what is uncovered where so many states are popped: of the path, as many symbols of β are taken off
  record Uncovered (k s : ℕ) (σ : List ℕ) (γ β : Form) : Type 0 where
    top : ℕ
    rest : List ℕ
    path : Form
    states : drop k (s ∷ σ) ≡ top ∷ rest
    stands : Stands top rest path
    form : (v : Form) → reverse_aux γ v ≡ reverse_aux path (take k β ++ v)

module _ {g : Grammar} {paths : List Form} where
  on_top : {s : ℕ} {σ : List ℕ} {γ : Form} → Stands g paths s σ γ → IsState (collection g) paths s γ
  on_top (bottom is) = is
  on_top (above is st) = is

  -- an item with the dot at k is pulled back k states
  uncover : {p A : ℕ} {β : Form} → Rule g p A β → (k : ℕ) {s : ℕ} {σ : List ℕ} {γ : Form}
      → Stands g paths s σ γ
      → Along g γ (dotted p k)
      → Uncovered g paths k s σ γ β
  uncover r zero {s} {σ} {γ} st h = record { top = s; rest = σ; path = γ; states = refl; stands = st; form = λ v. refl }
  uncover r (suc k) (bottom is) h =
      let back = along_pulled g [] h in
      let bad : ◌≡◌ {A = ℕ} 0 1 = cc back.path in
      absurd (omega arith)
  uncover {p} {β = β} r (suc k) (above {s = s} {σ = σ} {γ = γ} {x = x} is st) h =
      go (λ i. uncover r k st i) (along_pulled g (x ∷ γ) h)
    where
      go : {j : ℕ}
          → (Along g γ (dotted p k) → Uncovered g paths k s σ γ β)
          → Pulled g (x ∷ γ) p k
          → Uncovered g paths (suc k) j (s ∷ σ) (x ∷ γ) β
      go below back =
          let path : back.before ≡ γ = cc in
          let symbol : back.symbol ≡ x = cc in
          let under = below (subst (λ (δ : Form). Along g δ (dotted p k)) path back.inside) in
          let at : get_elem? β k ≡ some x = advances_at r back.advances ∙ ap {B = Option Symbol} some symbol in
          record {
            top = under.top;
            rest = under.rest;
            path = under.path;
            states = under.states;
            stands = under.stands;
            form = λ v. under.form (x ∷ v) ∙ ap (reverse_aux under.path) (sym (take_more β k v at));
          }

module _ {g : Grammar} {paths : List Form} {cell : ℕ → Column → Option Action} {move : ℕ → ℕ → Option ℕ}
    (exact : ExactActions g paths cell move) where
  -- what an action says of the set along the path
  accept_finish : {s : ℕ} {c : Column} → Acts g paths s c accept → InState g paths s finish
  accept_finish (acting.accepts h) = h

  shift_leads : {s t j : ℕ} → Acts g paths s (token t) (shift j) → LeadsTo g paths s (Token t) j
  shift_leads (acting.shifts h) = h

  reduce_ends : {s p A : ℕ} {β : Form} {c : Column}
      → Rule g p A β
      → Acts g paths s c (reduce p)
      → InState g paths s (dotted p (length β))
  reduce_ends {s} {p} r (acting.reduces r' h f) =
      subst (λ (α : Form). InState g paths s (dotted p (length α))) (rule_same r' r).1 h

  -- one rightmost step more, at the end
  step_last : (path : Form) (w : List ℕ) {α β : Form} {p A : ℕ} {qs : List ℕ}
      → Rule g p A β
      → RightmostSteps g α qs (reverse_aux path (Nonterminal A ∷ spelled w))
      → RightmostSteps g α (qs ++ (p ∷ [])) (reverse_aux path (β ++ spelled w))
  step_last path w {β = β} {A = A} r d =
      rw (reverse_aux-eq path (β ++ spelled w))
      (steps_trans (rw (reverse_aux-eq path (Nonterminal A ∷ spelled w)) at d) (next (rightmost (reverse path) w r) stay))

  -- from states over a form, the list read backwards derives the form followed by what is unread
  accepted_steps : {s : ℕ} {σ w ps : List ℕ} → Accepting g cell move (s ∷ σ) w ps → (γ : Form) → Stands g paths s σ γ
      → RightmostSteps g (Nonterminal g.start ∷ []) (reverse ps) (reverse_aux γ (spelled w))
  accepted_steps (accepts {s = s} e) γ st =
      rw (along_finish_only g γ (state_has (on_top st) (accept_finish ((exact.cells s endmark accept).0 e)))) stay
  accepted_steps (shifts {s = s} {t = t} {j = j} e a) γ st =
      let leads : LeadsTo g paths s (Token t) j = shift_leads ((exact.cells s (token t) (shift j)).0 e) in
      accepted_steps a (Token t ∷ γ) (above (leads_state (on_top st) leads) st)
  accepted_steps (reduces {s = s} {p = p} {A = A} {k = k} {j = j} {β = β} {below = below} {rest = rest} {w = w} {ps = ps} e r d m a) γ st =
      let h : Along g γ (dotted p (length β)) =
      state_has (on_top st) (reduce_ends r ((exact.cells s (front w) (reduce p)).0 e)) in
      back (uncover r (length β) st h) (λ path under. accepted_steps a (Nonterminal A ∷ path) under)
    where
      back : Uncovered g paths (length β) s below γ β
          → ((path : Form) → Stands g paths j (k ∷ rest) (Nonterminal A ∷ path) → RightmostSteps g (Nonterminal g.start ∷ []) (reverse ps) (reverse_aux path (Nonterminal A ∷ spelled w)))
          → RightmostSteps g (Nonterminal g.start ∷ []) (reverse (p ∷ ps)) (reverse_aux γ (spelled w))
      back under steps =
          let top : under.top ≡ k = cc in
          let others : under.rest ≡ rest = cc in
          let stands : Stands g paths k rest under.path = rw (top, others) at under.stands in
          let leads : LeadsTo g paths k (Nonterminal A) j = (exact.moves k A j).0 m in
          let form : reverse_aux γ (spelled w) ≡ reverse_aux under.path (β ++ spelled w) =
          rw take-length at (under.form (spelled w)) in
          rw (reverse-cons p ps, form)
          (step_last under.path w r (steps under.path (above (leads_state (on_top stands) leads) stands)))

  pub accepts_reduces : IsState (collection g) paths 0 []
      → {w ps : List ℕ}
      → SlrAccepts g cell move w ps
      → Reduces g ps w
  accepts_reduces zeroth {w} a = steps_rightmost w (accepted_steps a [] (bottom zeroth))
