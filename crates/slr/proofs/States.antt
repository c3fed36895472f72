-- The states' numbering: the collection is lawful, each state is one that a path with an item leads to, and each such
-- path leads to a state.
use mathlib.Core.Path.{◌≡◌, refl, sym, ap, ◌∙◌, subst}
use mathlib.Core.List.{List, [], ◌∷◌}
use mathlib.Core.Option.{some-injective}
use Prim.Native.Nat.{ℕ, ◌+◌, ◌<◌}
use native.Mathlib.Omega.{arith}
use Rattle.grammar.specs.declared.Symbol.{Symbol}
use Rattle.grammar.specs.declared.Symbol.TheVariants.{Token, Nonterminal}
use Rattle.grammar.specs.Grammar.{Form, Grammar, Known, known_token, known_nonterminal, WellFormed}
use Rattle.numbering.specs.Numbering.{Lawful, IsState, Leads, here, on}
use Rattle.numbering.proofs.Promise.{moves_cell}
use Rattle.numbering.proofs.Promise.{found_reaches}
use Rattle.slr.specs.Items.{Item, begin, Advances, Along}
use Rattle.slr.specs.States.{columns_of, SameState, GoesTo, SymbolColumn, column_token, column_nonterminal, MovesTo, collection, NumberedStates, InState, LeadsTo}
use Rattle.slr.proofs.Items.{same_itself, same_back, same_trans, along_same, along_begin, along_advances, along_before, advances_known}

module _ {g : Grammar} where
  -- a column is one symbol's only
  column_symbol : {x y : Symbol} {c d : ℕ} → SymbolColumn g x c → SymbolColumn g y d → c ≡ d → x ≡ y
  column_symbol (column_token h) (column_token k) e = ap {B = Symbol} Token e
  column_symbol (column_token h) (column_nonterminal k) e = absurd (omega arith)
  column_symbol (column_nonterminal h) (column_token k) e = absurd (omega arith)
  column_symbol (column_nonterminal {A = A} h) (column_nonterminal {A = B} k) e =
      let same : A ≡ B = omega arith in ap {B = Symbol} Nonterminal same

  pub column_inside : {x : Symbol} {c : ℕ} → SymbolColumn g x c → c < columns_of g
  column_inside (column_token h) = omega arith
  column_inside (column_nonterminal h) = omega arith

  pub known_column : {x : Symbol} → Known g x → (c : ℕ) × SymbolColumn g x c
  known_column (known_token {t = t} h) = (t, column_token h)
  known_column (known_nonterminal {A = A} h) = (g.tokens + 1 + A, column_nonterminal h)

  one_move : (c : ℕ) (γ γ' δ δ' : Form)
      → SameState g γ γ'
      → MovesTo g γ c δ
      → MovesTo g γ' c δ'
      → SameState g δ δ'
  one_move c γ γ' δ δ' s m n =
      let symbol : n.symbol ≡ m.symbol = column_symbol n.column m.column refl in
      let last : SameState g (m.symbol ∷ γ') δ' =
      subst (λ (x : Symbol). SameState g (x ∷ γ') δ') symbol n.goes.same in
      same_trans (same_back m.goes.same) (same_trans (along_same g γ γ' m.symbol s) last)

  both_move : (c : ℕ) (γ γ' δ : Form) → SameState g γ γ' → MovesTo g γ c δ → MovesTo g γ' c δ
  both_move c γ γ' δ s m =
      let over : SameState g (m.symbol ∷ γ) (m.symbol ∷ γ') = along_same g γ γ' m.symbol s in
      record {
        symbol = m.symbol;
        column = m.column;
        goes =
            record {
              item = m.goes.item;
              inside = over.into m.goes.item m.goes.inside;
              same = same_trans (same_back over) m.goes.same;
            };
      }

pub collection_lawful : (g : Grammar) → Lawful (collection g)
collection_lawful g =
    record {
      reflexive = λ γ. same_itself (Along g γ);
      symmetric = λ γ δ s. same_back s;
      transitive = λ γ δ ε s t. same_trans s t;
      one_start = λ γ δ e f. rw (e, f) (same_itself (Along g []));
      one_move = one_move;
      both_move = λ c γ γ' δ s m. (δ, both_move c γ γ' δ s m);
    }

module _ {g : Grammar} {paths : List Form} where
  -- an item along a path is in that path's state, and the other way round
  pub in_state : {s : ℕ} {γ : Form} {i : Item} → IsState (collection g) paths s γ → Along g γ i → InState g paths s i
  in_state {i = i} is h = record { path = is.state; at = is.at; inside = is.same.into i h }

  pub state_has : {s : ℕ} {γ : Form} {i : Item} → IsState (collection g) paths s γ → InState g paths s i → Along g γ i
  state_has {i = i} is h =
      let path : h.path ≡ is.state = some-injective h.path is.state (sym h.at ∙ is.at) in
      is.same.back i (subst (λ (δ : Form). Along g δ i) path h.inside)

  -- where a state leads is the state of the path that is one symbol longer
  pub leads_state : {s t : ℕ} {x : Symbol} {γ : Form}
      → IsState (collection g) paths s γ
      → LeadsTo g paths s x t
      → IsState (collection g) paths t (x ∷ γ)
  leads_state {x = x} {γ} is leads =
      let path : is.state ≡ leads.from = some-injective is.state leads.from (sym is.at ∙ leads.at) in
      let same : SameState g γ leads.from = subst (SameState g γ) path is.same in
      record {
        state = leads.to;
        at = leads.there;
        same = same_trans (along_same g γ leads.from x same) leads.goes.same;
      }

  pub state_leads : {s t : ℕ} {x : Symbol} {γ : Form} (i : Item)
      → IsState (collection g) paths s γ
      → IsState (collection g) paths t (x ∷ γ)
      → Along g (x ∷ γ) i
      → LeadsTo g paths s x t
  state_leads {x = x} {γ} i from to h =
      let over : SameState g (x ∷ γ) (x ∷ from.state) = along_same g γ from.state x from.same in
      record {
        from = from.state;
        to = to.state;
        at = from.at;
        there = to.at;
        goes = record { item = i; inside = over.into i h; same = same_trans (same_back over) to.same };
      }

module _ {g : Grammar} (well : WellFormed g) {paths : List Form} (numbered : NumberedStates g paths) where
  -- where the dot stands before x, x leads to a state
  pub leads_on : {s : ℕ} {γ : Form} {i j : Item} {x : Symbol}
      → IsState (collection g) paths s γ
      → Along g γ i
      → Advances g i x j
      → (t : ℕ) × IsState (collection g) paths t (x ∷ γ)
  leads_on {s} {γ} {i} {j} {x} is h a =
      let (c, column) = known_column (advances_known well a) in
      let goes : GoesTo g γ x (x ∷ γ) =
      record { item = j; inside = along_advances g γ h a; same = same_itself (Along g (x ∷ γ)) } in
      let moves : MovesTo g γ c (x ∷ γ) = record { symbol = x; column = column; goes = goes } in
      let (t, names, to) =
      moves_cell (collection_lawful g) numbered.found s c γ (x ∷ γ) (column_inside column) is moves in
      (t, to)

  -- state 0 is that of the empty path
  pub state_zero : IsState (collection g) paths 0 []
  state_zero = numbered.found.found.first [] refl

  -- a path with an item leads to a state
  pub path_state : (γ : Form) (i : Item) → Along g γ i → (s : ℕ) × IsState (collection g) paths s γ
  path_state [] i h = (0, state_zero)
  path_state (x ∷ γ) i h =
      let (j, moved) = along_before g γ x i h in
      let (s, is) = path_state γ moved.item moved.inside in
      leads_on is moved.inside moved.advances

  leads_some : {γ δ : Form} {w : List ℕ}
      → Leads (collection g) γ w δ
      → (i : Item) × Along g γ i
      → (i : Item) × Along g δ i
  leads_some here h = h
  leads_some (on c moves rest) h =
      leads_some rest (moves.goes.item, moves.goes.same.into moves.goes.item moves.goes.inside)

  -- and each state has one
  pub state_some : (s : ℕ) (γ : Form) → IsState (collection g) paths s γ → (i : Item) × Along g γ i
  state_some s γ is =
      let (δ, (start, w, empty, leads), same) = (found_reaches (collection_lawful g) numbered.found γ).0 (s, is) in
      let (i, h) = leads_some leads (begin, rw empty (along_begin g)) in
      (i, same.into i h)
