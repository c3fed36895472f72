-- Two numberings of a grammar agree, and with them the claims on each cell: there is one table only.
use mathlib.Core.Path.{◌≡◌, refl, sym, ap, ◌∙◌}
use mathlib.Core.List.{List, ◌∷◌}
use Prim.Native.Nat.{ℕ, ◌*◌}
use native.Mathlib.Omega.{arith}
use lib.ListN.{length}
use lib.Seq.{ext_get_or}
use Rattle.grammar.specs.declared.Symbol.{Symbol}
use Rattle.grammar.specs.Grammar.{Form, Grammar, Column}
use Rattle.numbering.specs.Numbering.{IsState}
use Rattle.numbering.proofs.Promise.{is_itself, is_same}
use Rattle.numbering.proofs.Promise.{found_unique}
use Rattle.slr.specs.Items.{Item}
use Rattle.slr.specs.States.{columns_of, collection, NumberedStates, InState, LeadsTo}
use Rattle.slr.specs.Actions.{Action, Acts, shifts, reduces, accepts}
use Rattle.slr.specs.Cells.{empty_cell, SlrClaims, claims_action, claims_move, SlrHolds, only, unclaimed, SlrTableOf}
use Rattle.slr.proofs.States.{collection_lawful, in_state, state_leads}

module _ {g : Grammar} {paths paths' : List Form} (numbered : NumberedStates g paths) (numbered' : NumberedStates g paths') where
  -- a state of one numbering is that state of the other
  state_same : {s : ℕ} {γ : Form} → IsState (collection g) paths s γ → IsState (collection g) paths' s γ
  state_same {s} {γ} is = ((found_unique (collection_lawful g) numbered.found numbered'.found).2 s γ).0 is

  pub same_count : length paths ≡ length paths'
  same_count = (found_unique (collection_lawful g) numbered.found numbered'.found).1

  pub same_cells : numbered.cells ≡ numbered'.cells
  same_cells = (found_unique (collection_lawful g) numbered.found numbered'.found).0

  pub same_in : {s : ℕ} {i : Item} → InState g paths s i → InState g paths' s i
  same_in h = in_state (state_same (is_itself (collection_lawful g) h.at)) h.inside

  pub same_leads : {s j : ℕ} {x : Symbol} → LeadsTo g paths s x j → LeadsTo g paths' s x j
  same_leads {x = x} l =
      let law = collection_lawful g in
      let to : IsState (collection g) paths' _ (x ∷ l.from) =
      is_same law l.goes.same (state_same (is_itself law l.there)) in
      state_leads l.goes.item (state_same (is_itself law l.at)) to l.goes.inside

  pub same_acts : {s : ℕ} {c : Column} {a : Action} → Acts g paths s c a → Acts g paths' s c a
  same_acts (shifts l) = shifts (same_leads l)
  same_acts (reduces r h f) = reduces r (same_in h) f
  same_acts (accepts h) = accepts (same_in h)

  pub same_claims : {i v : ℕ} → SlrClaims g paths i v → SlrClaims g paths' i v
  same_claims (claims_action c a) = claims_action c (same_acts a)
  same_claims (claims_move e l) = claims_move e (same_leads l)

module _ {g : Grammar} {paths paths' : List Form} (numbered : NumberedStates g paths) (numbered' : NumberedStates g paths') where
  holds_same : {i v u : ℕ} → SlrHolds g paths i v → SlrHolds g paths' i u → v ≡ u
  holds_same (only {v = v} c one) (only d other) = other v (same_claims numbered numbered' c)
  holds_same (only {v = v} c one) (unclaimed nothing) = absurd (nothing v (same_claims numbered numbered' c))
  holds_same (unclaimed nothing) (only {v = u} d other) = absurd (nothing u (same_claims numbered' numbered d))
  holds_same (unclaimed nothing) (unclaimed other) = refl

  pub table_unique : {table table' : List ℕ} → SlrTableOf g paths table → SlrTableOf g paths' table' → table ≡ table'
  table_unique {table} {table'} made made' =
      let size : length table ≡ length table' =
      made.sized ∙ ap (λ (n : ℕ). columns_of g * n) (same_count numbered numbered') ∙ sym made'.sized in
      ext_get_or empty_cell table table' size (λ i h. holds_same (made.holds i h) (made'.holds i (omega arith)))
