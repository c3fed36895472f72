-- A table that was built passes refusal 9.
use mathlib.Core.Path.{◌≡◌, refl, sym, ◌∙◌, ap}
use mathlib.Core.List.{List}
use Prim.Native.Nat.{ℕ, ◌+◌, ◌*◌, ◌/◌, ◌%◌, ◌<◌}
use native.Mathlib.Nat.{mul_comm, add-zero}
use native.Mathlib.Omega.{arith}
use lib.Arith.{digits_div, digits_mod}
use lib.ListN.{length}
use Rattle.grammar.specs.declared.Symbol.TheVariants.{Nonterminal}
use Rattle.grammar.specs.Grammar.{Form, Grammar, Column}
use Rattle.grammar.proofs.Rules.{below_rule}
use Rattle.numbering.proofs.Promise.{inside}
use Rattle.slr.specs.States.{columns_of, LeadsTo}
use Rattle.slr.specs.Actions.{Action, Acts}
use Rattle.slr.specs.Cells.{code_of, ActionColumn, under_token, under_end, SlrHolds, only, unclaimed, SlrClaims, claims_action, claims_move}
use Rattle.slr.specs.Built.{SlrBuilt}
use Rattle.slr.proofs.Promise.{state_zero}
use Rattle.slr.proofs.Promise.{slr_built_formed}
use Rattle.slr_run.specs.Fitting.{rows_in, NumberFits, empty, shifts, reduces, accepts, moves, SlrFits}

module _ {g : Grammar} {paths : List Form} where
  -- an action stands under its column
  action_fits : {s n : ℕ} {c : Column} {a : Action}
      → ActionColumn g c n
      → Acts g paths s c a
      → NumberFits g.tokens (length g.productions) (length paths) n (code_of a)
  unfolding code_of
  action_fits (under_token h) (Acts.shifts {j = j} l) = shifts h (inside paths j l.there)
  action_fits (under_token h) (Acts.reduces {p = p} r i f) = reduces (omega arith) (below_rule r) refl
  action_fits under_end (Acts.reduces {p = p} r i f) = reduces (omega arith) (below_rule r) refl
  action_fits under_end (Acts.accepts i) = accepts refl refl

  move_fits : {s n A j : ℕ}
      → n ≡ g.tokens + 1 + A
      → LeadsTo g paths s (Nonterminal A) j
      → NumberFits g.tokens (length g.productions) (length paths) n j
  move_fits {j = j} e l = moves (omega arith) (inside paths j l.there)

  holds_fits : {i v : ℕ}
      → SlrHolds g paths i v
      → NumberFits g.tokens (length g.productions) (length paths) (i % columns_of g) v
  holds_fits (only c one) = go c
    where
      go : {i v : ℕ} → SlrClaims g paths i v → NumberFits g.tokens (length g.productions) (length paths) (i % columns_of g) v
      go (claims_action col acts) = action_fits col acts
      go (claims_move e l) = move_fits e l
  holds_fits (unclaimed none_claims) = empty refl

module _ {book table : List ℕ} (built : SlrBuilt book table) where
  abbrev g : Grammar
  g = built.grammar

  size_is : length table ≡ length built.paths * columns_of g + 0
  size_is = built.table_of.sized ∙ mul_comm (columns_of g) (length built.paths) ∙ sym (add-zero (length built.paths * columns_of g))

  rows_are : rows_in g table ≡ length built.paths
  rows_are =
      let some : 0 < columns_of g = omega arith in
      ap (λ (n : ℕ). n / columns_of g) size_is ∙ digits_div (length built.paths) some

  pub built_fits : SlrFits g table
  built_fits =
      let some_column : 0 < columns_of g = omega arith in
      let first : 0 < length built.paths = inside built.paths 0 (state_zero (slr_built_formed built) built.numbered).at in
      record {
        sized = record {
          whole = ap (λ (n : ℕ). n % columns_of g) size_is ∙ digits_mod (length built.paths) some_column;
          some = rw rows_are (omega arith);
          few = rw rows_are built.few;
        };
        cells = λ i h. rw rows_are (holds_fits (built.table_of.holds i h));
      }
