-- The expected set as the code collects it, and the answer to an outcome.
use mathlib.Core.Path.{◌≡◌, refl, ◌∙◌, ap}
use mathlib.Core.Logic.{◌≢◌}
use mathlib.Core.List.{List}
use Prim.Native.Nat.{ℕ, suc, ◌+◌, ◌*◌, ◌≤◌, ◌<◌}
use native.Mathlib.Nat.{mul-le-mul}
use native.Mathlib.Numerals.{add-one}
use native.Mathlib.Omega.{arith}
use borrow.Author.Tests.{ne_eqb}
use lib.ListN.{get_or}
use Rattle.grammar.specs.Grammar.{Grammar}
use Rattle.sets.specs.Calls.{number, None, With}
use Rattle.sets.specs.Sets.{column_place}
use Rattle.sets.specs.declared.Set.{Set}
use Rattle.sets.proofs.Promise.{none_is, number_unique}
use Rattle.answers.specs.Answers.{done, stop, no_set, at_depth}
use Rattle.answers.specs.Refusals.{room, syntax, stack_room, list_room}
use Rattle.answers.specs.declared.Answer.{Answer}
use Rattle.book.specs.Columns.{Outlines}
use Rattle.book.specs.declared.columns.Outline.{Outline}
use Rattle.run.proofs.Promise.{with_marks}
use Rattle.slr.specs.Ends.{slr_final}
use Rattle.slr_run.specs.Running.{slr_filled_below, slr_expected, slr_values, slr_answered}
use Rattle.slr_run.specs.Checking.{columns_in}
use Rattle.slr_run.specs.Stages.{stage_in, stage_of, reason_in, outcome_in}
use Rattle.slr_run.specs.Answering.{WithColumn, Expects, Values, Answers}
use Rattle.slr_run.specs.declared.Cause.TheVariants.{FullList, FullStack, Wants}
use Rattle.std.specs.Prelude.{Ok, Err}
use Rattle.slr_run.specs.Stages.{Reply}
use Rattle.slr_run.specs.declared.Halt.{Halt}
use Rattle.slr_run.specs.declared.Stage.{Stage}

module _ (o : Outline) (table : List ℕ) (state column : ℕ) {columns cell : ℕ} (wide : columns ≡ columns_in o)
    (there : cell ≡ get_or table (state * columns + column) 65535) where
  cell_there : {g : Grammar} → Outlines o g → get_or table (state * (g.tokens + 1 + g.nonterminals) + column) 65535 ≡ cell
  cell_there sized = rw (sized.tokens, sized.nonterminals, there, wide)

  pub column_vacant : {s : Set} → cell ≡ 65535 → WithColumn o table state column s s
  unfolding slr_filled_below
  column_vacant e =
      record { filled = λ g sized f. rw (add-one column, cell_there sized ∙ e, slr_filled_below) f }

  pub column_filled : {s : Set} {bit : ℕ} {r : Set}
      → cell ≢ 65535
      → With s bit r
      → bit ≡ column_place column o.tokens
      → WithColumn o table state column s r
  unfolding slr_filled_below
  column_filled n h place =
      record {
        filled = λ g sized f. with_marks h ∙ rw (add-one column, cell_there sized, ne_eqb cell 65535 n, slr_filled_below, place, f, sized.tokens);
      }

-- a row of cells begins within what a state times the columns can reach
pub row_bound : (state columns : ℕ) → state < 256 → columns < 512 → state * columns ≤ 130305
row_bound state columns h k = mul-le-mul {n₁ = state} {m₁ = columns} {n₂ = 255} {m₂ = 511} (omega arith) (omega arith)

-- all columns are passed
pub columns_over : {o : Outline} (table : List ℕ) (state : ℕ) {r : Set} {j : ℕ}
    → suc o.tokens ≤ j
    → j ≤ o.tokens + 1
    → ((g : Grammar) → Outlines o g → number r ≡ slr_filled_below g table state j)
    → Expects o table state r
unfolding slr_expected
columns_over {o} table state {r} {j} h k e = record { given = λ g sized. go g sized }
  where
    go : (g : Grammar) → Outlines o g → r ≡ slr_expected g table state
    go g sized =
        let all : j ≡ g.tokens + 1 = omega (arith, sized.tokens) in number_unique (rw all at (e g sized))

stands : {reply : Reply} {at : Stage} {h : Halt} → at ≡ stage_of reply → reply ≡ Err h → at ≡ h.at
unfolding stage_of
stands here e = here ∙ ap stage_of e

module _ {o : Outline} (table : List ℕ) {reply : Reply} {at : Stage} {steps : ℕ} {r : Answer}
    (here : at ≡ stage_of reply) (counts : steps ≡ at.listed + at.matched) where
  pub values_done : {x : Stage} → reply ≡ Ok x → r ≡ done steps → Values o table reply r
  unfolding slr_values outcome_in stage_in stage_of
  values_done {x} e f =
      let same : at ≡ x = here ∙ ap stage_of e in
      record { values = λ g sized stack list. f ∙ ap done counts ∙ rw (e, same) }

  module _ {h : Halt} (e : reply ≡ Err h) {place : ℕ} (placed : place ≡ at.matched) {set : Set} where
    pub values_full_list : h.cause ≡ FullList → None set → r ≡ stop room place list_room steps set → Values o table reply r
    unfolding slr_values outcome_in stage_in reason_in
    values_full_list k n f =
        let none : set ≡ no_set = number_unique (none_is n) in
        record { values = λ g sized stack list. f ∙ rw (placed, counts, none, e, k, stands here e) }

    pub values_full_stack : h.cause ≡ FullStack → None set → r ≡ stop room place stack_room steps set → Values o table reply r
    unfolding slr_values outcome_in stage_in reason_in
    values_full_stack k n f =
        let none : set ≡ no_set = number_unique (none_is n) in
        record { values = λ g sized stack list. f ∙ rw (placed, counts, none, e, k, stands here e) }

    pub values_wants : h.cause ≡ Wants → Expects o table at.top set → r ≡ stop syntax place 0 steps set → Values o table reply r
    unfolding slr_values outcome_in stage_in reason_in
    values_wants k want f =
        record { values = λ g sized stack list. f ∙ rw (placed, counts, want.given g sized, e, k, stands here e) }

outcome_height : (reply : Reply) (stack list : List ℕ) → (slr_final (outcome_in reply stack list)).height ≡ (stage_of reply).deepest
unfolding slr_final outcome_in stage_in stage_of
outcome_height (Ok at) stack list = refl
outcome_height (Err h) stack list = refl

-- the values and the most states held are the answer
pub answers_at : {o : Outline} (table : List ℕ) {reply : Reply} {at : Stage} {values r : Answer}
    → at ≡ stage_of reply
    → Values o table reply values
    → r ≡ at_depth at.deepest values
    → Answers o table reply r
unfolding slr_answered
answers_at table {reply} here v f =
    record { answer = λ g sized stack list. f ∙ rw (here, ← outcome_height reply stack list, v.values g sized stack list) }
