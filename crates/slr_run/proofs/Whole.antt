-- One turn of the loop over the tokens, by what became of a column with the buffers as they are.
use mathlib.Core.Path.{◌≡◌, ◌∙◌, ap, subst}
use mathlib.Core.List.{List}
use Prim.Native.Nat.{ℕ, ◌+◌, ◌≤◌, ◌<◌}
use native.Mathlib.Omega.{arith}
use lib.ListN.{length, get_or, set, length-set}
use Rattle.answers.specs.Buffers.{counted}
use Rattle.slr.specs.RoomMachine.{Setting}
use Rattle.slr_run.specs.Stages.{column_at}
use Rattle.slr_run.specs.Machines.{machine_rows, machine_setting}
use Rattle.slr_run.specs.declared.reading.Machine.{Machine}
use Rattle.slr_run.specs.Reducing.{Offered, Ended}
use Rattle.std.specs.Prelude.{Ok, Err}
use Rattle.slr_run.specs.Stages.{Reply}
use Rattle.slr_run.specs.declared.Halt.{Halt}
use Rattle.slr_run.specs.declared.Stage.{Stage}
use Rattle.slr_run.proofs.Strings.{ColumnOf, column_low, Running, running_stopped, running_over, running_next, setting_same}

module _ (b : Machine) (tokens stack₀ list₀ : List ℕ) where
  abbrev pub setting : Setting
  setting = machine_setting b (counted stack₀) (counted list₀)

  abbrev pub Walking : Stage → (stack list : List ℕ) → Type 0
  Walking = Running setting (machine_rows b) tokens stack₀ list₀

  module _ (known : (i : ℕ) → i < length tokens → get_or tokens i 0 < b.outline.tokens) {at : Stage} {stack list : List ℕ}
      (w : Walking at stack list) {column : ℕ}
      (is : (at.matched < length tokens → column ≡ get_or tokens at.matched 0) × (length tokens ≤ at.matched → column ≡ b.outline.tokens)) where
    column_is : ColumnOf b.outline.tokens tokens at.matched column
    column_is = record { inside = is.0; over = is.1 }

    pub walk_low : column ≤ b.outline.tokens
    walk_low = column_low b.outline.tokens tokens known column_is

    module _ {r : Reply} {stack' list' : List ℕ}
        (told : Offered (machine_setting b (counted stack) (counted list)) (machine_rows b) (column_at b.outline.tokens column) at stack list r stack' list') where
      -- the room is what it was
      offered : Offered setting (machine_rows b) (column_at b.outline.tokens column) at stack list r stack' list'
      offered =
          subst (λ (m : Setting). Offered m (machine_rows b) (column_at b.outline.tokens column) at stack list r stack' list')
          (setting_same b stack list stack₀ list₀ w.kept.stack_length w.kept.list_length) told

      -- that state 0 is put on the stack changes no room
      lent : (entry : List ℕ) {x : Reply}
          → stack₀ ≡ set entry 0 0
          → Ended setting tokens stack₀ list₀ x stack' list'
          → Ended (machine_setting b (counted entry) (counted list₀)) tokens entry list₀ x stack' list'
      lent entry {x} put e =
          let long : length stack₀ ≡ length entry = ap length put ∙ length-set entry 0 0 in
          let same : setting ≡ machine_setting b (counted entry) (counted list₀) = rw long in
          let told_of = subst (λ (m : Setting). Ended m tokens stack₀ list₀ x stack' list') same e in
          record {
            ends = told_of.ends;
            lists = told_of.lists;
            listed = told_of.listed;
            few = told_of.few;
            stack_length = told_of.stack_length ∙ long;
            list_length = told_of.list_length;
          }

      pub walk_stopped : (entry : List ℕ) {h : Halt}
          → stack₀ ≡ set entry 0 0
          → r ≡ Err h
          → Ended (machine_setting b (counted entry) (counted list₀)) tokens entry list₀ r stack' list'
      walk_stopped entry put e =
          lent entry put
          (running_stopped setting (machine_rows b) tokens stack₀ list₀ b.outline.tokens known w column_is offered
          (λ y f. let bad : ◌≡◌ {A = ℕ} 0 1 = cc in omega arith))

      pub walk_over : (entry : List ℕ)
          → stack₀ ≡ set entry 0 0
          → length tokens ≤ at.matched
          → Ended (machine_setting b (counted entry) (counted list₀)) tokens entry list₀ r stack' list'
      walk_over entry put h =
          lent entry put (running_over setting (machine_rows b) tokens stack₀ list₀ b.outline.tokens known w column_is offered h)

      pub walk_next : {x : Stage} → r ≡ Ok x → at.matched < length tokens → Walking x stack' list' × (x.matched ≡ at.matched + 1)
      walk_next e h = running_next setting (machine_rows b) tokens stack₀ list₀ b.outline.tokens known w column_is offered e h
