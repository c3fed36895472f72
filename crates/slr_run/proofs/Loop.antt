-- One turn of the loop that makes a column's reductions, by what was decided with the buffers as they are.
use mathlib.Core.Path.{◌≡◌, refl, ap, subst}
use mathlib.Core.List.{List}
use Prim.Native.Nat.{ℕ, ◌+◌, ◌-◌, ◌<◌}
use lib.ListN.{length, set}
use Rattle.grammar.specs.Grammar.{Column}
use Rattle.answers.specs.Buffers.{counted}
use Rattle.slr.specs.RoomMachine.{Setting}
use Rattle.slr_run.specs.Stages.{setting_by, held_by}
use Rattle.slr_run.specs.Machines.{machine_rows, machine_setting}
use Rattle.slr_run.specs.declared.reading.Machine.{Machine}
use Rattle.slr_run.specs.Deciding.{Turns}
use Rattle.slr_run.specs.Reducing.{reduced_to, finished, finished_stack, Offered}
use Rattle.slr_run.specs.declared.Ending.TheVariants.{Shift}
use Rattle.slr_run.specs.declared.Ending.{Ending}
use Rattle.slr_run.specs.Stages.{Reply}
use Rattle.slr_run.specs.declared.Stage.{Stage}
use Rattle.slr_run.specs.declared.Turn.TheVariants.{Reduce, Finish}
use Rattle.slr_run.specs.declared.Turn.{Turn}
use Rattle.slr_run.proofs.Turning.{Turning, reduce_fits, shift_fits, turning_reduce, turning_finish}

module _ (b : Machine) (c : Column) (at₀ : Stage) (stack₀ list₀ : List ℕ) where
  abbrev pub setting : Setting
  setting = machine_setting b (counted stack₀) (counted list₀)

  room_is : setting.room ≡ counted stack₀
  unfolding setting_by
  room_is = refl

  cells_are : setting.cells ≡ counted list₀
  unfolding setting_by
  cells_are = refl

  abbrev pub Looping : Stage → (stack list : List ℕ) → Type 0
  Looping = Turning setting (machine_rows b) c at₀ stack₀ list₀

  module _ {at : Stage} {stack list : List ℕ} (t : Looping at stack list) {cells : ℕ} (counts : cells ≡ counted list₀) {turn : Turn}
      (decided : Turns (machine_setting b (counted stack) cells) (machine_rows b) c at.top (held_by stack (at.height - 1)) at.listed turn) where
    -- the room is what it was
    says : {x : Turn} → turn ≡ x → Turns setting (machine_rows b) c at.top (held_by stack (at.height - 1)) at.listed x
    says {x} e =
        let same : machine_setting b (counted stack) cells ≡ setting = rw (t.kept.stack_length, counts) in
        subst (λ (y : Turn). Turns setting (machine_rows b) c at.top (held_by stack (at.height - 1)) at.listed y) e
        (subst (λ (m : Setting). Turns m (machine_rows b) c at.top (held_by stack (at.height - 1)) at.listed turn) same decided)

    pub loop_fits : {p j base : ℕ} → turn ≡ Reduce p j base → (base + 1 < counted stack) × (at.listed < counted list)
    loop_fits e = reduce_fits setting (machine_rows b) c at₀ stack₀ list₀ room_is cells_are t (says e)

    pub loop_shifts : {e : Ending} → turn ≡ Finish e → (j : ℕ) → e ≡ Shift j → at.height < length stack
    loop_shifts e = shift_fits setting (machine_rows b) c at₀ stack₀ list₀ room_is cells_are t (says e)

    pub loop_reduce : {p j base : ℕ} {x : Stage}
        → turn ≡ Reduce p j base
        → x ≡ reduced_to j base at
        → Looping x (set stack (base + 1) j) (set list at.listed p)
    loop_reduce e f = rw f (turning_reduce setting (machine_rows b) c at₀ stack₀ list₀ room_is cells_are t (says e))

    pub loop_listed : {p j base : ℕ} {x : Stage} → turn ≡ Reduce p j base → x ≡ reduced_to j base at → x.listed ≡ at.listed + 1
    unfolding reduced_to
    loop_listed e f = ap (λ (z : Stage). z.listed) f

    pub loop_finish : {e : Ending} {r : Reply} {after : List ℕ}
        → turn ≡ Finish e
        → r ≡ finished e at
        → after ≡ finished_stack e at stack
        → Offered setting (machine_rows b) c at₀ stack₀ list₀ r after list
    loop_finish e f g = rw (f, g) (turning_finish setting (machine_rows b) c at₀ stack₀ list₀ room_is cells_are t (says e))
