-- The machine with room on small tables: every row of the trials, by computing.
use mathlib.Core.Path.{◌≡◌, refl}
use mathlib.Core.List.{◌++◌}
use Rattle.grammar.specs.Grammar.{Every, nothing, each}
use Rattle.grammar.proofs.Every.{every_append}
use Rattle.slr.specs.RoomMachine.{SlrOffered, slr_begun, shifted, reduced, shifting, uncovering, acting, slr_facing, moving, slr_offer, slr_run_from, left_in, size_in}
use Rattle.slr.specs.Cells.{action_of, move_of, action_in, move_in}
use Rattle.slr.specs.Runs.{Trial, run_on, Passes, room_trials, syntax_trials, foreign_trials, trials}

-- all that a run computes by
unfoldable computed : Trial → SlrOffered
unfolding slr_begun shifted reduced shifting uncovering acting slr_facing moving slr_offer slr_run_from left_in size_in action_of move_of action_in move_in
computed t = run_on t.grammar t.table t.room t.cells t.tokens

passes : (t : Trial) → computed t ≡ t.ends → Passes t
unfolding computed
passes t e = record { runs = e }

room_trials_lem : Every Passes room_trials
unfolding room_trials computed
room_trials_lem =
    each (passes _ refl)
    (each (passes _ refl) (each (passes _ refl) (each (passes _ refl) (each (passes _ refl) (each (passes _ refl) nothing)))))

syntax_trials_lem : Every Passes syntax_trials
unfolding syntax_trials computed
syntax_trials_lem = each (passes _ refl) (each (passes _ refl) (each (passes _ refl) nothing))

foreign_trials_lem : Every Passes foreign_trials
unfolding foreign_trials computed
foreign_trials_lem =
    each (passes _ refl)
    (each (passes _ refl) (each (passes _ refl) (each (passes _ refl) (each (passes _ refl) (each (passes _ refl) nothing)))))

pub trials_pass : Every Passes trials
trials_pass =
    every_append room_trials (syntax_trials ++ foreign_trials) room_trials_lem
    (every_append syntax_trials foreign_trials syntax_trials_lem foreign_trials_lem)
