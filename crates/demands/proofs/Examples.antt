-- The starred examples: the definitions give each row's answer and buffers.
use mathlib.Core.List.{[], ◌∷◌}
use native.Mathlib.Omega.{arith}
use lib.Dec.{ltb, ltb→lt}
use lib.ListN.{get_or}
use Rattle.grammar.specs.Grammar.{Every, nothing, each}
use Rattle.grammar.specs.House.{house}
use Rattle.grammar.proofs.Tests.{below, below_each}
use Rattle.grammar.proofs.Every.{every_map}
use Rattle.sets.specs.Sets.{only, united, added}
use Rattle.answers.specs.Answers.{done, refusal, stop, at_depth}
use Rattle.book.proofs.Promise.{house_serves, useless_refused}
use Rattle.table.specs.Examples.{house_table}
use Rattle.table.specs.Calls as calls
use Rattle.table.specs.Table.{held, cell_of}
use Rattle.table.proofs.Promise.{house_table_of, conflicted_house_build, nested_build, build_outcome_unique, table_fits}
use Rattle.machine.specs.Machine.{begun, meets, popped, replaced, used, facing, offer, run_from, final}
use Rattle.machine.specs.Expansion.{ended, wrote, applied, writing, applying, expand_from, opened}
use Rattle.machine.specs.Room.{right_of, is_of}
use Rattle.offer.specs.Stops.{marking, filled_below, expected, answered, run_answer}
use Rattle.offer.specs.Strings.{ran}
use Rattle.run.specs.Running.{FirstStrange, strange}
use Rattle.run.specs.Running as running
use Rattle.run.proofs.Promise.{run_outcome_unique}
use Rattle.expand.specs.Expanding.{closing, answered_by, expand_answer}
use Rattle.expand.specs.Expanding as expanding
use Rattle.expand.proofs.Promise.{expand_outcome_unique}
use Rattle.demands.specs.Examples.{Example, Allowed, Given, answering, runs, expands, example_a, example_b, example_c, example_d, example_e, example_f, example_g, refuses_building, example_h1, example_i, example_j, example_k, example_kShort, example_aList, example_aList_low, example_aList_short, examples}
use Rattle.demands.specs.Examples as rows
use Rattle.demands.proofs.House.{house_admits}

-- token 4 stands at place 2, and is the first that H does not have
four_strange : FirstStrange house (0 ∷ 1 ∷ 4 ∷ []) 2
unfolding house below
four_strange =
    record {
      inside = omega arith;
      lowest =
          record {
            within = omega arith;
            earlier = λ i h above. omega (arith, above, ltb→lt (get_or (0 ∷ 1 ∷ 4 ∷ []) i 0) 4 (below_each 2 (λ i. ltb (get_or (0 ∷ 1 ∷ 4 ∷ []) i 0) 4) tt i h));
            found = λ h. omega arith;
          };
    }

-- the definitions allow every row
pub examples_allowed : Every Allowed examples
unfolding examples Allowed example_a example_b example_c example_d example_e example_f example_g refuses_building example_h1 example_i example_j example_k example_kShort example_aList example_aList_low example_aList_short runs expands answering house house_table below begun meets popped replaced used facing offer run_from right_of is_of cell_of held only united added marking filled_below ran expected answered run_answer at_depth final done stop refusal ended wrote applied writing applying expand_from opened closing answered_by expand_answer
examples_allowed =
    each {x = example_a} (running.ended house_serves (house_admits _ (omega arith) tt _ (omega arith)))
    (each {x = example_b} (running.ended house_serves (house_admits _ (omega arith) tt _ (omega arith)))
    (each {x = example_c} (running.ended house_serves (house_admits _ (omega arith) tt _ (omega arith)))
    (each {x = example_d} (running.ended house_serves (house_admits _ (omega arith) tt _ (omega arith)))
    (each {x = example_e} (running.ended house_serves (house_admits _ (omega arith) tt _ (omega arith)))
    (each {x = example_f} (running.ended house_serves (house_admits _ (omega arith) tt _ (omega arith)))
    (each {x = example_g} (running.barred house_serves (strange (table_fits house_table_of) (omega arith) four_strange))
    (each {x = example_h1} (conflicted_house_build (omega arith) (omega arith) (omega arith))
    (each {x = example_i} (calls.refused useless_refused)
    (each {x = example_j} (nested_build (omega arith) (omega arith) (omega arith))
    (each {x = example_k} (expanding.ended house_serves (omega arith) (omega arith))
    (each {x = example_kShort} (expanding.ended house_serves (omega arith) (omega arith))
    (each {x = example_aList} (expanding.ended house_serves (omega arith) (omega arith))
    (each {x = example_aList_low} (expanding.ended house_serves (omega arith) (omega arith))
    (each {x = example_aList_short} (expanding.ended house_serves (omega arith) (omega arith)) nothing))))))))))))))

-- what the promise allows of a call is determined
pub allowed_given : (x : Example) → Allowed x → Given x
unfolding Allowed Given
allowed_given (rows.building book first follow table r) o = λ x may.
    let same = build_outcome_unique book first follow table may o in
    λ i. record { answer = (same i).0; first = (same i).1; follow = (same i).2; table = (same i).3 }
allowed_given (rows.running book table tokens stack list r) o = λ x may.
    let same = run_outcome_unique book table tokens stack list may o in
    λ i. record { answer = (same i).0; stack = (same i).1; list = (same i).2 }
allowed_given (rows.expanding book list stack output r) o = λ x may.
    let same = expand_outcome_unique book list stack output may o in
    λ i. record { answer = (same i).0; stack = (same i).1; output = (same i).2 }

-- and no other: what a call of a row leaves is the row's outcome
pub examples_given : Every Given examples
examples_given = every_map allowed_given examples_allowed
