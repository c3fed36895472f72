-- Programs that do no work fail the very demand that document 01 names, on house book H.
use mathlib.Core.Path.{◌≡◌, refl, sym, ap, ◌∙◌}
use mathlib.Core.Logic.{⊎_elim, ◌≢◌}
use mathlib.Core.List.{List, [], ◌∷◌}
use Prim.Native.Nat.{ℕ, ◌≤◌}
use native.Mathlib.Omega.{arith}
use lib.ListN.{take, get_or, replicate}
use Rattle.grammar.specs.Grammar.{Complete, done, shift, expand}
use Rattle.grammar.specs.House.{house}
use Rattle.grammar.specs.Machine.{Longest}
use Rattle.grammar.proofs.House.{house_no_conflict, house_place, house_not_derivable, house_well_formed, house_useful_lem}
use Rattle.grammar.proofs.Leftmost.{leftmost_derives}
use Rattle.grammar.proofs.Tests.{below}
use Rattle.grammar.proofs.Theorems.{place_determined}
use Rattle.answers.specs.declared.Answer.{Answer}
use Rattle.answers.specs.Answers as answers
use Rattle.answers.specs.Refusals.{syntax}
use Rattle.answers.specs.Buffers.{over}
use Rattle.book.specs.Examples.{house_book}
use Rattle.book.proofs.Promise.{house_serves}
use Rattle.table.specs.Table.{held, TableOf, cell_of}
use Rattle.table.specs.Examples.{house_table}
use Rattle.table.proofs.Promise.{table_unique, house_table_of, house_built}
use Rattle.machine.specs.Machine.{begun, meets, popped, replaced, used, facing, offer, run_from, final}
use Rattle.machine.specs.Room.{right_of, peak}
use Rattle.machine.specs.Stopping.{Decided, refused, wanted_row}
use Rattle.machine.proofs.Promise.{run_place}
use Rattle.offer.specs.Strings.{ran}
use Rattle.run.specs.Running.{Admits}
use Rattle.demands.specs.Demands.{Ran, Premises, RunRoom, BuildMeets2, ExpandMeets2, RunMeets2, RunMeets3, RunStepsAdd}
use Rattle.demands.specs.Idle.{Builder, Runner, Expander, RefusesEverything, FixedOutput, FixedList, LeavesList, LeavesTable, JudgesAtFirst, InventsSteps, writing, writing_output, untouching, untouching_build, judged, judging_first}
use Rattle.demands.proofs.House.{house_premises, house_admits}
use Rattle.demands.proofs.Kept.{premises_exact}
use Rattle.demands.proofs.Demands.{premises_room}

-- the strings and lists of examples D and A, and the string of F
abbrev string_d : List ℕ
string_d = 0 ∷ 1 ∷ []

abbrev list_d : List ℕ
list_d = 0 ∷ 1 ∷ 3 ∷ 5 ∷ []

abbrev string_a : List ℕ
string_a = 0 ∷ 1 ∷ 2 ∷ 1 ∷ 3 ∷ 1 ∷ []

abbrev list_a : List ℕ
list_a = 0 ∷ 1 ∷ 2 ∷ 4 ∷ 1 ∷ 3 ∷ 5 ∷ []

abbrev string_f : List ℕ
string_f = 0 ∷ 1 ∷ 1 ∷ []

-- lent cells
abbrev nines : List ℕ
nines = 9 ∷ 9 ∷ 9 ∷ 9 ∷ 9 ∷ 9 ∷ 9 ∷ []

derivation_d : Complete house list_d string_d
unfolding house
derivation_d = expand (record { at = refl }) (shift (expand (record { at = refl }) (shift (expand (record { at = refl }) (expand (record { at = refl }) done)))))

derivation_a : Complete house list_a string_a
unfolding house
derivation_a =
    expand (record { at = refl }) (shift (expand (record { at = refl }) (shift (expand (record { at = refl }) (shift (shift (expand (record { at = refl })
    (shift (expand (record { at = refl }) (shift (expand (record { at = refl }) (expand (record { at = refl }) done))))))))))))

peak_d : peak derivation_d ≤ 7
unfolding house derivation_d peak
peak_d = omega arith

peak_a : peak derivation_a ≤ 7
unfolding house derivation_a peak
peak_a = omega arith

premises_d : Premises house_book house_table string_d
unfolding below
premises_d = house_premises string_d (omega arith) tt

premises_a : Premises house_book house_table string_a
unfolding below
premises_a = house_premises string_a (omega arith) tt

-- D is a derivable string with room, so it is served
served_d : (r : Ran) → RunMeets3 house_book house_table string_d nines nines r → r.answer.number ≡ 0
unfolding house_built house_premises premises_d
served_d r meets = ⊎_elim (λ n. n) (λ n. absurd (⊎_elim (λ l. omega arith) (λ l. omega (arith, peak_d)) ((meets.room_iff premises_d derivation_d).0 n))) (meets.served_or_room premises_d derivation_d)

-- one that refuses everything breaks demand 3 on a derivable string with room
pub refuses_everything_fails : {run : Runner} → RefusesEverything run → ¬ RunMeets3 house_book house_table string_d nines nines (run house_book house_table string_d nines nines)
refuses_everything_fails idle meets = idle.refuses house_book house_table string_d nines nines (served_d _ meets)

-- D's and A's strings differ, and so do their lists
strings_differ : over string_d nines ≢ over string_a nines
strings_differ e = let third : ◌≡◌ {A = ℕ} 9 2 = ap (λ (l : List ℕ). get_or l 2 0) e in omega arith

lists_differ : over list_d nines ≢ over list_a nines
lists_differ e = let third : ◌≡◌ {A = ℕ} 3 2 = ap (λ (l : List ℕ). get_or l 2 0) e in omega arith

-- one with a single fixed answer breaks demand 2, since D and A differ: as an expansion
pub fixed_output_fails : {expand : Expander} → FixedOutput expand
    → ExpandMeets2 house_book list_d nines nines (expand house_book list_d nines nines) → ¬ ExpandMeets2 house_book list_a nines nines (expand house_book list_a nines nines)
fixed_output_fails idle meets_d meets_a =
    let d = (meets_d.expands house_serves derivation_d (omega arith) peak_d (omega arith)).1 in
    let a = (meets_a.expands house_serves derivation_a (omega arith) peak_a (omega arith)).1 in
    strings_differ (sym d ∙ idle.fixed house_book list_d list_a nines nines ∙ a)

-- and as a run
pub fixed_list_fails : {run : Runner} → FixedList run
    → RunMeets2 house_book house_table string_d nines nines (run house_book house_table string_d nines nines) → ¬ RunMeets2 house_book house_table string_a nines nines (run house_book house_table string_a nines nines)
unfolding house_built house_premises premises_d premises_a
fixed_list_fails idle meets_d meets_a =
    let d = (meets_d.back premises_d derivation_d (omega arith) peak_d).1 in
    let a = (meets_a.back premises_a derivation_a (omega arith) peak_a).1 in
    lists_differ (sym d ∙ idle.fixed house_book house_table string_d string_a nines nines ∙ a)

-- one that touches nothing breaks the list of demand 3
pub leaves_list_fails : {run : Runner} → LeavesList run → ¬ RunMeets3 house_book house_table string_d nines nines (run house_book house_table string_d nines nines)
unfolding house_built house_premises premises_d
leaves_list_fails idle meets =
    let (ps, d, written) = meets.accepts premises_d (served_d _ meets) in
    let listed : nines ≡ over ps nines = sym (idle.untouched house_book house_table string_d nines nines) ∙ written in
    let same : ps ≡ list_d = meets.only_one premises_d d derivation_d in
    let first : ◌≡◌ {A = ℕ} 9 0 = ap (λ (l : List ℕ). get_or l 0 0) (rw same at listed) in
    omega arith

-- and the table of demand 2
abbrev twenty : List ℕ
twenty = replicate 20 9

pub leaves_table_fails : {build : Builder} → LeavesTable build → ¬ BuildMeets2 house_book nines nines twenty (build house_book nines nines twenty)
unfolding house house_table
leaves_table_fails {build} idle meets =
    let served = (meets.done_iff house_serves (record { sets_room = record { first_fits = omega arith; follow_fits = omega arith }; table_room = omega arith })).1 house_no_conflict in
    let cells : TableOf house (take 20 (build house_book nines nines twenty).table) = meets.cells house_serves served in
    let kept : TableOf house (take 20 twenty) = rw (idle.untouched house_book nines nines twenty) at cells in
    let first : ◌≡◌ {A = ℕ} 9 0 = ap (λ (l : List ℕ). get_or l 0 0) (table_unique (take 20 twenty) house_table kept house_table_of) in
    omega arith

-- restore restore restore: only its first token begins a derivable string
abbrev string_other : List ℕ
string_other = 0 ∷ 0 ∷ 0 ∷ []

premises_f : Premises house_book house_table string_f
unfolding below
premises_f = house_premises string_f (omega arith) tt

premises_other : Premises house_book house_table string_other
unfolding below
premises_other = house_premises string_other (omega arith) tt

other_place : Longest house string_other 1
unfolding house house_table house_built house_premises premises_other begun meets popped replaced used facing offer run_from right_of cell_of held
other_place = run_place (premises_exact premises_other) 7 7 house_well_formed house_useful_lem string_other refl wanted_row

-- F is decided with seven cells of each
decided_f : Decided (ran house house_table string_f nines nines)
unfolding house house_table begun meets popped replaced used facing offer run_from right_of cell_of held ran
decided_f = refused wanted_row

room_f : RunRoom (premises_room premises_f) nines nines
unfolding house_built house_premises premises_f ran
room_f =
    let (stacked, listed) = (premises_room premises_f).needed 7 7 (omega arith) decided_f in
    record { stack_room = stacked; list_room = listed }

module _ {run : Runner} (idle : JudgesAtFirst run) (meets_f : RunMeets3 house_book house_table string_f nines nines (run house_book house_table string_f nines nines)) where
  -- F is not derivable and has room, so syntax is the reason
  syntax_f : (run house_book house_table string_f nines nines).answer.number ≡ syntax
  unfolding house_built house_premises premises_f
  syntax_f =
      ⊎_elim (λ n. absurd (house_not_derivable (leftmost_derives (meets_f.accepts premises_f n).1))) (λ n. n)
      (meets_f.decided premises_f (premises_room premises_f) room_f)

  -- one that judges at the first token and then only moves its place breaks the place of demand 3, as F shows: F and the other string
  -- have one first token and one length, and so one place; but their longest beginnings differ
  pub judges_at_first_fails : ¬ RunMeets3 house_book house_table string_other nines nines (run house_book house_table string_other nines nines)
  unfolding house_built house_premises premises_f premises_other
  judges_at_first_fails meets_other =
      let number = idle.number house_book house_table nines nines 0 (1 ∷ 1 ∷ []) (0 ∷ 0 ∷ []) premises_f premises_other refl in
      let place = idle.place house_book house_table nines nines 0 (1 ∷ 1 ∷ []) (0 ∷ 0 ∷ []) premises_f premises_other refl in
      let f = meets_f.place premises_f syntax_f in
      let other = meets_other.place premises_other (sym number ∙ syntax_f) in
      omega (arith, place_determined f house_place, place_determined other other_place, place)

-- restore name in name, and restore name and name: four tokens each, but 8 steps and 11
abbrev string_in : List ℕ
string_in = 0 ∷ 1 ∷ 2 ∷ 1 ∷ []

abbrev string_and : List ℕ
string_and = 0 ∷ 1 ∷ 3 ∷ 1 ∷ []

admits_in : Admits house house_table string_in nines
unfolding below
admits_in = house_admits string_in (omega arith) tt nines (omega arith)

admits_and : Admits house house_table string_and nines
unfolding below
admits_and = house_admits string_and (omega arith) tt nines (omega arith)

steps_in : (r : Ran) → RunStepsAdd house_book house_table string_in nines nines r → r.answer.steps ≡ 8
unfolding house house_table begun meets popped replaced used facing offer run_from right_of cell_of held ran final
steps_in r adds = adds.sum house_serves admits_in

steps_and : (r : Ran) → RunStepsAdd house_book house_table string_and nines nines r → r.answer.steps ≡ 11
unfolding house house_table begun meets popped replaced used facing offer run_from right_of cell_of held ran final
steps_and r adds = adds.sum house_serves admits_and

-- one that invents steps breaks their equation with listed productions and matched tokens
pub invents_steps_fails : {run : Runner} → InventsSteps run
    → RunStepsAdd house_book house_table string_in nines nines (run house_book house_table string_in nines nines) → ¬ RunStepsAdd house_book house_table string_and nines nines (run house_book house_table string_and nines nines)
invents_steps_fails idle adds_in adds_and =
    let one = idle.told house_book house_table string_in nines nines house_serves admits_in in
    let other = idle.told house_book house_table string_and nines nines house_serves admits_and in
    omega (arith, steps_in _ adds_in, steps_and _ adds_and, one, other)

-- there are programs of each kind
pub untouching_refuses : (a : Answer) → a.number ≢ 0 → RefusesEverything (untouching a)
unfolding untouching
untouching_refuses a n = record { refuses = λ book table tokens stack list. n }

pub writing_output_fixed : (a : Answer) (cells : List ℕ) → FixedOutput (writing_output a cells)
unfolding writing_output
writing_output_fixed a cells = record { fixed = λ book list list' stack output. refl }

pub writing_fixed : (a : Answer) (cells : List ℕ) → FixedList (writing a cells)
unfolding writing
writing_fixed a cells = record { fixed = λ book table tokens tokens' stack list. refl }

pub writing_invents : (a : Answer) (cells : List ℕ) → InventsSteps (writing a cells)
unfolding writing
writing_invents a cells = record { steps = λ n. a.steps; told = λ book table tokens stack list serves admits. refl }

pub untouching_leaves : (a : Answer) → LeavesList (untouching a)
unfolding untouching
untouching_leaves a = record { untouched = λ book table tokens stack list. refl }

pub untouching_build_leaves : (a : Answer) → LeavesTable (untouching_build a)
unfolding untouching_build
untouching_build_leaves a = record { untouched = λ book first follow table. refl }

pub judging_first_judges : JudgesAtFirst judging_first
unfolding judging_first
judging_first_judges =
    record {
      number = λ book table stack list t u v h k e. rw e;
      place = λ book table stack list t u v h k e. rw e;
    }

-- which refuses F with 11
pub judging_first_refuses : (judging_first house_book house_table string_f nines nines).answer.number ≡ syntax
unfolding judging_first judged answers.stop
judging_first_refuses = refl
