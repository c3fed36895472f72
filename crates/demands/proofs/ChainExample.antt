-- Books that meet the premises of the formula, and runs on them with its room and with less: no premise is empty, and for one nonterminal
-- and one token neither bound can be lowered.
use mathlib.Core.Path.{◌≡◌, refl}
use mathlib.Core.Logic.{◌⊎◌}
use mathlib.Core.List.{List, [], ◌∷◌}
use Prim.Native.Nat.{ℕ, zero, suc, ◌≤◌, ◌<◌}
use native.Mathlib.Omega.{arith}
use lib.Dec.{T, leb, leb→le}
use lib.ListN.{length, get_or, replicate}
use Rattle.grammar.specs.Filled.{NoEmptyRight}
use Rattle.grammar.specs.Grammar.{Production, Grammar, Every, nothing, each}
use Rattle.grammar.specs.Machine.{Exact}
use Rattle.grammar.proofs.Every.{every_at, every_map}
use Rattle.grammar.proofs.Tests.{all, all_every, below}
use Rattle.grammar.proofs.Theorems.{exact_no_conflict}
use Rattle.grammar.proofs.Worked.{first_test, follow_test}
use Rattle.grammar.proofs.WorkedCells.{worked_cell, conflict_test, conflict_test_exact}
use Rattle.grammar.proofs.WorkedForm.{form_test, form_tested}
use Rattle.grammar.proofs.WorkedUseful.{productives, has}
use Rattle.sets.specs.Sets.{only, united, added}
use Rattle.answers.specs.Answers.{stop, at_depth}
use Rattle.answers.specs.Refusals.{syntax}
use Rattle.reader.specs.Book.{reads, spells, marked, wanted, records, symbols, symbol_of, ending}
use Rattle.book.specs.Judging.{AllUseful}
use Rattle.table.specs.Table.{size, held, BuiltWithoutConflict, cell_of}
use Rattle.table.proofs.Promise.{worked_first, worked_follow, worked_useful, useful_tested, first_tested, follow_tested, table_test, table_tested}
use Rattle.machine.specs.Machine.{begun, meets, popped, replaced, used, facing, offer, run_from, final}
use Rattle.machine.specs.Room.{right_of, list_cells, stack_cells}
use Rattle.offer.specs.Stops.{marking, filled_below, expected, answered, run_answer}
use Rattle.offer.specs.Strings.{ran}
use Rattle.run.specs.Running as running
use Rattle.demands.specs.Examples.{Allowed, Given, answering}
use Rattle.demands.specs.ChainExample.{chain_book, chain_grammar, chain_table, long_book, long_grammar, long_table, Zeros, runs_zero, chain_run, long_run, low_run, listless_run}
use Rattle.demands.specs.Demands.{Ran, MayRun, Premises}
use Rattle.demands.proofs.Kept.{premises_admit}
use Rattle.demands.proofs.Formula.{keeps_formula}
use Rattle.demands.proofs.Examples.{allowed_given}

module _ (g : Grammar) (n : ℕ) where
  -- what is worked out in n passes passes every test
  pub record Tested (table : List ℕ) : Type 0 where
    pub form : T (form_test g)
    pub start : T (has (productives g n) g.start)
    pub useful : T (below g.nonterminals (has (worked_useful g n)))
    pub firsts : T (first_test g (worked_first g n))
    pub follows : T (follow_test g (worked_first g n) (worked_follow g n))
    pub single : T (conflict_test g (worked_first g n) (worked_follow g n))
    pub cells : T (table_test g (worked_cell g (worked_first g n) (worked_follow g n)) table)

  -- a table built without conflict, by tests that compute
  unfoldable pub built_tested : (book table : List ℕ) → spells book ≡ reads g → length table ≡ size g → Tested table → BuiltWithoutConflict book table
  built_tested book table read sized t =
      record {
        grammar = g;
        serves = record { read = read; useful = all_useful };
        no_conflict = exact_no_conflict exact;
        built = table_tested g exact table sized t.cells;
      }
    where
      all_useful : AllUseful g
      all_useful = useful_tested g n t.start t.useful

      exact : Exact g (worked_cell g (worked_first g n) (worked_follow g n))
      exact =
          conflict_test_exact g (worked_first g n) (worked_follow g n) (first_tested g n t.firsts)
          (follow_tested g n (form_tested g t.form) all_useful t.firsts t.follows) t.single

-- no right side is empty, by a test
filled_tested : (g : Grammar) → T (all (λ (r : Production). leb 1 (length r.right)) g.productions) → NoEmptyRight g
filled_tested g t = record { filled = λ {p} {A} {β} r. leb→le 1 (length β) (every_at (all_every (λ (r : Production). leb 1 (length r.right)) g.productions t) p _ r.at) }

unfoldable pub chain_built : BuiltWithoutConflict chain_book chain_table
unfolding spells marked wanted records symbols symbol_of ending chain_book chain_grammar chain_table form_test has productives worked_useful below first_test follow_test worked_first worked_follow conflict_test worked_cell table_test built_tested
chain_built = built_tested chain_grammar 2 chain_book chain_table refl refl (record { form = tt; start = tt; useful = tt; firsts = tt; follows = tt; single = tt; cells = tt })

unfoldable pub long_built : BuiltWithoutConflict long_book long_table
unfolding spells marked wanted records symbols symbol_of ending long_book long_grammar long_table form_test has productives worked_useful below first_test follow_test worked_first worked_follow conflict_test worked_cell table_test built_tested
long_built = built_tested long_grammar 1 long_book long_table refl refl (record { form = tt; start = tt; useful = tt; firsts = tt; follows = tt; single = tt; cells = tt })

pub chain_no_empty : NoEmptyRight chain_grammar
unfolding chain_grammar all
chain_no_empty = filled_tested chain_grammar tt

pub long_no_empty : NoEmptyRight long_grammar
unfolding long_grammar all
long_no_empty = filled_tested long_grammar tt

pub one_zero : Zeros (0 ∷ [])
one_zero = record { short = omega arith; zeros = at }
  where
    at : (i : ℕ) → i < 1 → ◌≡◌ {A = ℕ} (get_or (0 ∷ []) i 0) 0
    at zero h = refl
    at (suc i) h = absurd (omega arith)

-- it meets the premises on both books
zeros_premises : {book table tokens : List ℕ} (b : BuiltWithoutConflict book table) → 1 ≤ b.grammar.tokens → Zeros tokens → Premises book table tokens
zeros_premises b one z = record { built = b; short = z.short; known = λ i h. omega (arith, z.zeros i h) }

unfoldable pub chain_premises : {tokens : List ℕ} → Zeros tokens → Premises chain_book chain_table tokens
unfolding chain_grammar chain_built built_tested zeros_premises
chain_premises = zeros_premises chain_built (omega arith)

unfoldable pub long_premises : {tokens : List ℕ} → Zeros tokens → Premises long_book long_table tokens
unfolding long_grammar long_built built_tested zeros_premises
long_premises = zeros_premises long_built (omega arith)

-- the formula's room for one token
pub chain_room : (list_cells chain_grammar 1 ≡ 2) × (stack_cells chain_grammar 1 ≡ 31)
unfolding chain_grammar
chain_room = (refl, refl)

pub long_room : (list_cells long_grammar 1 ≡ 1) × (stack_cells long_grammar 1 ≡ 16)
unfolding long_grammar
long_room = (refl, refl)

-- with that room the definitions give the row of the first book, and no other outcome
pub chain_run_allowed : Allowed chain_run
unfolding Allowed chain_run runs_zero answering chain_grammar chain_table chain_built built_tested chain_premises zeros_premises begun meets popped replaced used facing offer run_from right_of cell_of held only united added marking filled_below ran expected answered run_answer at_depth final stop
chain_run_allowed = running.ended chain_built.serves (premises_admit (chain_premises one_zero) (replicate 31 9) (omega arith))

pub chain_run_given : Given chain_run
chain_run_given = allowed_given chain_run chain_run_allowed

-- and the formula says that it is 0 or 11, its premises being met together
pub chain_decides : (r : Ran)
    → MayRun chain_book chain_table (0 ∷ []) (replicate 31 9) (replicate 2 9) r
    → (r.answer.number ≡ 0) ⊎ (r.answer.number ≡ syntax)
unfolding chain_grammar chain_built built_tested chain_premises zeros_premises
chain_decides r o =
    (keeps_formula chain_book chain_table (0 ∷ []) (replicate 31 9) (replicate 2 9) r o).never_room
    (chain_premises one_zero) chain_no_empty (omega arith) (omega arith)

-- the definitions give the rows of the second book
pub long_runs_allowed : Every Allowed (long_run ∷ low_run ∷ listless_run ∷ [])
unfolding Allowed long_run low_run listless_run runs_zero answering long_grammar long_table long_built built_tested long_premises zeros_premises begun meets popped replaced used facing offer run_from right_of cell_of held only united added marking filled_below ran expected answered run_answer at_depth final stop
long_runs_allowed =
    each {x = long_run} (running.ended long_built.serves (premises_admit (long_premises one_zero) (replicate 16 9) (omega arith)))
    (each {x = low_run} (running.ended long_built.serves (premises_admit (long_premises one_zero) (replicate 15 9) (omega arith)))
    (each {x = listless_run} (running.ended long_built.serves (premises_admit (long_premises one_zero) (replicate 16 9) (omega arith))) nothing))

-- so with a stack cell or a list cell less than the formula's the answer is 7: for one nonterminal and one token neither can be lowered
pub long_runs_given : Every Given (long_run ∷ low_run ∷ listless_run ∷ [])
long_runs_given = every_map allowed_given long_runs_allowed
