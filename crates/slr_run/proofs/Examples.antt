-- The rows of the textbook's example: the definitions give each row's answer and buffers, and no other.
use mathlib.Core.Path.{◌≡◌, refl}
use mathlib.Core.List.{List, [], ◌∷◌}
use Prim.Native.Nat.{ℕ, ◌≤◌}
use native.Mathlib.Omega.{arith}
use lib.Dec.{T, ltb, ltb→lt, lit≤}
use lib.ListN.{length, get_or, replicate}
use Rattle.grammar.specs.Grammar.{Every, nothing, each}
use Rattle.grammar.proofs.Tests.{below, below_each}
use Rattle.sets.specs.Sets.{only, united, added}
use Rattle.answers.specs.Answers.{done, stop, at_depth}
use Rattle.answers.specs.Buffers.{cleared, over}
use Rattle.offer.specs.Stops.{marking}
use Rattle.slr.specs.Cells.{action_of, move_of, action_in, move_in}
use Rattle.slr.specs.Examples.{left_grammar, left_paths, left_table}
use Rattle.slr.specs.Built.{SlrBuilt, left_book}
use Rattle.slr.specs.RoomMachine.{slr_begun, shifted, reduced, shifting, uncovering, acting, slr_facing, moving, slr_offer, slr_run_from, left_in, size_in}
use Rattle.slr.specs.Ends.{slr_final}
use Rattle.slr.proofs.Promise.{left_serves, left_numbered, left_table_lem}
use Rattle.slr_run.specs.Running.{slr_ran, slr_filled_below, slr_expected, slr_values, slr_answered, SlrAdmits}
use Rattle.slr_run.specs.Running as running
use Rattle.slr_run.specs.Demands.{SlrLeaves, MaySlrRun}
use Rattle.slr_run.specs.Examples.{Row, Allowed, answering, row, left_rows}
use Rattle.slr_run.proofs.BuiltFits.{built_fits}
use Rattle.slr_run.proofs.Unique.{slr_run_outcome_unique}

unfoldable left_made : SlrBuilt left_book left_table
unfolding left_paths
left_made =
    record {
      grammar = left_grammar;
      serves = left_serves;
      paths = left_paths;
      numbered = left_numbered;
      few = lit≤ tt;
      table_of = left_table_lem;
    }

-- tokens 0 and 1, at most 4,096 of them, and a stack cell let steps begin
left_admits : (tokens : List ℕ) (stack : ℕ)
    → length tokens ≤ 4096
    → T (below (length tokens) (λ i. ltb (get_or tokens i 0) 2))
    → 1 ≤ length (replicate {A = ℕ} stack 9)
    → SlrAdmits left_grammar left_table tokens (replicate stack 9)
unfolding left_grammar left_made
left_admits tokens stack short known some =
    record {
      fits = built_fits left_made;
      short = short;
      known = λ i h. ltb→lt (get_or tokens i 0) 2 (below_each (length tokens) (λ i. ltb (get_or tokens i 0) 2) known i h);
      stacked = some;
    }

-- what the definitions make of a row's call
abbrev made : Row → SlrLeaves
made x =
    record {
      answer = slr_answered left_grammar left_table (slr_ran left_grammar left_table x.tokens (replicate x.stack 9) (replicate x.list 9));
      stack = cleared (replicate x.stack 9);
      list = over (slr_final (slr_ran left_grammar left_table x.tokens (replicate x.stack 9) (replicate x.list 9))).listed (replicate x.list 9);
    }

allowed : (x : Row)
    → SlrAdmits left_grammar left_table x.tokens (replicate x.stack 9)
    → made x ≡ x.leaves
    → Allowed x
allowed x admits e =
    let may : MaySlrRun left_book left_table x.tokens (replicate x.stack 9) (replicate x.list 9) x.leaves =
    rw (← e) (running.ended left_serves admits) in
    record {
      may = may;
      only = λ r o. let same = slr_run_outcome_unique left_book left_table x.tokens (replicate x.stack 9) (replicate x.list 9) o may in λ i. record { answer = (same i).0; stack = (same i).1; list = (same i).2 };
    }

pub left_rows_lem : Every Allowed left_rows
unfolding left_rows row answering left_grammar left_table below slr_begun shifted reduced shifting uncovering acting slr_facing moving slr_offer slr_run_from left_in size_in action_of move_of action_in move_in slr_final slr_ran slr_filled_below slr_expected slr_values slr_answered marking only united added done stop at_depth
left_rows_lem =
    each (allowed _ (left_admits (0 ∷ 0 ∷ 0 ∷ []) 3 (omega arith) tt (omega arith)) refl)
    (each (allowed _ (left_admits (0 ∷ 0 ∷ 0 ∷ []) 2 (omega arith) tt (omega arith)) refl)
    (each (allowed _ (left_admits (0 ∷ 0 ∷ 0 ∷ []) 3 (omega arith) tt (omega arith)) refl)
    (each (allowed _ (left_admits (0 ∷ 0 ∷ 0 ∷ []) 1 (omega arith) tt (omega arith)) refl)
    (each (allowed _ (left_admits (0 ∷ 0 ∷ 0 ∷ []) 1 (omega arith) tt (omega arith)) refl)
    (each (allowed _ (left_admits (1 ∷ []) 2 (omega arith) tt (omega arith)) refl)
    (each (allowed _ (left_admits [] 3 (omega arith) tt (omega arith)) refl)
    (each (allowed _ (left_admits (0 ∷ 1 ∷ []) 3 (omega arith) tt (omega arith)) refl)
    (each (allowed _ (left_admits (1 ∷ 0 ∷ []) 3 (omega arith) tt (omega arith)) refl) nothing))))))))
