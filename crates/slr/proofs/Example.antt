-- The grammar of the textbook's example carried through every definition, so that no premise of a theorem is empty.
use mathlib.Core.Path.{◌≡◌, refl}
use mathlib.Core.List.{[], ◌∷◌}
use lib.Dec.{lit≤}
use Rattle.grammar.specs.declared.Symbol.TheVariants.{Token, Nonterminal}
use Rattle.grammar.specs.Grammar.{WellFormed}
use Rattle.grammar.proofs.Tests.{all, below}
use Rattle.grammar.proofs.Worked.{first_test, follow_test}
use Rattle.grammar.proofs.WorkedForm.{form_test}
use Rattle.grammar.proofs.WorkedUseful.{has}
use Rattle.slr.specs.Rightmost.{Rightmost, done, with_token, with_nonterminal, Reduces, states_held}
use Rattle.slr.specs.States.{NumberedStates}
use Rattle.slr.specs.Actions.{ExactActions}
use Rattle.slr.specs.Machine.{SlrAccepts}
use Rattle.slr.specs.Cells.{action_in, move_in, SlrTableOf}
use Rattle.slr.specs.Examples.{left_grammar, left_paths, left_table}
use Rattle.slr.proofs.Complete.{reduces_runs}
use Rattle.slr.proofs.Cells.{table_exact}
use Rattle.slr.proofs.WorkedItems.{along_test}
use Rattle.slr.proofs.WorkedStates.{start_test, cell_test, apart_test, met_test, rises_test}
use Rattle.slr.proofs.Worked.{moves_in, follow_of, useful_of, table_test, Worked, worked_formed, worked_numbered, worked_table}

pub left_worked : Worked left_grammar 3 left_paths left_table
unfolding left_grammar left_paths left_table form_test has useful_of first_test follow_test follow_of moves_in start_test all along_test cell_test below apart_test met_test rises_test table_test
left_worked =
    record {
      formed = tt;
      productive = tt;
      useful = tt;
      first = tt;
      follow = tt;
      states = record { starts = tt; closed = tt; sized = tt; right = tt; apart = tt; born = tt; rises = tt };
      sized = tt;
      right = tt;
    }

pub left_formed : WellFormed left_grammar
left_formed = worked_formed left_grammar 3 left_paths left_table left_worked

pub left_numbered : NumberedStates left_grammar left_paths
left_numbered = worked_numbered left_grammar 3 left_paths left_table left_worked

pub left_table_lem : SlrTableOf left_grammar left_paths left_table
left_table_lem = worked_table left_grammar 3 left_paths left_table left_worked

-- the cells that the textbook prints are exact
pub left_exact : ExactActions left_grammar left_paths (action_in left_grammar left_table) (move_in left_grammar left_table)
unfolding left_grammar left_paths
left_exact = table_exact left_formed (lit≤ tt) (lit≤ tt) left_table_lem

-- A a, where A is derived by A → empty and so many times A → A a before
one_a : Rightmost left_grammar (Nonterminal 1 ∷ Token 0 ∷ []) (3 ∷ []) (0 ∷ [])
unfolding left_grammar
one_a = with_nonterminal (record { at = refl }) done (with_token done)

two_as : Rightmost left_grammar (Nonterminal 1 ∷ Token 0 ∷ []) (3 ∷ 2 ∷ []) (0 ∷ 0 ∷ [])
unfolding left_grammar
two_as = with_nonterminal (record { at = refl }) one_a (with_token done)

three_as : Rightmost left_grammar (Nonterminal 1 ∷ Token 0 ∷ []) (3 ∷ 2 ∷ 2 ∷ []) (0 ∷ 0 ∷ 0 ∷ [])
unfolding left_grammar
three_as = with_nonterminal (record { at = refl }) two_as (with_token done)

-- the string a a a of the textbook
pub left_derivation : Reduces left_grammar (3 ∷ 2 ∷ 2 ∷ 0 ∷ []) (0 ∷ 0 ∷ 0 ∷ [])
unfolding left_grammar
left_derivation = with_nonterminal (record { at = refl }) three_as done

pub left_held : states_held 1 left_derivation ≡ 3
unfolding states_held left_derivation three_as two_as one_a
left_held = refl

-- it is accepted with the list that the textbook prints
pub slr_example : let g = left_grammar in
    SlrAccepts g (action_in g left_table) (move_in g left_table) (0 ∷ 0 ∷ 0 ∷ []) (3 ∷ 2 ∷ 2 ∷ 0 ∷ [])
slr_example = (reduces_runs left_formed left_numbered left_exact left_derivation).run
