-- House book H carried through every definition: a second grammar that meets them, with eleven states.
use Rattle.grammar.specs.House.{house}
use Rattle.grammar.proofs.Tests.{all, below}
use Rattle.grammar.proofs.Worked.{first_test, follow_test}
use Rattle.grammar.proofs.WorkedForm.{form_test}
use Rattle.grammar.proofs.WorkedUseful.{has}
use Rattle.slr.specs.Examples.{house_paths, house_table}
use Rattle.slr.proofs.WorkedItems.{along_test}
use Rattle.slr.proofs.WorkedStates.{start_test, cell_test, apart_test, met_test, rises_test}
use Rattle.slr.proofs.Worked.{moves_in, follow_of, useful_of, table_test, Worked}

pub house_worked : Worked house 3 house_paths house_table
unfolding house house_paths house_table form_test has useful_of first_test follow_test follow_of moves_in start_test all along_test cell_test below apart_test met_test rises_test table_test
house_worked =
    record {
      formed = tt;
      productive = tt;
      useful = tt;
      first = tt;
      follow = tt;
      states = record { starts = tt; closed = tt; sized = tt; right = tt; apart = tt; born = tt; rises = tt };
      sized = tt;
      right = tt;
    }
