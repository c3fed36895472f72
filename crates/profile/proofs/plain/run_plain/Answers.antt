-- The largest table has room for the cells of every book.
use Rattle.table.proofs.Promise.{given_most}
use Rattle.profile.proofs.plain.run_plain.Goals as goal

pub run_within-requires-else-size-le-FEW-clause-fits : goal.run_within-requires-else-size-le-FEW-clause-fits
run_within-requires-else-size-le-FEW-clause-fits c = given_most c.requires.given
