-- One law for each test.
use borrow.Author.Rules.{rules}
use Rattle.slr_run.specs.Fitting.{empty}
use Rattle.slr_run.proofs.Fitting.{fits_state, fits_no_move, fits_accept, fits_nothing, fits_reduce}
use Rattle.slr_run.proofs.checking.number_fits.Goals as goal

pub returns-then-number-eq-EMPTY : goal.returns-then-number-eq-EMPTY
returns-then-number-eq-EMPTY c = empty c.if-number-eq-EMPTY.true

pub returns-then-number-rows : goal.returns-then-number-rows
returns-then-number-rows c =
    fits_state c.args.outline.tokens c.args.outline.productions c.args.rows c.args.column c.args.number (search rules) (search rules) (search rules) (search rules)

pub returns-then-last-column : goal.returns-then-last-column
returns-then-last-column c =
    fits_no_move c.args.outline.tokens c.args.outline.productions c.args.rows c.args.column c.args.number (search rules) (search rules) (search rules) (search rules) (search rules)

pub returns-then-number-eq-ACCEPT : goal.returns-then-number-eq-ACCEPT
returns-then-number-eq-ACCEPT c =
    fits_accept c.args.outline.tokens c.args.outline.productions c.args.rows c.args.column c.args.number (search rules) (search rules) (search rules) (search rules) (search rules) (search rules)

pub returns-then-number-lt-REDUCE : goal.returns-then-number-lt-REDUCE
returns-then-number-lt-REDUCE c =
    fits_nothing c.args.outline.tokens c.args.outline.productions c.args.rows c.args.column c.args.number (search rules) (search rules) (search rules) (search rules) (search rules) (search rules)

pub returns : goal.returns
returns c =
    fits_reduce c.args.outline.tokens c.args.outline.productions c.args.rows c.args.column c.args.number (search rules) (search rules) (search rules) (search rules) (search rules) (search rules) (search rules)
