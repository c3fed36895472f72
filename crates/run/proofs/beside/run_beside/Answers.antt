-- The account's words, and the rest of the tokens.
use Rattle.run.proofs.RunAnswers.{account_inside, account_shown}
use Rattle.run.proofs.beside.run_beside.Goals as goal

pub slice_bounds-result-count : goal.slice_bounds-result-count
slice_bounds-result-count c =
    account_inside c.account-whole.ensures

pub slice_bounds-result-start : goal.slice_bounds-result-start
slice_bounds-result-start c =
    account_inside c.account-whole.ensures

pub returns : goal.returns
returns c =
    account_shown c.account-whole.ensures c.write_words.ensures
