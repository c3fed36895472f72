-- One case of `expected` for each reason.
use Rattle.run.proofs.Expected.{expects_list, expects_stack, expects_end, expects_token, expects_row}
use Rattle.run.proofs.answering.expects.Goals as goal

pub returns-in-FullList : goal.returns-in-FullList
returns-in-FullList c = expects_list _ c.in-FullList.is c.none.ensures

pub returns-in-FullStack : goal.returns-in-FullStack
returns-in-FullStack c = expects_stack _ c.in-FullStack.is c.none-in-FullStack.ensures

pub returns-in-WantsEnd : goal.returns-in-WantsEnd
returns-in-WantsEnd c = expects_end _ c.in-WantsEnd.is c.none-in-WantsEnd.ensures c.with.ensures

pub returns-in-WantsToken : goal.returns-in-WantsToken
returns-in-WantsToken c = expects_token _ c.in-WantsToken.is c.none-in-WantsToken.ensures c.with-in-WantsToken.ensures

pub returns-in-WantsRow : goal.returns-in-WantsRow
returns-in-WantsRow c = expects_row _ c.in-WantsRow.is c.row_columns.ensures
