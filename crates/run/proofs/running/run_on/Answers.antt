-- The answer to what the whole string comes to.
use borrow.Author.Rules.{rules}
use Rattle.book.proofs.Promise.{outlined_sized}
use Rattle.run.proofs.RunAnswers.{string_countable, judged_answered}
use Rattle.run.proofs.running.run_on.Goals as goal

pub answer_of-requires : goal.answer_of-requires
answer_of-requires c = string_countable c.offer_string-reply.ensures (search rules)

pub returns : goal.returns
returns c = judged_answered c.offer_string-reply.ensures (outlined_sized _ _ _) c.answer_of.ensures
