-- Barred, or steps made and counted.
use mathlib.Core.Path.{refl}
use native.Mathlib.Omega.{arith}
use Rattle.book.proofs.Promise.{outlined_sized}
use Rattle.run.proofs.RunAnswers.{account_barred, account_stepped, string_countable}
use Rattle.run.proofs.running.account_on.Goals as goal

pub returns-in-Err : goal.returns-in-Err
returns-in-Err c = account_barred (c.in-Err.ensures.checked c.args.stack.now refl)

pub answer_of-requires : goal.answer_of-requires
answer_of-requires c =
    string_countable c.offer_string-reply.ensures (omega (arith, (c.in_default.ensures.checked c.args.stack.now refl).short))

pub returns : goal.returns
returns c =
    account_stepped (c.in_default.ensures.checked c.args.stack.now refl) (outlined_sized _ _ _) c.offer_string-reply.ensures c.progress_of-at.ensures c.answer_of.ensures
