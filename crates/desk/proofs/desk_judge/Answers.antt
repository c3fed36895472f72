-- The reading's answer is written, or the answer buffer is too short.
use native.Mathlib.Omega.{arith}
use Rattle.desk.specs.Desk.{short}
use Rattle.desk.proofs.AnswerBytes.{answer_size_is}
use Rattle.desk.proofs.Calls.{answered_call}
use Rattle.desk.proofs.desk_judge.Goals as goal

pub returns-then-answer-lt-ANSWER_SIZE : goal.returns-then-answer-lt-ANSWER_SIZE
returns-then-answer-lt-ANSWER_SIZE c = rw c.number.ensures (record { call = short (λ lent. omega (arith, answer_size_is)) })

pub tell-requires : goal.tell-requires
tell-requires c = omega (arith, answer_size_is)

pub returns : goal.returns
returns c =
    record { call = answered_call c.judged-judged.result (omega (arith, answer_size_is)) c.judged-judged.ensures c.tell.ensures.number c.tell.ensures.bytes }
