-- Five words, one after the other.
use native.Mathlib.Omega.{arith}
use Rattle.desk.proofs.AnswerBytes.{answer_size_is, words_written}
use Rattle.desk.proofs.words.tell.Goals as goal

pub write_word-requires : goal.write_word-requires
write_word-requires c = omega (arith, answer_size_is)

pub write_word-requires-2 : goal.write_word-requires-2
write_word-requires-2 c = omega (arith, answer_size_is)

pub write_word-requires-3 : goal.write_word-requires-3
write_word-requires-3 c = omega (arith, answer_size_is)

pub write_word-requires-4 : goal.write_word-requires-4
write_word-requires-4 c = omega (arith, answer_size_is)

pub write_word-requires-5 : goal.write_word-requires-5
write_word-requires-5 c = omega (arith, answer_size_is)

pub returns-clause-bytes : goal.returns-clause-bytes
returns-clause-bytes c =
    words_written c.args.a c.args.out.now c.requires
    c.write_word.ensures
    c.write_word-2.ensures
    c.write_word-3.ensures
    (rw c.word.ensures at c.write_word-4.ensures)
    c.write_word-5.ensures
