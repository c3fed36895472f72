-- Book Q, which is plain, with its table, and runs on it: what is lent, then the answer and what is left.
-- Request W14. Lent buffers hold 9s, so that a cell that is left alone shows.
use Rattle.std.specs.Prelude.{List, [], ◌∷◌, ◌++◌, ℕ, ◌+◌, ◌^◌, replicate}
use Rattle.answers.specs.declared.Answer.{Answer}
use Rattle.book.specs.Examples.{GR, PR}
use Rattle.demands.specs.Examples.{answering}
use Rattle.profile.specs.Plain.{PlainRunOutcome}

-- S → a B, B → b, B → c S, with the tokens a 0, b 1 and c 2
unfoldable pub plain_book : List ℕ
plain_book =
    GR (0x03 ∷ 0x02 ∷ 0x00 ∷ 0x03 ∷ [])
    ++ PR (0x00 ∷ 0x02 ∷ 0x00 ∷ 0x81 ∷ [])
    ++ PR (0x01 ∷ 0x01 ∷ 0x01 ∷ [])
    ++ PR (0x01 ∷ 0x02 ∷ 0x02 ∷ 0x80 ∷ [])

unfoldable pub plain_table : List ℕ
plain_table = (0 ∷ 255 ∷ 255 ∷ 255 ∷ []) ++ (255 ∷ 1 ∷ 2 ∷ 255 ∷ [])

-- a run on Q alone with so many cells of stack and list, its answer, and what it leaves
pub record PlainRun : Type 0 where
  pub tokens : List ℕ
  pub stack : ℕ
  pub list : ℕ
  pub answer : Answer
  pub written : List ℕ

-- the definitions allow it; steps begin in each, so every stack cell is 0 then
unfoldable pub Allowed : PlainRun → Type 0
Allowed x =
    PlainRunOutcome plain_book x.tokens (replicate x.stack 9) (replicate x.list 9)
    x.answer (replicate x.stack 0) x.written

-- a c a b, with just enough room
unfoldable pub taken_run : PlainRun
taken_run =
    record {
      tokens = 0 ∷ 2 ∷ 0 ∷ 1 ∷ [];
      stack = 2;
      list = 4;
      answer = answering 0 0 0 8 0 2;
      written = 0 ∷ 2 ∷ 0 ∷ 1 ∷ [];
    }

-- a a: b or c is expected after the first
unfoldable pub stopped_run : PlainRun
stopped_run =
    record {
      tokens = 0 ∷ 0 ∷ [];
      stack = 2;
      list = 4;
      answer = answering 11 1 0 2 (2 ^ 1 + 2 ^ 2) 2;
      written = 0 ∷ 9 ∷ 9 ∷ 9 ∷ [];
    }

-- the first with a list cell less, and with a stack cell less
unfoldable pub listless_run : PlainRun
listless_run =
    record {
      tokens = 0 ∷ 2 ∷ 0 ∷ 1 ∷ [];
      stack = 2;
      list = 3;
      answer = answering 7 3 2 6 0 2;
      written = 0 ∷ 2 ∷ 0 ∷ [];
    }

unfoldable pub low_run : PlainRun
low_run =
    record {
      tokens = 0 ∷ 2 ∷ 0 ∷ 1 ∷ [];
      stack = 1;
      list = 4;
      answer = answering 7 0 1 0 0 1;
      written = 9 ∷ 9 ∷ 9 ∷ 9 ∷ [];
    }
