-- The answer of a C call as its caller reads it, of which the demands speak: the number returned, and the words
-- written.
-- Document 01, "Running and expanding": the demands "are read of calls that lend one long enough".
use Rattle.std.specs.Prelude.{List, [], ◌∷◌, ℕ, ◌+◌, ◌*◌, take, drop}
use Rattle.answers.specs.declared.Answer.{Answer}

-- the number that bytes make, the lowest first
unfoldable pub value_of : List ℕ → ℕ
value_of [] = 0
value_of (byte ∷ bytes) = byte + 256 * value_of bytes

-- 64-bit word k of a buffer
unfoldable pub word_at : ℕ → List ℕ → ℕ
word_at k bytes = value_of (take 8 (drop (8 * k) bytes))

-- the answer as the caller reads it: the number returned, and the words of the answer buffer
unfoldable pub answer_from : ℕ → List ℕ → Answer
answer_from number bytes =
    record {
      number = number;
      place = word_at 0 bytes;
      detail = word_at 1 bytes;
      steps = word_at 2 bytes;
      expected = record { word = word_at 3 bytes };
      depth = word_at 4 bytes;
    }
