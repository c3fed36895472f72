-- The textbook's left-recursive grammar run: the calls with all that is lent, and the whole answer with all that is
-- left.
-- Document 02, W12. Lent buffers hold 9s, so that a cell that is left alone shows.
use Rattle.std.specs.Prelude.{◌≡◌, List, [], ◌∷◌, ℕ, ◌+◌, ◌^◌, replicate}
use Rattle.answers.specs.declared.Answer.{Answer}
use Rattle.sets.specs.Sets.{end_mark}
use Rattle.slr.specs.Examples.{left_table}
use Rattle.slr.specs.Built.{left_book}
use Rattle.slr_run.specs.Demands.{SlrLeaves, MaySlrRun}

-- the tokens, the cells of stack and list, and what is left
pub record Row : Type 0 where
  pub tokens : List ℕ
  pub stack : ℕ
  pub list : ℕ
  pub leaves : SlrLeaves

-- the definitions allow this outcome, and no other
pub record Allowed (x : Row) : Type 0 where
  pub may : MaySlrRun left_book left_table x.tokens (replicate x.stack 9) (replicate x.list 9) x.leaves
  pub only : (r : SlrLeaves)
      → MaySlrRun left_book left_table x.tokens (replicate x.stack 9) (replicate x.list 9) r
      → r ≡ x.leaves

-- number, place, detail, steps, expected set and depth
unfoldable pub answering : (number place detail steps expected depth : ℕ) → Answer
answering number place detail steps expected depth =
    record {
      number = number;
      place = place;
      detail = detail;
      steps = steps;
      expected = record { word = expected };
      depth = depth;
    }

-- a cleared stack, and the list
unfoldable pub row : (tokens : List ℕ) (stack list : ℕ) → Answer → List ℕ → Row
row tokens stack list answer after =
    record {
      tokens = tokens;
      stack = stack;
      list = list;
      leaves = record { answer = answer; stack = replicate stack 0; list = after };
    }

-- room just enough, one cell less of each, hardly any; then strings that are not derivable
unfoldable pub left_rows : List Row
left_rows =
    row (0 ∷ 0 ∷ 0 ∷ []) 3 4 (answering 0 0 0 7 0 3) (3 ∷ 2 ∷ 2 ∷ 0 ∷ [])
    ∷ row (0 ∷ 0 ∷ 0 ∷ []) 2 4 (answering 7 0 1 1 0 2) (3 ∷ 9 ∷ 9 ∷ 9 ∷ [])
    ∷ row (0 ∷ 0 ∷ 0 ∷ []) 3 3 (answering 7 3 2 6 0 3) (3 ∷ 2 ∷ 2 ∷ [])
    ∷ row (0 ∷ 0 ∷ 0 ∷ []) 1 0 (answering 7 0 2 0 0 1) []
    ∷ row (0 ∷ 0 ∷ 0 ∷ []) 1 1 (answering 7 0 1 0 0 1) (9 ∷ [])
    ∷ row (1 ∷ []) 2 1 (answering 0 0 0 2 0 2) (1 ∷ [])
    ∷ row [] 3 4 (answering 11 0 0 0 (2 ^ 0 + 2 ^ 1) 1) (9 ∷ 9 ∷ 9 ∷ 9 ∷ [])
    ∷ row (0 ∷ 1 ∷ []) 3 4 (answering 11 1 0 2 (2 ^ 0 + 2 ^ end_mark) 3) (3 ∷ 9 ∷ 9 ∷ 9 ∷ [])
    ∷ row (1 ∷ 0 ∷ []) 3 4 (answering 11 1 0 1 (2 ^ end_mark) 2) (9 ∷ 9 ∷ 9 ∷ 9 ∷ [])
    ∷ []
