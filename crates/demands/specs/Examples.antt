-- The starred examples, A to K, and the list of A expanded: the calls with all that is lent, and the whole answer with
-- all that is left.
-- Document 01, "The lister and the examples"; document 02, W7. Lent buffers hold 9s, so that a cell that is left alone
-- shows.
use Rattle.std.specs.Prelude.{◌≡◌, List, [], ◌∷◌, ℕ, ◌+◌, ◌^◌, replicate}
use Rattle.answers.specs.declared.Answer.{Answer}
use Rattle.book.specs.Examples.{house_book, useless_book}
use Rattle.table.specs.Examples.{house_table, conflicted_house_book, nested_book}
use Rattle.demands.specs.Demands.{Built, Ran, Expanded, MayBuild, MayRun, MayExpand}

pub data Example : Type 0 where
  building : (book first follow table : List ℕ) → Built → Example
  running : (book table tokens stack list : List ℕ) → Ran → Example
  expanding : (book list stack output : List ℕ) → Expanded → Example

-- the definitions allow this outcome
unfoldable pub Allowed : Example → Type 0
Allowed (building book first follow table r) = MayBuild book first follow table r
Allowed (running book table tokens stack list r) = MayRun book table tokens stack list r
Allowed (expanding book list stack output r) = MayExpand book list stack output r

-- number, place, detail, steps, expected set and depth
unfoldable pub answering : (number place detail steps expected depth : ℕ) → Answer
answering number place detail steps expected depth =
    record {
      number = number;
      place = place;
      detail = detail;
      steps = steps;
      expected = record { word = expected };
      depth = depth;
    }

-- a run, or an expansion, with the house book and its table: what is lent, then the answer and what is left
unfoldable pub runs : (tokens stack list : List ℕ) → Answer → (stack list : List ℕ) → Example
runs tokens stack list answer after written =
    running house_book house_table tokens stack list (record { answer = answer; stack = after; list = written })

unfoldable pub expands : (list stack output : List ℕ) → Answer → (stack output : List ℕ) → Example
expands list stack output answer after written =
    expanding house_book list stack output (record { answer = answer; stack = after; output = written })

-- restore name in name and name, with just enough room
unfoldable pub example_a : Example
example_a =
    runs (0 ∷ 1 ∷ 2 ∷ 1 ∷ 3 ∷ 1 ∷ []) (9 ∷ 9 ∷ 9 ∷ []) (9 ∷ 9 ∷ 9 ∷ 9 ∷ 9 ∷ 9 ∷ 9 ∷ [])
    (answering 0 0 0 13 0 3) (0 ∷ 0 ∷ 0 ∷ []) (0 ∷ 1 ∷ 2 ∷ 4 ∷ 1 ∷ 3 ∷ 5 ∷ [])

-- A with a stack of two cells
unfoldable pub example_b : Example
example_b =
    runs (0 ∷ 1 ∷ 2 ∷ 1 ∷ 3 ∷ 1 ∷ []) (9 ∷ 9 ∷ []) (9 ∷ 9 ∷ 9 ∷ 9 ∷ 9 ∷ 9 ∷ 9 ∷ [])
    (answering 7 1 1 2 0 2) (0 ∷ 0 ∷ []) (0 ∷ 9 ∷ 9 ∷ 9 ∷ 9 ∷ 9 ∷ 9 ∷ [])

-- A with a list of six cells
unfoldable pub example_c : Example
example_c =
    runs (0 ∷ 1 ∷ 2 ∷ 1 ∷ 3 ∷ 1 ∷ []) (9 ∷ 9 ∷ 9 ∷ []) (9 ∷ 9 ∷ 9 ∷ 9 ∷ 9 ∷ 9 ∷ [])
    (answering 7 6 2 12 0 3) (0 ∷ 0 ∷ 0 ∷ []) (0 ∷ 1 ∷ 2 ∷ 4 ∷ 1 ∷ 3 ∷ [])

-- restore name
unfoldable pub example_d : Example
example_d =
    runs (0 ∷ 1 ∷ []) (9 ∷ 9 ∷ 9 ∷ 9 ∷ []) (9 ∷ 9 ∷ 9 ∷ 9 ∷ 9 ∷ 9 ∷ [])
    (answering 0 0 0 6 0 3) (0 ∷ 0 ∷ 0 ∷ 0 ∷ []) (0 ∷ 1 ∷ 3 ∷ 5 ∷ 9 ∷ 9 ∷ [])

-- no tokens
unfoldable pub example_e : Example
example_e =
    runs [] (9 ∷ 9 ∷ 9 ∷ []) (9 ∷ 9 ∷ [])
    (answering 11 0 0 0 (2 ^ 0) 1) (0 ∷ 0 ∷ 0 ∷ []) (9 ∷ 9 ∷ [])

-- restore name name
unfoldable pub example_f : Example
example_f =
    runs (0 ∷ 1 ∷ 1 ∷ []) (9 ∷ 9 ∷ 9 ∷ []) (9 ∷ 9 ∷ 9 ∷ 9 ∷ [])
    (answering 11 2 0 4 (2 ^ 2 + 2 ^ 3 + 2 ^ 62) 3) (0 ∷ 0 ∷ 0 ∷ []) (0 ∷ 1 ∷ 9 ∷ 9 ∷ [])

-- token 4 is none of the grammar's
unfoldable pub example_g : Example
example_g =
    runs (0 ∷ 1 ∷ 4 ∷ []) (9 ∷ 9 ∷ 9 ∷ []) (9 ∷ 9 ∷ 9 ∷ 9 ∷ [])
    (answering 10 2 0 0 0 0) (9 ∷ 9 ∷ 9 ∷ []) (9 ∷ 9 ∷ 9 ∷ 9 ∷ [])

-- building is refused, with so many cells of 9 in each buffer, and leaves them as they were
unfoldable pub refuses_building : (book : List ℕ) (sets cells : ℕ) → Answer → Example
refuses_building book sets cells answer =
    building book (replicate sets 9) (replicate sets 9) (replicate cells 9)
    (record { answer = answer; first = replicate sets 9; follow = replicate sets 9; table = replicate cells 9 })

-- H with the right side of production 4 changed
unfoldable pub example_h1 : Example
example_h1 = refuses_building conflicted_house_book 4 20 (answering 8 12 515 0 0 0)

-- B is used only beside C, which derives nothing
unfoldable pub example_i : Example
example_i = refuses_building useless_book 3 9 (answering 6 1 0 0 0 0)

-- A → 1 A 1, A → B 0, B → 1
unfoldable pub example_j : Example
example_j = refuses_building nested_book 2 6 (answering 8 1 1 0 0 0)

-- a complete list, and one that ends too soon
unfoldable pub example_k : Example
example_k =
    expands (0 ∷ 1 ∷ 3 ∷ 5 ∷ []) (9 ∷ 9 ∷ 9 ∷ []) (9 ∷ 9 ∷ 9 ∷ [])
    (answering 0 0 0 6 0 3) (0 ∷ 0 ∷ 0 ∷ []) (0 ∷ 1 ∷ 9 ∷ [])

unfoldable pub example_kShort : Example
example_kShort =
    expands (0 ∷ 1 ∷ 3 ∷ []) (9 ∷ 9 ∷ 9 ∷ []) (9 ∷ 9 ∷ 9 ∷ [])
    (answering 12 3 0 5 0 3) (0 ∷ 0 ∷ 0 ∷ []) (0 ∷ 1 ∷ 9 ∷ [])

-- the list of A, with just enough room
unfoldable pub example_aList : Example
example_aList =
    expands (0 ∷ 1 ∷ 2 ∷ 4 ∷ 1 ∷ 3 ∷ 5 ∷ []) (9 ∷ 9 ∷ 9 ∷ []) (9 ∷ 9 ∷ 9 ∷ 9 ∷ 9 ∷ 9 ∷ [])
    (answering 0 0 0 13 0 3) (0 ∷ 0 ∷ 0 ∷ []) (0 ∷ 1 ∷ 2 ∷ 1 ∷ 3 ∷ 1 ∷ [])

-- with a stack of two cells: one is held when it stops, and two were
unfoldable pub example_aList_low : Example
example_aList_low =
    expands (0 ∷ 1 ∷ 2 ∷ 4 ∷ 1 ∷ 3 ∷ 5 ∷ []) (9 ∷ 9 ∷ []) (9 ∷ 9 ∷ 9 ∷ 9 ∷ 9 ∷ 9 ∷ [])
    (answering 7 1 1 2 0 2) (0 ∷ 0 ∷ []) (0 ∷ 9 ∷ 9 ∷ 9 ∷ 9 ∷ 9 ∷ [])

-- with an output of four cells: two are held when it stops, and three were, of four lent
unfoldable pub example_aList_short : Example
example_aList_short =
    expands (0 ∷ 1 ∷ 2 ∷ 4 ∷ 1 ∷ 3 ∷ 5 ∷ []) (9 ∷ 9 ∷ 9 ∷ 9 ∷ []) (9 ∷ 9 ∷ 9 ∷ 9 ∷ [])
    (answering 7 4 3 8 0 3) (0 ∷ 0 ∷ 0 ∷ 0 ∷ []) (0 ∷ 1 ∷ 2 ∷ 1 ∷ [])

unfoldable pub examples : List Example
examples =
    example_a ∷ example_b ∷ example_c ∷ example_d ∷ example_e ∷ example_f ∷ example_g
    ∷ example_h1 ∷ example_i ∷ example_j ∷ example_k ∷ example_kShort
    ∷ example_aList ∷ example_aList_low ∷ example_aList_short ∷ []

-- whatever the promise of the example's call allows is the example's outcome
unfoldable pub Given : Example → Type 0
Given (building book first follow table r) = (x : Built) → MayBuild book first follow table x → x ≡ r
Given (running book table tokens stack list r) = (x : Ran) → MayRun book table tokens stack list x → x ≡ r
Given (expanding book list stack output r) = (x : Expanded) → MayExpand book list stack output x → x ≡ r
