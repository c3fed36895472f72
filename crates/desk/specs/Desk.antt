-- What the C functions answer and leave in the lent buffers: the number is returned, and place, detail, steps, expected
-- set and depth go into a lent answer buffer. Document 01, "Running and expanding": the restore desk's own program;
-- document 02, W7.
use Rattle.std.specs.Prelude.{◌≡◌, List, [], ◌∷◌, ◌++◌, ℕ, zero, suc, ◌/◌, ◌%◌, ◌≤◌, length, set, Result, Ok, Err}
use Rattle.sets.specs.Calls.{number}
use Rattle.answers.specs.declared.Answer.{Answer}
use Rattle.answers.specs.Answers.{done}
use Rattle.answers.specs.Refusals.{room}
use Rattle.answers.specs.Buffers.{over}
use Rattle.patterns.specs.Calls.{JudgePatterns}
use Rattle.pieces.specs.Calls.{CutWithOutcome}
use Rattle.cut.specs.Calls.{CutOutcome}
use Rattle.book.specs.declared.Index.{Index}
use Rattle.book.specs.Judging.{Refuses, Indexes}
use Rattle.first.specs.declared.forms.Trail.{Trail}
use Rattle.first.specs.Calls.{FirstOutcome}
use Rattle.follow.specs.Calls.{SetsOutcome, LookaheadOutcome}
use Rattle.table.specs.Calls.{BuildOutcome}
use Rattle.checker.specs.Calls.{CheckOutcome}
use Rattle.run.specs.Running.{RunOutcome}
use Rattle.expand.specs.Expanding.{ExpandOutcome}
use Rattle.slr_run.specs.Running.{SlrRunOutcome}
use Rattle.sheet.specs.Calls.{WriteOutcome, ReadOutcome}

-- a number in so many bytes, the lowest first
unfoldable pub little_endian : ℕ → ℕ → List ℕ
little_endian zero n = []
little_endian (suc bytes) n = n % 256 ∷ little_endian bytes (n / 256)

-- place, detail, steps, expected set and depth as little-endian 64-bit words
unfoldable pub answer_bytes : Answer → List ℕ
answer_bytes a =
    little_endian 8 a.place ++ little_endian 8 a.detail ++ little_endian 8 a.steps
    ++ little_endian 8 (number a.expected) ++ little_endian 8 a.depth

-- how long an answer buffer must be: as long as the bytes of any answer
unfoldable pub answer_size : ℕ
answer_size = length (answer_bytes (done 0))

-- a call: with too little lent it gives 7 before all else and changes nothing; otherwise the answer's number is
-- returned and its bytes are written over the answer buffer, of which later bytes stay
pub data Called {Buffers : Type 0} (Enough : Type 0) (Outcome : Answer → Buffers → Type 0) (before : Buffers)
    (answer : List ℕ) : ℕ → Buffers → List ℕ → Type 0 where
  short : ¬ Enough → Called Enough Outcome before answer room before answer
  answered : {a : Answer} {after : Buffers}
      → Enough
      → Outcome a after
      → Called Enough Outcome before answer a.number after (over (answer_bytes a) answer)

-- the answer buffer has room for an answer
abbrev pub Lent : List ℕ → Type 0
Lent answer = answer_size ≤ length answer

-- the refusal of a book, or done
pub data JudgeOutcome (book : List ℕ) : Answer → Type 0 where
  refused : {a : Answer} → Refuses book a → JudgeOutcome book a
  served : {i : Index} → Indexes book i → JudgeOutcome book (done 0)

-- judging changes no other buffer
pub record JudgeCall (book answer : List ℕ) (number : ℕ) (answer' : List ℕ) : Type 0 where
  pub call : Called {Buffers = Unit {0}} (Lent answer) (λ a after. JudgeOutcome book a) tt answer number tt answer'

-- a table checked against its book changes no other buffer
pub record CheckCall (book table answer : List ℕ) (number : ℕ) (answer' : List ℕ) : Type 0 where
  pub call :
      Called {Buffers = Unit {0}} (Lent answer) (λ a after. CheckOutcome book table a) tt answer number tt answer'

-- patterns judged, by their bytes and lengths
pub record PatternsCall (patterns lengths answer : List ℕ) (number : ℕ) (answer' : List ℕ) : Type 0 where
  pub call :
      Called {Buffers = Unit {0}} (Lent answer) (λ a after. JudgePatterns patterns lengths a) tt answer number tt
      answer'

-- a line cut by patterns, and their machine
pub record CutCall (patterns lengths line machine tokens answer
    : List ℕ) (number : ℕ) (machine' tokens' answer' : List ℕ) : Type 0 where
  pub call :
      Called {Buffers = List ℕ × List ℕ} (Lent answer)
      (λ a after. CutOutcome patterns lengths line machine tokens a after.0 after.1) (machine, tokens) answer
      number (machine', tokens') answer'

-- a line cut with given machine cells
pub record CutWithCall (machine line tokens ends answer
    : List ℕ) (number : ℕ) (tokens' ends' answer' : List ℕ) : Type 0 where
  pub call :
      Called {Buffers = List ℕ × List ℕ} (Lent answer)
      (λ a after. CutWithOutcome machine line tokens ends a after.0 after.1) (tokens, ends) answer number
      (tokens', ends') answer'

-- FIRST and FOLLOW of each nonterminal
pub record SetsCall (book first follow answer : List ℕ) (number : ℕ) (first' follow' answer' : List ℕ) : Type 0 where
  pub call :
      Called {Buffers = List ℕ × List ℕ} (Lent answer)
      (λ a after. SetsOutcome book first follow a after.0 after.1) (first, follow) answer number
      (first', follow') answer'

-- the sets and the table
pub record BuildCall (book first follow table answer
    : List ℕ) (number : ℕ) (first' follow' table' answer' : List ℕ) : Type 0 where
  pub call :
      Called {Buffers = List ℕ × List ℕ × List ℕ} (Lent answer)
      (λ a after. BuildOutcome book first follow table a after.0 after.1 after.2) (first, follow, table)
      answer number (first', follow', table') answer'

-- a token string run on a book and a table
pub record RunCall (book table tokens stack list answer
    : List ℕ) (number : ℕ) (stack' list' answer' : List ℕ) : Type 0 where
  pub call :
      Called {Buffers = List ℕ × List ℕ} (Lent answer)
      (λ a after. RunOutcome book table tokens stack list a after.0 after.1) (stack, list) answer number
      (stack', list') answer'

-- a production list expanded to the tokens it derives
pub record ExpandCall (book list stack output answer
    : List ℕ) (number : ℕ) (stack' output' answer' : List ℕ) : Type 0 where
  pub call :
      Called {Buffers = List ℕ × List ℕ} (Lent answer)
      (λ a after. ExpandOutcome book list stack output a after.0 after.1) (stack, output) answer number
      (stack', output') answer'

-- the answer buffer has room for an answer, and the buffers of the set and of the number have a cell each
pub record LentCell (cells counts answer : List ℕ) : Type 0 where
  pub cell : 1 ≤ length cells
  pub count : 1 ≤ length counts
  pub bytes : Lent answer

-- the answer, the set and the number of what is found: done, or refused with the set 0 and the number 0
unfoldable pub answer_in : Result Trail Answer → Answer
answer_in (Ok t) = done 0
answer_in (Err a) = a

unfoldable pub set_in : Result Trail Answer → ℕ
set_in (Ok t) = number t.set
set_in (Err a) = 0

unfoldable pub vanishing_in : Result Trail Answer → ℕ
vanishing_in (Ok t) = t.vanishing
vanishing_in (Err a) = 0

-- an answer with its set and its number, each of which goes into the first cell of its buffer
pub record SetOutcome (Told : Result Trail Answer → Type 0) (cells counts
    : List ℕ) (a : Answer) (cells' counts' : List ℕ) : Type 0 where
  pub told : Result Trail Answer
  pub outcome : Told told
  pub answer : answer_in told ≡ a
  pub written : cells' ≡ over (set_in told ∷ []) cells
  pub counted : counts' ≡ over (vanishing_in told ∷ []) counts

-- what is found is told
pub record TrailTold (found : Result Trail Answer) (cells counts answer
    : List ℕ) (n : ℕ) (cells' counts' answer' : List ℕ) : Type 0 where
  pub number : n ≡ (answer_in found).number
  pub written : cells' ≡ set cells 0 (set_in found)
  pub counted : counts' ≡ set counts 0 (vanishing_in found)
  pub bytes : answer' ≡ over (answer_bytes (answer_in found)) answer

-- the lookahead of a production, and how many leading symbols of its right side can vanish
pub record LookaheadCall (book
    : List ℕ) (production : ℕ) (cells counts answer : List ℕ) (number : ℕ) (cells' counts' answer' : List ℕ)
    : Type 0 where
  pub call :
      Called {Buffers = List ℕ × List ℕ} (LentCell cells counts answer)
      (λ a after. SetOutcome (LookaheadOutcome book production) cells counts a after.0 after.1) (cells, counts)
      answer number (cells', counts') answer'

-- FIRST of a symbol string, and how many of its leading symbols can vanish
pub record FirstCall (book symbols cells counts answer
    : List ℕ) (number : ℕ) (cells' counts' answer' : List ℕ) : Type 0 where
  pub call :
      Called {Buffers = List ℕ × List ℕ} (LentCell cells counts answer)
      (λ a after. SetOutcome (FirstOutcome book symbols) cells counts a after.0 after.1) (cells, counts) answer
      number (cells', counts') answer'

-- the sheet of a book
pub record WriteSheetCall (book sheet answer : List ℕ) (number : ℕ) (sheet' answer' : List ℕ) : Type 0 where
  pub call :
      Called {Buffers = List ℕ} (Lent answer) (WriteOutcome book sheet) sheet answer number sheet' answer'

-- the book of a sheet
pub record ReadSheetCall (sheet book answer : List ℕ) (number : ℕ) (book' answer' : List ℕ) : Type 0 where
  pub call :
      Called {Buffers = List ℕ} (Lent answer) (ReadOutcome sheet book) book answer number book' answer'

-- a token string run bottom-up on a book and a table of actions and moves
pub record SlrRunCall (book table tokens stack list answer
    : List ℕ) (number : ℕ) (stack' list' answer' : List ℕ) : Type 0 where
  pub call :
      Called {Buffers = List ℕ × List ℕ} (Lent answer)
      (λ a after. SlrRunOutcome book table tokens stack list a after.0 after.1) (stack, list) answer number
      (stack', list') answer'
