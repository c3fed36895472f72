-- What the machine does next, one case each: what the top of the stack says to a column, and what the room allows.
-- Document 01, "Running and expanding". Only contracts inside the crate cite what stands here.
use Rattle.std.specs.Prelude.{◌≡◌, ◌≢◌, List, [], ◌∷◌, ◌++◌, ℕ, ◌≤◌, ◌<◌, length, Option, Result, Ok, Err}
use Rattle.std.proofs.Math.Option.{some, none}
use Rattle.std.proofs.Math.Option as math
use Rattle.grammar.specs.Grammar.{Form, Grammar, Column, token, endmark}
use Rattle.grammar.specs.declared.Symbol.TheVariants.{Token, Nonterminal}
use Rattle.grammar.specs.declared.Symbol.{Symbol}
use Rattle.answers.specs.Buffers.{counted}
use Rattle.book.specs.Columns.{grammar_in, Outlines}
use Rattle.book.specs.declared.Index.{Index}
use Rattle.book.specs.declared.columns.Outline.{Outline}
use Rattle.table.specs.Table.{held, cell_of}
use Rattle.machine.specs.Room.{right_of}
use Rattle.machine.specs.declared.Reason.{Reason}
use Rattle.machine.specs.declared.Reason.TheVariants.{FullList, FullStack, WantsEnd, WantsToken, WantsRow}
use Rattle.stack.specs.Ahead.{column_in}
use Rattle.stack.specs.Stack.{spelled_by}
use Rattle.offer.specs.declared.Move.TheVariants.{Use, Match, Accept}
use Rattle.offer.specs.declared.Move.{Move}
use Rattle.offer.specs.declared.Step.{Step}

-- an empty stack faces the column
pub data Bottom (c : Column) : Result Move Reason → Type 0 where
  accepts : c ≡ endmark → Bottom c (Ok Accept)
  left_over : {t : ℕ} → c ≡ token t → Bottom c (Err WantsEnd)

-- what a symbol on top of the stack says to the column
pub data Faces (cell : ℕ → Column → math.Option ℕ) (c : Column) (x : Symbol) : Result Move Reason → Type 0 where
  matches : {t : ℕ} → x ≡ Token t → c ≡ token t → Faces cell c x (Ok Match)
  unmatched : {t : ℕ} → x ≡ Token t → c ≢ token t → Faces cell c x (Err (WantsToken t))
  vacant : {A : ℕ} → x ≡ Nonterminal A → cell A c ≡ none → Faces cell c x (Err (WantsRow A))
  filled : {A p : ℕ} → x ≡ Nonterminal A → cell A c ≡ some p → Faces cell c x (Ok (Use p))

-- and what is done with the stack α and so many productions listed
module _ (right : ℕ → Form) (cell : ℕ → Column → math.Option ℕ) (room cells : ℕ) where
  pub data Chosen (c : Column) (α : Form) (listed : ℕ) : Result Move Reason → Type 0 where
    accepts : α ≡ [] → c ≡ endmark → Chosen c α listed (Ok Accept)
    left_over : {t : ℕ} → α ≡ [] → c ≡ token t → Chosen c α listed (Err WantsEnd)
    matches : {t : ℕ} {β : Form} → α ≡ Token t ∷ β → c ≡ token t → Chosen c α listed (Ok Match)
    unmatched : {t : ℕ} {β : Form} → α ≡ Token t ∷ β → c ≢ token t → Chosen c α listed (Err (WantsToken t))
    vacant : {A : ℕ} {β : Form}
        → α ≡ Nonterminal A ∷ β
        → cell A c ≡ none
        → Chosen c α listed (Err (WantsRow A))
    list_full : {A p : ℕ} {β : Form}
        → α ≡ Nonterminal A ∷ β
        → cell A c ≡ some p
        → cells ≤ listed
        → Chosen c α listed (Err FullList)
    stack_full : {A p : ℕ} {β : Form}
        → α ≡ Nonterminal A ∷ β
        → cell A c ≡ some p
        → listed < cells
        → room < length (right p ++ β)
        → Chosen c α listed (Err FullStack)
    uses : {A p : ℕ} {β : Form}
        → α ≡ Nonterminal A ∷ β
        → cell A c ≡ some p
        → listed < cells
        → length (right p ++ β) ≤ room
        → Chosen c α listed (Ok (Use p))

-- inside the crate: what the table says in a row to what comes next, for every grammar with these numbers
pub record CellFacing (o : Outline) (table : List ℕ) (A : ℕ) (ahead : Option ℕ) (r : ℕ) : Type 0 where
  pub says : (g : Grammar) → Outlines o g → held r ≡ cell_of g table A (column_in ahead)

-- what the symbol on top says to it
pub record Decision (step : Step) (table : List ℕ) (o : Outline) (r : Result Move Reason) : Type 0 where
  pub faces : (g : Grammar) → Outlines o g → Faces (cell_of g table) (column_in step.ahead) step.symbol r

-- and what is done with the first cells of the stack in use, and so many of the list's cells
abbrev pub Choice : (book : List ℕ) → Index → (table : List ℕ) → Option ℕ → (stack : List ℕ) → (height cells listed : ℕ)
    → Result Move Reason
    → Type 0
Choice book index table ahead stack height cells listed =
    Chosen
    (right_of (grammar_in book index))
    (cell_of (grammar_in book index) table)
    (counted stack)
    cells
    (column_in ahead)
    (spelled_by stack height)
    listed
