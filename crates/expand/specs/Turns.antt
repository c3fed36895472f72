-- What an expansion does next, one case each, and what the code says of one that has ended.
-- Document 01, "Running and expanding". Only contracts inside the crate cite what stands here.
use Rattle.std.specs.Prelude.{◌≡◌, Bool, true, false, List, [], ◌∷◌, ◌++◌, ℕ, ◌≤◌, ◌<◌, length, drop, ⊤, Option, Some, None, Result, Ok, Err}
use Rattle.grammar.specs.Grammar.{Form, Grammar}
use Rattle.grammar.specs.declared.Symbol.TheVariants.{Token, Nonterminal}
use Rattle.answers.specs.declared.Answer.{Answer}
use Rattle.answers.specs.Buffers.{over, counted, cleared}
use Rattle.book.specs.declared.Index.{Index}
use Rattle.book.specs.Columns.{grammar_in, Lefts}
use Rattle.machine.specs.Room.{is_of, right_of}
use Rattle.machine.specs.Expansion.{expansion, Expansion}
use Rattle.machine.specs.declared.Obstacle.{Obstacle}
use Rattle.machine.specs.declared.Obstacle.TheVariants.{Unfit, FullStack, FullOutput}
use Rattle.stack.specs.Stack.{spelled_by}
use Rattle.expand.specs.Expanding.{expand_answer}
use Rattle.expand.specs.declared.Turn.TheVariants.{Write, Apply, Close}
use Rattle.expand.specs.declared.Turn.{Turn}
use Rattle.expand.specs.declared.Unfolding.{Unfolding}

-- an empty stack: no production may be left
abbrev pub emptied : Option ℕ → Result ⊤ Obstacle
emptied (Some p) = Err Unfit
emptied None = Ok tt

-- whether production p is one of A, its right side, and how many cells of stack and output count as room
module _ (fits : ℕ → ℕ → Bool) (right : ℕ → Form) (cells output : ℕ) where
  -- with the productions ps left, the stack α and so many tokens written
  pub data Turns (ps : List ℕ) (α : Form) (written : ℕ) : Turn → Type 0 where
    finished : α ≡ [] → ps ≡ [] → Turns ps α written (Close (Ok tt))
    left_over : {p : ℕ} {qs : List ℕ} → α ≡ [] → ps ≡ p ∷ qs → Turns ps α written (Close (Err Unfit))
    too_short : {A : ℕ} {β : Form} → α ≡ Nonterminal A ∷ β → ps ≡ [] → Turns ps α written (Close (Err Unfit))
    misfit : {A p : ℕ} {β : Form} {qs : List ℕ}
        → α ≡ Nonterminal A ∷ β
        → ps ≡ p ∷ qs
        → fits A p ≡ false
        → Turns ps α written (Close (Err Unfit))
    no_stack : {A p : ℕ} {β : Form} {qs : List ℕ}
        → α ≡ Nonterminal A ∷ β
        → ps ≡ p ∷ qs
        → fits A p ≡ true
        → cells < length (right p ++ β)
        → Turns ps α written (Close (Err FullStack))
    applies : {A p : ℕ} {β : Form} {qs : List ℕ}
        → α ≡ Nonterminal A ∷ β
        → ps ≡ p ∷ qs
        → fits A p ≡ true
        → length (right p ++ β) ≤ cells
        → Turns ps α written (Apply p)
    no_output : {t : ℕ} {β : Form} → α ≡ Token t ∷ β → output ≤ written → Turns ps α written (Close (Err FullOutput))
    writes : {t : ℕ} {β : Form} → α ≡ Token t ∷ β → written < output → Turns ps α written (Write t)

-- what is done next with the first cells of the stack in use, so many productions of the list used, and so many tokens
-- written of the output's cells; where the column of left sides is the book's
pub record TurnAt (book : List ℕ) (index : Index) (lefts list : List ℕ) (used : ℕ) (stack : List ℕ)
    (height written cells : ℕ) (r : Turn) : Type 0 where
  pub turns : Lefts book index lefts
      → Turns
      (is_of (grammar_in book index))
      (right_of (grammar_in book index))
      (counted stack)
      cells
      (drop used list)
      (spelled_by stack height)
      written
      r

unfoldable pub unfolded : Expansion → Unfolding
unfolded e =
    record {
      ending = e.ending;
      used = e.progress.used;
      written = length e.progress.written;
      deepest = e.progress.height;
    }

-- steps made from the start, before the stack is cleared
pub record Unfolds (g : Grammar) (list stack output : List ℕ) (r : Unfolding) (stack' output' : List ℕ) : Type 0 where
  pub answer : r ≡ unfolded (expansion g (counted stack) (counted output) list)
  pub written : output' ≡ over (expansion g (counted stack) (counted output) list).progress.written output
  pub stack_length : length stack' ≡ length stack
  pub output_length : length output' ≡ length output

-- steps made and answered, and the stack cleared
pub record ExpandedOn (g : Grammar) (list stack output : List ℕ) (r : Answer) (stack' output' : List ℕ) : Type 0 where
  pub answer : r ≡ expand_answer (expansion g (counted stack) (counted output) list)
  pub stack_cells : stack' ≡ cleared stack
  pub output_cells : output' ≡ over (expansion g (counted stack) (counted output) list).progress.written output
