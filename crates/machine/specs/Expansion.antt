-- The machine that expands a list of productions, on lists, with the room that it is lent. One move is one step.
-- Document 01, "Running and expanding".
use Rattle.std.specs.Prelude.{Bool, true, false, List, [], ◌∷◌, ◌++◌, ◌≡◌, ℕ, suc, ◌+◌, ◌≤◌, max, leb, ltb, length, ⊤, Result, Ok, Err}
use Rattle.grammar.specs.declared.Symbol.TheVariants.{Token, Nonterminal}
use Rattle.grammar.specs.Grammar.{Form, Grammar}
use Rattle.machine.specs.declared.Obstacle.{Obstacle}
use Rattle.machine.specs.declared.Obstacle.TheVariants.{Unfit, FullStack, FullOutput}
use Rattle.machine.specs.Room.{right_of, is_of}

-- the tokens written and the productions used so far; the moves made; the greatest height of the stack so far
pub record Course : Type 0 where
  pub written : List ℕ
  pub used : ℕ
  pub moves : ℕ
  pub height : ℕ

-- how it ends, and what it has come to
pub record Expansion : Type 0 where
  pub ending : Result ⊤ Obstacle
  pub progress : Course

unfoldable pub ended : Result ⊤ Obstacle → Course → Expansion
ended e s = record { ending = e; progress = s }

unfoldable pub wrote : ℕ → Course → Course
wrote t s = record { written = s.written ++ (t ∷ []); used = s.used; moves = suc s.moves; height = s.height }

unfoldable pub applied : Form → Course → Course
applied β s =
    record { written = s.written; used = suc s.used; moves = suc s.moves; height = max s.height (length β) }

-- whether production p is one of A, its right side, and how many cells of stack and output count as room
module _ (fits : ℕ → ℕ → Bool) (right : ℕ → Form) (room output : ℕ) where
  -- tokens on top are written, until the stack is empty or a nonterminal stands on top
  unfoldable pub writing : (Course → Expansion) → (ℕ → Form → Course → Expansion) → Form → Course → Expansion
  writing empty apply [] s = empty s
  writing empty apply (Token t ∷ α) s =
      elim (ltb (length s.written) output) [
        | true ↦ writing empty apply α (wrote t s)
        | false ↦ ended (Err FullOutput) s
      ]
  writing empty apply (Nonterminal A ∷ α) s = apply A α s

  -- a number that is no production of A does not fit; then the stack must not be too long
  unfoldable pub applying : (Form → Course → Expansion) → ℕ → ℕ → Form → Course → Expansion
  applying next p A α s =
      elim (fits A p) [
        | true ↦
            elim (leb (length (right p ++ α)) room)
            [ true ↦ next (right p ++ α) (applied (right p ++ α) s) | false ↦ ended (Err FullStack) s ]
        | false ↦ ended (Err Unfit) s
      ]

  unfoldable pub expand_from : List ℕ → Form → Course → Expansion
  expand_from [] α s = writing (ended (Ok tt)) (λ A β s. ended (Err Unfit) s) α s
  expand_from (p ∷ ps) α s = writing (ended (Err Unfit)) (λ A β s. applying (expand_from ps) p A β s) α s

-- nothing is written or used, and the start symbol alone is on the stack
unfoldable pub opened : Course
opened = record { written = []; used = 0; moves = 0; height = 1 }

-- the expansion of ps by the productions of g, with so many cells of stack and output
abbrev pub expansion : Grammar → ℕ → ℕ → List ℕ → Expansion
expansion g cells output ps = expand_from (is_of g) (right_of g) cells output ps (Nonterminal g.start ∷ []) opened

-- of n productions: one move for each one used and each token written, and no more used, written or stacked than there
-- is; the start symbol's cell counts in any case
pub record Spent (cells output n : ℕ) (s : Course) : Type 0 where
  pub moves : s.moves ≡ s.used + length s.written
  pub used : s.used ≤ n
  pub written : length s.written ≤ output
  pub height : s.height ≤ max 1 cells

-- the expansion ends for no want of room
pub data WithRoom : Result ⊤ Obstacle → Type 0 where
  completes : WithRoom (Ok tt)
  misfits : WithRoom (Err Unfit)
