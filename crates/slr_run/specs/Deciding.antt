-- What the machine does next, one case each: what the state on top says to a column, and what the room allows.
-- Document 02, W12. Only contracts inside the crate cite what stands here.
use Rattle.std.specs.Prelude.{◌≡◌, List, [], ◌∷◌, ℕ, suc, ◌≤◌, ◌<◌, length, drop}
use Rattle.std.proofs.Math.Option.{some, none}
use Rattle.grammar.specs.Grammar.{Column, token, endmark}
use Rattle.slr.specs.Actions.{shift, reduce, accept}
use Rattle.slr.specs.RoomMachine.{Setting}
use Rattle.slr_run.specs.declared.Cause.TheVariants.{FullList, FullStack, Wants}
use Rattle.slr_run.specs.declared.Ending.TheVariants.{Shift, Accept, Stop}
use Rattle.slr_run.specs.declared.Turn.TheVariants.{Reduce, Finish}
use Rattle.slr_run.specs.declared.Turn.{Turn}

-- with these states held, the top apart, and so many productions listed; a state that is pushed is one of the rows
pub data Turns (m : Setting) (rows : ℕ) (c : Column) (top : ℕ) (below : List ℕ) (listed : ℕ) : Turn → Type 0 where
  empty : m.cell top c ≡ none → Turns m rows c top below listed (Finish (Stop Wants))
  accepts : m.cell top c ≡ some accept → c ≡ endmark → Turns m rows c top below listed (Finish Accept)
  shifts : {t j : ℕ}
      → m.cell top c ≡ some (shift j)
      → c ≡ token t
      → j < rows
      → suc (length below) < m.room
      → Turns m rows c top below listed (Finish (Shift j))
  shift_full : {t j : ℕ}
      → m.cell top c ≡ some (shift j)
      → c ≡ token t
      → m.room ≤ suc (length below)
      → Turns m rows c top below listed (Finish (Stop FullStack))
  bare : {p : ℕ}
      → m.cell top c ≡ some (reduce p)
      → drop (m.size p) (top ∷ below) ≡ []
      → Turns m rows c top below listed (Finish (Stop Wants))
  no_move : {p k : ℕ} {rest : List ℕ}
      → m.cell top c ≡ some (reduce p)
      → drop (m.size p) (top ∷ below) ≡ k ∷ rest
      → m.move k (m.left p) ≡ none
      → Turns m rows c top below listed (Finish (Stop Wants))
  list_full : {p k j : ℕ} {rest : List ℕ}
      → m.cell top c ≡ some (reduce p)
      → drop (m.size p) (top ∷ below) ≡ k ∷ rest
      → m.move k (m.left p) ≡ some j
      → m.cells ≤ listed
      → Turns m rows c top below listed (Finish (Stop FullList))
  stack_full : {p k j : ℕ} {rest : List ℕ}
      → m.cell top c ≡ some (reduce p)
      → drop (m.size p) (top ∷ below) ≡ k ∷ rest
      → m.move k (m.left p) ≡ some j
      → listed < m.cells
      → m.room ≤ suc (length rest)
      → Turns m rows c top below listed (Finish (Stop FullStack))
  reduces : {p k j base : ℕ} {rest : List ℕ}
      → m.cell top c ≡ some (reduce p)
      → drop (m.size p) (top ∷ below) ≡ k ∷ rest
      → m.move k (m.left p) ≡ some j
      → j < rows
      → listed < m.cells
      → suc (length rest) < m.room
      → length rest ≡ base
      → Turns m rows c top below listed (Reduce p j base)

-- what is done where the state on top says to reduce by p, whatever the column
pub record Reduction (m : Setting) (rows p top : ℕ) (below : List ℕ) (listed : ℕ) (r : Turn) : Type 0 where
  pub turns : (c : Column) → m.cell top c ≡ some (reduce p) → Turns m rows c top below listed r
