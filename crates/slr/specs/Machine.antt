-- The bottom-up machine with room without end, on any cells and moves.
-- Source document 000, 3.4.3; of its stack only the states matter. Definitions only.
use Rattle.std.specs.Prelude.{◌≡◌, List, [], ◌∷◌, ℕ, length, drop}
use Rattle.std.proofs.Math.Option.{Option, some}
use Rattle.grammar.specs.Grammar.{Form, Grammar, Column, token, endmark, Rule}
use Rattle.grammar.specs.Machine.{front}
use Rattle.slr.specs.Actions.{Action, shift, reduce, accept}

module _ (g : Grammar) (cell : ℕ → Column → Option Action) (move : ℕ → ℕ → Option ℕ) where
  -- with these states on the stack, the top first, and w unread, the machine lists ps and accepts: at once; after the
  -- next token is shifted; or after a reduction, by which as many states are popped as the right side has symbols and
  -- the move of the state uncovered is pushed
  pub data Accepting : List ℕ → List ℕ → List ℕ → Type 0 where
    accepts : {s : ℕ} {below : List ℕ} → cell s endmark ≡ some accept → Accepting (s ∷ below) [] []
    shifts : {s t j : ℕ} {below w ps : List ℕ}
        → cell s (token t) ≡ some (shift j)
        → Accepting (j ∷ s ∷ below) w ps
        → Accepting (s ∷ below) (t ∷ w) ps
    reduces : {s p A k j : ℕ} {β : Form} {below rest w ps : List ℕ}
        → cell s (front w) ≡ some (reduce p)
        → Rule g p A β
        → drop (length β) (s ∷ below) ≡ k ∷ rest
        → move k A ≡ some j
        → Accepting (j ∷ k ∷ rest) w ps
        → Accepting (s ∷ below) w (p ∷ ps)

  -- from state 0 on, all of w is read, and ps is listed
  abbrev pub SlrAccepts : List ℕ → List ℕ → Type 0
  SlrAccepts w ps = Accepting (0 ∷ []) w ps
