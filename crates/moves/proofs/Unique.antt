-- No public contract of the crate allows a second outcome.
use mathlib.Core.Path.{◌≡◌, sym, ◌∙◌}
use mathlib.Core.List.{List}
use Prim.Native.Nat.{ℕ, ◌<◌}
use native.Mathlib.Nat.{zero-add}
use native.Mathlib.Omega.{arith}
use lib.ListN.{get_or}
use lib.Seq.{ext_get_or}
use Rattle.sets.proofs.Promise.{exactly_unique}
use Rattle.points.proofs.Promise.{points_same}
use Rattle.answers.specs.Limits.{point_words}
use Rattle.moves.specs.Tables.{set_of, NextWords}

pub after_unique : {sets : List ℕ} {i : ℕ} {readers : List ℕ} {b : ℕ} {follow after after' : List ℕ}
    → NextWords sets i readers b follow after
    → NextWords sets i readers b follow after'
    → after ≡ after'
unfolding set_of
after_unique {after = after} {after' = after'} h h' =
    ext_get_or 0 after after' (h.long ∙ sym h'.long) (λ j inside. word j (omega (arith, h.long)))
  where
    word : (j : ℕ) → j < point_words → get_or after j 0 ≡ get_or after' j 0
    word j inside =
        simp zero-add at
        ((points_same after 0 after' 0 point_words h.words h'.words).1
        (exactly_unique (set_of after 0) (set_of after' 0) h.exact h'.exact) j inside)
