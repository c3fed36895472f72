-- The invariant: none of the productions gone through breaks the profile.
use Prim.Native.Nat.{ℕ, ◌<◌}
use Rattle.grammar.specs.Plain.{Breaks}
use Rattle.book.specs.Columns.{grammar_in}
use Rattle.profile.proofs.breaks.first_break.Given as goal

abbrev pub invariant-loop-p : goal.invariant-loop-p
invariant-loop-p l = (k : ℕ) → k < l.p → ¬ Breaks (grammar_in l.book l.index) k
