-- The invariant: none of the productions gone through is alike.
use Prim.Native.Nat.{ℕ, ◌<◌}
use Rattle.profile.specs.Breaking.{Alike}
use Rattle.profile.proofs.breaks.shares.Given as goal

abbrev pub invariant-loop-q : goal.invariant-loop-q
invariant-loop-q l = (i : ℕ) → i < l.q → ¬ Alike l.lefts l.heads i l.p
