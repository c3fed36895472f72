-- The invariant: the bytes that are left come to what the whole comes to.
use mathlib.Core.Path.{◌≡◌}
use Prim.Native.Nat.{◌-◌, ◌≤◌}
use Rattle.std.specs.Prelude.{Ok}
use Rattle.reader.specs.Positional.{symbols_from}
use Rattle.reader.proofs.spelling.symbols.Given as goal

abbrev pub invariant-loop-at : goal.invariant-loop-at
invariant-loop-at l =
    (l.at ≤ l.last) × (symbols_from l.book l.t l.n (l.last - l.at) (Ok l.at) ≡ symbols_from l.book l.t l.n (l.last - l.from) (Ok l.from))

abbrev pub decreases-loop-at : goal.decreases-loop-at
decreases-loop-at l = l.last - l.at
