-- The invariant: the records that are left come to what the whole comes to.
use mathlib.Core.Path.{◌≡◌}
use Prim.Native.Nat.{◌-◌}
use Rattle.std.specs.Prelude.{Ok}
use Rattle.reader.specs.Positional.{each_record_from}
use Rattle.reader.proofs.spelling.records.Given as goal

abbrev pub invariant-loop : goal.invariant-loop
invariant-loop l =
    each_record_from l.book l.t l.n (l.end - l.counter) (Ok l.at) ≡ each_record_from l.book l.t l.n l.end (Ok l.from)
