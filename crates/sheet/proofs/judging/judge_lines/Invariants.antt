-- The invariant: the lines that are left come to what the whole comes to.
use mathlib.Core.Path.{◌≡◌}
use Prim.Native.Nat.{◌-◌}
use Rattle.sheet.specs.Judging.{lines_judged}
use Rattle.sheet.proofs.judging.judge_lines.Given as goal

abbrev pub invariant-loop : goal.invariant-loop
invariant-loop l = lines_judged l.sheet l.t l.n (l.count - l.counter) l.place ≡ lines_judged l.sheet l.t l.n l.count l.at
