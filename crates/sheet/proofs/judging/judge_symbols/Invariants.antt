-- The invariant: the symbols that are left come to what the whole comes to.
use mathlib.Core.Path.{◌≡◌}
use Prim.Native.Nat.{◌-◌}
use Rattle.answers.specs.Limits.{most_symbols}
use Rattle.sheet.specs.Judging.{symbols_judged}
use Rattle.sheet.proofs.judging.judge_symbols.Given as goal

abbrev pub invariant-loop : goal.invariant-loop
invariant-loop l = symbols_judged l.sheet l.t l.n (most_symbols - l.counter) l.place ≡ symbols_judged l.sheet l.t l.n most_symbols l.at
