-- The invariant: the tokens that are left come to what the whole string comes to.
use mathlib.Core.Path.{◌≡◌}
use Rattle.slr_run.proofs.Whole.{Walking}
use Rattle.slr_run.proofs.running.run_all.Given as goal

abbrev pub invariant-loop-token : goal.invariant-loop-token
invariant-loop-token l = record {
  walking : Walking l.machine l.tokens l.initial.stack l.initial.list l.at l.stack l.list;
  matched : l.at.matched ≡ l.token-index;
}
