-- The room of a plain grammar: each token is brought to the front by at most one production, so a run lists no more than there are tokens.
use mathlib.Core.Option.{Option}
use mathlib.Core.List.{List}
use Prim.Native.Nat.{ℕ, ◌+◌, ◌*◌, ◌≤◌}
use native.Mathlib.Omega.{arith}
use lib.ListN.{length}
use Rattle.grammar.specs.declared.Symbol.{Symbol}
use Rattle.grammar.specs.Grammar.{Form, Grammar, Column, Rule}
use Rattle.grammar.specs.Machine.{Exact}
use Rattle.grammar.specs.Plain.{Plain}
use Rattle.grammar.specs.Filled.{Leads}
use Rattle.grammar.proofs.Theorems.{plain_filled, plain_leads}
use Rattle.machine.specs.Stopping.{Decided, run_of}
use Rattle.machine.specs.Machine.{final}
use Rattle.machine.proofs.RoomFormula.{lists_few, stays_low, always_enough}

module _ {g : Grammar} {cell : ℕ → Column → Option ℕ} (exact : Exact g cell) (plain : Plain g) (room cells : ℕ) (w : List ℕ) where
  one : (t : ℕ) (x : Symbol) (k : ℕ) → Leads g cell t x k → k ≤ 1
  one t x k l = plain_leads plain l

  -- a run lists at most as many productions as there are tokens, however it ends and with whatever room
  pub plain_lists_few : length (final (run_of g cell room cells w)).listed ≤ length w
  plain_lists_few = omega (arith, lists_few exact (plain_filled plain) one room cells w)

  module _ (short : (p A : ℕ) (β : Form) → Rule g p A β → length β ≤ 16) where
    -- and holds at most 15 stack cells for each token beside the first
    pub plain_stays_low : (final (run_of g cell room cells w)).height ≤ 1 + 15 * length w
    plain_stays_low = omega (arith, stays_low exact (plain_filled plain) one room cells w short)

    -- so with that much room the string is taken or stops by syntax
    pub plain_always_enough : length w ≤ cells → 1 + 15 * length w ≤ room → Decided (run_of g cell room cells w)
    plain_always_enough h k = always_enough exact (plain_filled plain) one room cells w short (omega arith) (omega arith)
