-- One case of `Turns` for each answer.
use mathlib.Core.Path.{◌∙◌}
use Prim.Native.Nat.{◌-◌}
use native.Mathlib.Omega.{arith}
use Rattle.stack.proofs.Promise.{spelled_none, spelled_top, replaced_length}
use Rattle.expand.proofs.TurnChoice.{is_of_fits, turn_bottom, turn_write, turn_no_output, turn_too_short, turn_misfit, turn_no_stack, turn_apply}
use Rattle.expand.proofs.turns.turn_at.Goals as goal

pub returns-then-height-eq0 : goal.returns-then-height-eq0
returns-then-height-eq0 c = record { turns = λ lefts. turn_bottom _ c.ahead_of.ensures (spelled_none _ c.if-height-eq0.true) c.at_bottom.ensures }

pub returns-then-written-cells : goal.returns-then-written-cells
returns-then-written-cells c =
    record { turns = λ lefts. turn_write (spelled_top _ _ c.if-height-eq0.false c.symbol_of-symbol.ensures) c.in-Token.is c.if-written-cells.true }

pub returns-else-written-cells : goal.returns-else-written-cells
returns-else-written-cells c =
    record { turns = λ lefts. turn_no_output (spelled_top _ _ c.if-height-eq0.false c.symbol_of-symbol.ensures) c.in-Token.is c.if-written-cells.false }

pub returns-then-not-is_of : goal.returns-then-not-is_of
returns-then-not-is_of c =
    record { turns = λ lefts. turn_misfit (spelled_top _ _ c.if-height-eq0.false c.symbol_of-symbol.ensures) c.in-Nonterminal.is c.ahead_of-ahead.ensures c.in-Some.is (is_of_fits _ _ _ _ c.is_of.result lefts c.is_of.ensures ∙ c.if-not-is_of.true) }

pub returns-then-counts-below : goal.returns-then-counts-below
returns-then-counts-below c =
    record { turns = λ lefts. turn_no_stack (spelled_top _ _ c.if-height-eq0.false c.symbol_of-symbol.ensures) c.in-Nonterminal.is c.ahead_of-ahead.ensures c.in-Some.is (is_of_fits _ _ _ _ c.is_of.result lefts c.is_of.ensures ∙ c.if-not-is_of.false) (omega (arith, replaced_length c.length.ensures c.args.stack.now (c.args.height - 1))) }

pub returns-else-counts-below : goal.returns-else-counts-below
returns-else-counts-below c =
    record { turns = λ lefts. turn_apply (spelled_top _ _ c.if-height-eq0.false c.symbol_of-symbol.ensures) c.in-Nonterminal.is c.ahead_of-ahead.ensures c.in-Some.is (is_of_fits _ _ _ _ c.is_of.result lefts c.is_of.ensures ∙ c.if-not-is_of.false) (omega (arith, replaced_length c.length.ensures c.args.stack.now (c.args.height - 1))) }

pub returns-in-None : goal.returns-in-None
returns-in-None c =
    record { turns = λ lefts. turn_too_short (spelled_top _ _ c.if-height-eq0.false c.symbol_of-symbol.ensures) c.in-Nonterminal.is c.ahead_of-ahead.ensures c.in-None.is }
