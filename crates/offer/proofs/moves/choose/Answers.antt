-- One case of `Chosen` for each answer.
use Rattle.std.specs.Prelude.{Ok}
use mathlib.Core.Path.{◌≡◌, ap}
use Rattle.offer.specs.declared.Move.TheVariants.{Use}
use Rattle.std.proofs.lemmas.Result.{err_from_is_err_and}
use Prim.Native.Nat.{ℕ, ◌-◌}
use native.Mathlib.Omega.{arith}
use Rattle.book.proofs.Promise.{outlined_sized}
use Rattle.stack.proofs.Promise.{spelled_none, spelled_top, replaced_length}
use Rattle.offer.proofs.Choosing.{chosen_bottom, chosen_finish, chosen_full_list, chosen_full_stack, chosen_use}
use Rattle.offer.proofs.moves.choose.Goals as goal

pub returns-then-height-eq0 : goal.returns-then-height-eq0
returns-then-height-eq0 c = chosen_bottom (spelled_none _ c.if-height-eq0.true) c.at_bottom.ensures

pub returns-in_default : goal.returns-in_default
returns-in_default c = chosen_finish (spelled_top _ _ c.if-height-eq0.false c.symbol_of-symbol.ensures) (c.in_ok-choice.ensures.faces _ (outlined_sized _ _ _)) (λ p e. let same : c.in_ok-choice.choice ≡ Use p = cc in c.in_default.not-Use p same)

pub returns-then-cells-listed : goal.returns-then-cells-listed
returns-then-cells-listed c =
    chosen_full_list (spelled_top _ _ c.if-height-eq0.false c.symbol_of-symbol.ensures) (c.in_ok-choice.ensures.faces _ (outlined_sized _ _ _)) (ap Ok c.in-Use.is) c.if-cells-listed.true

pub returns-then-counts-below : goal.returns-then-counts-below
returns-then-counts-below c =
    chosen_full_stack (spelled_top _ _ c.if-height-eq0.false c.symbol_of-symbol.ensures) (c.in_ok-choice.ensures.faces _ (outlined_sized _ _ _)) (ap Ok c.in-Use.is) c.if-cells-listed.false (omega (arith, replaced_length c.length.ensures c.args.stack.now (c.args.height - 1)))

pub returns : goal.returns
returns c =
    chosen_use (spelled_top _ _ c.if-height-eq0.false c.symbol_of-symbol.ensures) (c.in_ok-choice.ensures.faces _ (outlined_sized _ _ _)) (ap Ok c.in-Use.is) c.if-cells-listed.false (omega (arith, replaced_length c.length.ensures c.args.stack.now (c.args.height - 1)))

pub returns-in_err-choice : goal.returns-in_err-choice
returns-in_err-choice c =
    let p = err_from_is_err_and c.from_residual.result c.from_residual.ensures.1 in
    rw (p.1, p.2, ← c.in_err-choice.was) (chosen_finish (spelled_top _ _ c.if-height-eq0.false c.symbol_of-symbol.ensures) (c.decide.ensures.faces _ (outlined_sized _ _ _)) (λ p e. let bad : ◌≡◌ {A = ℕ} 0 1 = cc (c.in_err-choice.was) in absurd (omega arith)))
