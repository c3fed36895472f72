use mathlib.Core.Path.{refl, sym, ◌∙◌}
use borrow.Author.Rules.{rules}
use Rattle.reader.proofs.Joined.{told_symbol}
use Rattle.reader.proofs.Turns.{symbols_over}
use Rattle.reader.proofs.Guards.{symbols_go, symbols_stop}
use Rattle.reader.proofs.spelling.symbols.Goals as goal

pub loop-at-init : goal.loop-at-init
loop-at-init c = (search rules, refl)

pub returns-then-not-is_symbol : goal.returns-then-not-is_symbol
returns-then-not-is_symbol c =
    sym (symbols_stop _ _ _ _ _ c.loop-at-test.true c.requires.1 (sym (told_symbol _ _ _ {r = c.is_symbol.result} c.is_symbol.ensures) ∙ c.if-not-is_symbol.true))
    ∙ c.loop-at.invariant.1

pub loop-at-preserved : goal.loop-at-preserved
loop-at-preserved c = (
  search rules,
  sym (symbols_go _ _ _ _ _ c.loop-at-test.true c.requires.1 (sym (told_symbol _ _ _ {r = c.is_symbol.result} c.is_symbol.ensures) ∙ c.if-not-is_symbol.false))
      ∙ c.loop-at.invariant.1,
)

pub returns : goal.returns
returns c = sym (symbols_over _ _ _ _ _ _ c.loop-at-test.false) ∙ c.loop-at.invariant.1
