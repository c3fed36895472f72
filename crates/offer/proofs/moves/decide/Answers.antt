-- One case of `Faces` for each answer.
use mathlib.Core.Path.{sym, ◌∙◌}
use Rattle.table.proofs.Promise.{held_vacant, held_filled}
use Rattle.offer.specs.Moves.{matches, unmatched, vacant, filled}
use Rattle.offer.proofs.Deciding.{meets_true, meets_false}
use Rattle.offer.proofs.moves.decide.Goals as goal

pub returns-then-is_next : goal.returns-then-is_next
returns-then-is_next c = record { faces = λ g sized. matches c.in-Token.is (meets_true _ _ (sym c.is_next.ensures ∙ c.if-is_next.true)) }

pub returns-else-is_next : goal.returns-else-is_next
returns-else-is_next c = record { faces = λ g sized. unmatched c.in-Token.is (meets_false _ _ (sym c.is_next.ensures ∙ c.if-is_next.false)) }

pub returns-then-p : goal.returns-then-p
returns-then-p c = record { faces = λ g sized. vacant c.in-Nonterminal.is (held_vacant (c.cell_facing-p.ensures.says g sized) c.if-p.true) }

pub returns-else-p : goal.returns-else-p
returns-else-p c = record { faces = λ g sized. filled c.in-Nonterminal.is (held_filled (c.cell_facing-p.ensures.says g sized) c.if-p.false) }
