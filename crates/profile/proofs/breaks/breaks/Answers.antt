-- An empty right side, a nonterminal in front, or a lower production that is alike.
use Rattle.profile.proofs.Breaking.{breaks_empty, breaks_named, breaks_shared}
use Rattle.profile.proofs.breaks.breaks.Goals as goal

pub returns-then-cell_or-eq0 : goal.returns-then-cell_or-eq0
returns-then-cell_or-eq0 c = breaks_empty c.cell_or.ensures c.if-cell_or-eq0.true

pub returns-then-cell_or-ge-FIRST_NONTERMINAL : goal.returns-then-cell_or-ge-FIRST_NONTERMINAL
returns-then-cell_or-ge-FIRST_NONTERMINAL c = breaks_named c.cell_or.ensures c.if-cell_or-eq0.false c.cell_or-2.ensures c.if-cell_or-ge-FIRST_NONTERMINAL.true

pub returns : goal.returns
returns c = breaks_shared c.cell_or.ensures c.if-cell_or-eq0.false c.cell_or-2.ensures c.if-cell_or-ge-FIRST_NONTERMINAL.false c.shares.ensures
