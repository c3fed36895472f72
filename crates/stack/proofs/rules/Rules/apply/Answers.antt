-- The record stands where the index says, and its length is the column's.
use Rattle.stack.proofs.rules.Rules.apply.Goals as goal

pub returns : goal.returns
returns c = rw (c.length.ensures.symbols, ← c.place_at-at.ensures) c.replace.ensures
