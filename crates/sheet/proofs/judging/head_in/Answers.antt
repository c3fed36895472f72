-- The four numbers.
use Rattle.sheet.specs.Judging.{head_in}
use Rattle.sheet.proofs.judging.head_in.Goals as goal

pub returns : goal.returns
unfolding head_in
returns c =
    rw (
      c.read_number-count.ensures,
      c.past-3.ensures,
      c.read_number-start.ensures,
      c.past-2.ensures,
      c.read_number-nonterminals.ensures,
      c.past.ensures,
      c.read_number-tokens.ensures,
    )
