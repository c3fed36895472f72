-- `patterns::gathering::finish` meets its contract.
use borrow.Author.Rules.{rules}
use Rattle.patterns.proofs.Finishing.{finished}
use Rattle.patterns.proofs.gathering.finish.Goals as goal

pub returns : goal.returns
returns c =
    finished c.requires c.put.ensures c.args.part.last c.args.part.first (search rules) c.lead.ensures c.unite.ensures
