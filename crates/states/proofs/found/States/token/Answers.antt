use mathlib.Core.Path.{◌∙◌}
use Rattle.std.proofs.Common.{rules}
use Rattle.states.proofs.Ends.{ends_found, ends_more, ends_none}
use Rattle.states.proofs.found.States.token.Goals as goal

pub returns-in-Some : goal.returns-in-Some
returns-in-Some c =
    c.end_cell.ensures
    ∙ ends_found c.args.self.now.sets c.args.state (search rules) c.loop-i.i c.loop-i.auto.i c.loop-i-test.true
    c.loop-i.invariant c.in-Some.ensures

pub loop-i-preserved : goal.loop-i-preserved
loop-i-preserved c =
    ends_more c.args.self.now.sets c.args.state (search rules) c.loop-i.i c.loop-i.auto.i c.loop-i-test.true
    c.loop-i.invariant c.in_default.ensures

pub returns : goal.returns
returns c = ends_none c.args.self.now.sets c.args.state c.loop-i.i c.loop-i-test.false c.loop-i.invariant
