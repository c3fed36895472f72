-- Each phase in turn.
use Rattle.sheet.specs.Form.{step}
use Rattle.sheet.proofs.Stepping.{step_same}
use Rattle.sheet.proofs.form.step.Goals as goal

pub returns-in-First : goal.returns-in-First
unfolding step
returns-in-First c = step_same c.args.byte c.in-First.is c.begin.ensures

pub returns-in-More : goal.returns-in-More
unfolding step
returns-in-More c = step_same c.args.byte c.in-More.is c.go_on.ensures

pub returns-in-Behind : goal.returns-in-Behind
unfolding step
returns-in-Behind c = step_same c.args.byte c.in-Behind.is c.behind.ensures

pub returns-in-Line : goal.returns-in-Line
unfolding step
returns-in-Line c = step_same c.args.byte c.in-Line.is c.wants.ensures

pub returns-in-Colon : goal.returns-in-Colon
unfolding step
returns-in-Colon c = step_same c.args.byte c.in-Colon.is c.wants-in-Colon.ensures

pub returns-in-Letter : goal.returns-in-Letter
unfolding step
returns-in-Letter c = step_same c.args.byte c.in-Letter.is c.letter.ensures
