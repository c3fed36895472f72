-- Each place of a number in turn.
use Rattle.sheet.specs.Form.{behind}
use Rattle.sheet.proofs.Stepping.{behind_same, right_space, right_other}
use Rattle.sheet.proofs.form.behind.Goals as goal

pub returns-in-Tokens : goal.returns-in-Tokens
unfolding behind
returns-in-Tokens c = behind_same c.args.byte c.in-Tokens.is c.wants.ensures

pub returns-in-Nonterminals : goal.returns-in-Nonterminals
unfolding behind
returns-in-Nonterminals c = behind_same c.args.byte c.in-Nonterminals.is c.wants-in-Nonterminals.ensures

pub returns-in-Start : goal.returns-in-Start
unfolding behind
returns-in-Start c = behind_same c.args.byte c.in-Start.is c.wants-in-Start.ensures

pub returns-in-Count : goal.returns-in-Count
unfolding behind
returns-in-Count c = behind_same c.args.byte c.in-Count.is c.wants-in-Count.ensures

pub returns-in-Left : goal.returns-in-Left
unfolding behind
returns-in-Left c = behind_same c.args.byte c.in-Left.is c.wants-in-Left.ensures

pub returns-then-byte-eq32 : goal.returns-then-byte-eq32
returns-then-byte-eq32 c =
    let byte = c.args.byte in
    behind_same byte c.in-Right.is (right_space byte c.if-byte-eq32.true)

pub returns-else-byte-eq32 : goal.returns-else-byte-eq32
returns-else-byte-eq32 c =
    let byte = c.args.byte in
    behind_same byte c.in-Right.is (right_other byte c.if-byte-eq32.false c.wants-else-byte-eq32.ensures)
