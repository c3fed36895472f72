-- `parts::letters::special` meets its contract: marks that stand side by side are told by their order.
use mathlib.Core.Path.{sym}
use mathlib.Core.Logic.{⊎_elim}
use native.Mathlib.Omega.{arith}
use Rattle.pattern.specs.Marks.{among}
use Rattle.parts.proofs.Marks.{below_marks, between_marks, above_marks, among_signs, among_brackets}
use Rattle.parts.proofs.letters.special.Goals as goal

pub returns-in_default : goal.returns-in_default
returns-in_default c = sym (below_marks c.args.byte (omega arith))

pub returns-in_default-2 : goal.returns-in_default-2
returns-in_default-2 c = sym (between_marks c.args.byte (λ e. grind arith) (omega arith) (omega arith))

pub returns-in_default-3 : goal.returns-in_default-3
returns-in_default-3 c = sym (above_marks c.args.byte (λ e. grind arith) (omega arith))

pub returns-in-40 : goal.returns-in-40
unfolding among
returns-in-40 c = ⊎_elim (λ e. rw e) (λ e. rw e) c.in-40.is

pub returns-in-40-2 : goal.returns-in-40-2
returns-in-40-2 c = sym (among_signs c.args.byte (omega arith) (omega arith))

pub returns-in-40-3 : goal.returns-in-40-3
returns-in-40-3 c = sym (among_brackets c.args.byte (omega arith) (omega arith))
