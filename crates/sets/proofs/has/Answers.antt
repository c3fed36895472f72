-- `sets::has` meets its contract: below the width by the shift, and past it because the word fits.
use mathlib.Core.Path.{sym, refl}
use borrow.Author.Rules.{rules}
use Rattle.sets.specs.Sets.{member}
use Rattle.sets.proofs.Members.{member_past}
use Rattle.sets.proofs.has.Goals as goal

pub returns-then-bit-lt-WIDTH : goal.returns-then-bit-lt-WIDTH
unfolding member
returns-then-bit-lt-WIDTH c = refl

pub returns-else-bit-lt-WIDTH : goal.returns-else-bit-lt-WIDTH
returns-else-bit-lt-WIDTH c = sym (member_past c.args.bit c.args.s.word (search rules) c.if-bit-lt-WIDTH.false)
