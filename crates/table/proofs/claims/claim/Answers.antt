-- Each way out is a case of the claim.
use mathlib.Core.Path.{sym, ◌∙◌}
use Rattle.table.specs.Claims.{passes, enters, contests, follows}
use Rattle.table.proofs.claims.claim.Goals as goal

pub returns-then-not-has : goal.returns-then-not-has
returns-then-not-has c = rw (sym c.has.ensures ∙ c.if-not-has.true) passes

pub returns-then-holder : goal.returns-then-holder
returns-then-holder c = rw (sym c.has.ensures ∙ c.if-not-has.false) (enters c.if-holder.true)

pub returns-in-Some : goal.returns-in-Some
returns-in-Some c =
    rw (sym c.has.ensures ∙ c.if-not-has.false, c.in-Some.is) (follows c.if-holder.false c.if-first-cell.true)

pub returns-in_default : goal.returns-in_default
returns-in_default c =
    rw (sym c.has.ensures ∙ c.if-not-has.false, c.in-Some.is) (contests c.if-holder.false c.if-first-cell.false)

pub returns-in_default-2 : goal.returns-in_default-2
returns-in_default-2 c =
    rw (sym c.has.ensures ∙ c.if-not-has.false, c.in_default.is) (contests c.if-holder.false tt)
