use mathlib.Core.Path.{refl, sym, ap, ◌∙◌}
use native.Mathlib.Omega.{arith}
use Rattle.sets.specs.Sets.{empty_string, member, joined}
use Rattle.sets.specs.Calls.{number}
use Rattle.sets.proofs.Promise.{join_is}
use Rattle.first.proofs.Trail.{single_empty, begun_none, begun_next, begun_stops, begun_over}
use Rattle.first.proofs.forms.trail_of.Goals as goal

pub loop-j-init : goal.loop-j-init
loop-j-init c = rw (single_empty c.single-begun.ensures) begun_none

pub returns-then-not-has : goal.returns-then-not-has
returns-then-not-has c =
    let loop = c.loop-j in
    let is = join_is c.join-begun.ensures ∙ ap (joined empty_string (number loop.begun)) c.symbol_set.ensures in
    begun_stops loop.invariant (omega arith) (ap (member empty_string) (sym is) ∙ sym c.has.ensures ∙ c.if-not-has.true) is refl

pub loop-j-preserved : goal.loop-j-preserved
loop-j-preserved c =
    let loop = c.loop-j in
    let is = join_is c.join-begun.ensures ∙ ap (joined empty_string (number loop.begun)) c.symbol_set.ensures in
    rw is (begun_next loop.invariant (omega arith) (ap (member empty_string) (sym is) ∙ sym c.has.ensures ∙ c.if-not-has.false))

pub returns : goal.returns
returns c = begun_over c.loop-j.invariant (omega arith) (join_is c.join.ensures) refl
