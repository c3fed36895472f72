use mathlib.Core.Path.{refl, ◌∙◌}
use Rattle.parts.proofs.LeadingOn.{below_none, below_more, below_all}
use Rattle.parts.proofs.leading.lead.Goals as goal

pub loop-i-init : goal.loop-i-init
loop-i-init c =
    (refl, below_none c.args.last.now c.args.next.now (record { fits = λ i. (c.type_inv.last i).fits }) c.args.follow.now)

pub loop-i-preserved : goal.loop-i-preserved
loop-i-preserved c =
    let args = c.args in
    let led = c.lead_word in (
      led.auto.follow ∙ c.loop-i.invariant.0,
      below_more args.last.now args.next.now (record { fits = λ i. (c.type_inv.last i).fits }) c.loop-i.i
          c.loop-i-test.true c.loop-i.invariant.1
          (rw c.cell_or.ensures at led.ensures),
    )

pub shape_of-follow : goal.shape_of-follow
shape_of-follow c = c.loop-i.invariant.0

pub returns : goal.returns
returns c =
    let args = c.args in
    below_all args.last.now args.next.now (record { fits = λ i. (c.type_inv.last i).fits })
    c.loop-i-test.false c.loop-i.invariant.1
