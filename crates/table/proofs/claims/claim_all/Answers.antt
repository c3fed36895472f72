use mathlib.Core.Path.{◌≡◌, refl, sym}
use native.Mathlib.Omega.{arith}
use Rattle.table.proofs.Rows.{laid_none}
use Rattle.table.proofs.claims.claim_all.Goals as goal

pub loop-p-init : goal.loop-p-init
loop-p-init c = (refl, laid_none refl c.requires.blank)

pub claim_row-contest-requires : goal.claim_row-contest-requires
claim_row-contest-requires c =
    (rw (c.left_at-row.ensures, c.cell_or-place.ensures, c.loop-p.invariant.0) (c.requires.rowed.rows _ c.loop-p-test.true), omega (arith, c.requires.rowed.numbered))

pub loop-p-preserved : goal.loop-p-preserved
loop-p-preserved c = (
  omega (arith, c.claim_row-contest.auto.table, c.loop-p.invariant.0),
  c.claim_row-contest.ensures.laid _ _ (rw (c.left_at-row.ensures, c.cell_or-place.ensures)) (sym c.load.ensures.loaded) c.loop-p.invariant.1,
)

pub returns : goal.returns
returns c =
    let all : c.loop-p.p ≡ c.args.index.now.outline.productions = omega (arith, c.loop-p.auto.p-end, c.loop-p-test.false) in
    rw all at c.loop-p.invariant.1
