use mathlib.Core.Path.{◌≡◌, refl, sym}
use Prim.Native.Nat.{◌<◌}
use native.Mathlib.Omega.{arith}
use lib.ListN.{length}
use Rattle.table.specs.Claims.{left_of}
use Rattle.checker.proofs.Rivalry.{tallied_none, tallied_next, contested_none, contested_next}
use Rattle.checker.proofs.contests.first_contested.Goals as goal

pub loop-p-init : goal.loop-p-init
loop-p-init c = (refl, tallied_none c.requires.blank, contested_none c.args.index.now.outline.tokens)

pub loop-p-preserved : goal.loop-p-preserved
loop-p-preserved c =
    let looks = sym c.load.ensures.loaded in
    -- what was read is the left side of the production, which has its set
    let sided : left_of c.args.book.now c.args.index.now.places c.loop-p.p ≡ c.left_at-row.result = rw (c.left_at-row.ensures, c.cell_or.ensures) in
    let inside : c.left_at-row.result < length c.loop-p.claimed = omega (arith, sided, c.loop-p.invariant.0, c.requires.rows _ c.loop-p-test.true) in (
      omega (arith, c.add_claims.auto.claimed, c.loop-p.invariant.0),
      tallied_next c.loop-p.invariant.1 sided looks inside c.add_claims.ensures.united,
      rw c.or-contested.ensures
          (contested_next c.loop-p.invariant.1 c.args.index.now.outline.tokens c.args.cells c.loop-p.contested c.add_claims.result sided looks c.loop-p.invariant.2
          (rw c.unwrap_or-bound.ensures at c.add_claims.ensures.contested)),
    )

pub returns : goal.returns
returns c =
    let all : c.loop-p.p ≡ c.args.index.now.outline.productions = omega (arith, c.loop-p.auto.p-end, c.loop-p-test.false) in
    record { first = rw all at c.loop-p.invariant.2; tallied = rw all at c.loop-p.invariant.1 }
