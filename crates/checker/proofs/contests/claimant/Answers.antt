use native.Mathlib.Omega.{arith}
use borrow.Author.Rules.{rules}
use Rattle.sets.proofs.Promise.{decides_true, decides_false}
use Rattle.answers.proofs.Promise.{search_next, search_some, search_none}
use Rattle.checker.proofs.contests.claimant.Goals as goal

pub loop-p-init : goal.loop-p-init
loop-p-init c =
    (search rules, record { within = c.requires; passed = λ q below k. absurd (omega (arith, k.reached)) })

pub returns-then-is_claimant : goal.returns-then-is_claimant
returns-then-is_claimant c =
    search_some c.loop-p.invariant.1 c.loop-p-test.true
    (record { reached = c.loop-p.invariant.0; claim = decides_true _ c.is_claimant.result c.is_claimant.ensures c.if-is_claimant.true })

pub loop-p-preserved : goal.loop-p-preserved
loop-p-preserved c = (
  omega (arith, c.loop-p.invariant.0),
  search_next c.loop-p.invariant.1 c.loop-p-test.true
      (λ k. decides_false _ c.is_claimant.result c.is_claimant.ensures c.if-is_claimant.false k.claim),
)

pub returns : goal.returns
returns c = search_none c.loop-p.invariant.1 c.loop-p-test.false
