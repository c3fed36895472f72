use mathlib.Core.Path.{refl, ◌≡◌}
use mathlib.Core.List.{List}
use Prim.Native.Nat.{ℕ, ◌≤◌, ◌<◌}
use native.Mathlib.Omega.{arith}
use lib.ListN.{length, get_or}
use Rattle.std.proofs.lemmas.Result.{err_from_is_err_and}
use Rattle.slr_run.proofs.Told.{some_row}
use Rattle.slr_run.proofs.Strings.{running_start}
use Rattle.slr_run.proofs.Whole.{walk_low, walk_stopped, walk_over, walk_next}
use Rattle.slr_run.proofs.running.run_all.Goals as goal

-- the token at the place that is told
token_is : (tokens : List ℕ) (T : ℕ) {i n : ℕ}
    → n ≡ i
    → i < length tokens
    → (n < length tokens → get_or tokens i 0 ≡ get_or tokens n 0) × (length tokens ≤ n → get_or tokens i 0 ≡ T)
token_is tokens T e inside = (λ h. rw e, λ h. absurd (omega arith))

pub bounds-stack-0 : goal.bounds-stack-0
bounds-stack-0 c = omega (arith, c.requires.0)

pub loop-token-init : goal.loop-token-init
loop-token-init c =
    record { walking = running_start _ _ _ _ _ c.args.stack.now (some_row c.args.machine.now) c.requires.0 refl; matched = refl }

pub reduce_all-requires : goal.reduce_all-requires
reduce_all-requires c =
    let w = c.loop-token.invariant.walking in
    let is = token_is c.args.tokens.now c.args.machine.now.outline.tokens c.loop-token.invariant.matched c.loop-token-test.true in
    (walk_low c.args.machine.now _ _ _ c.requires.1 w is, w.held, w.listed, omega (arith, w.inside))

pub returns-in_err-at : goal.returns-in_err-at
returns-in_err-at c =
    let w = c.loop-token.invariant.walking in
    let is = token_is c.args.tokens.now c.args.machine.now.outline.tokens c.loop-token.invariant.matched c.loop-token-test.true in
    let p = err_from_is_err_and c.from_residual.result c.from_residual.ensures.1 in
    rw (p.1, p.2)
    (rw c.in_err-at.was at
    (walk_stopped c.args.machine.now _ _ _ c.requires.1 w is c.reduce_all.ensures c.args.stack.now refl c.in_err-at.was))

pub loop-token-preserved : goal.loop-token-preserved
loop-token-preserved c =
    let w = c.loop-token.invariant.walking in
    let is = token_is c.args.tokens.now c.args.machine.now.outline.tokens c.loop-token.invariant.matched c.loop-token-test.true in
    let on = walk_next c.args.machine.now _ _ _ c.requires.1 w is c.reduce_all.ensures c.in_ok-at.was (omega arith) in
    record { walking = on.0; matched = omega (arith, on.1) }

-- the end mark, where every token is matched
end_is : (tokens : List ℕ) (T : ℕ) {n : ℕ}
    → length tokens ≤ n
    → (n < length tokens → T ≡ get_or tokens n 0) × (length tokens ≤ n → T ≡ T)
end_is tokens T over = (λ h. absurd (omega arith), λ h. refl)

pub reduce_all-requires-2 : goal.reduce_all-requires-2
reduce_all-requires-2 c =
    let w = c.loop-token.invariant.walking in
    (omega arith, w.held, w.listed, omega (arith, w.inside))

pub returns : goal.returns
returns c =
    let over : length c.args.tokens.now ≤ c.loop-token.at.matched = omega (arith, c.loop-token.invariant.matched) in
    walk_over c.args.machine.now _ _ _ c.requires.1 c.loop-token.invariant.walking (end_is c.args.tokens.now c.args.machine.now.outline.tokens over)
    c.reduce_all-2.ensures c.args.stack.now refl over
