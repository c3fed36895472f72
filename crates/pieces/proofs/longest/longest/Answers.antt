use mathlib.Core.Path.{◌≡◌, sym, ap, ◌∙◌}
use mathlib.Core.List.{List}
use Prim.Native.Nat.{ℕ, ◌+◌, ◌-◌, ◌<◌}
use native.Mathlib.Nat.{add-zero, add_assoc}
use native.Mathlib.Omega.{arith}
use lib.ListN.{length, take, drop, get_or, length-take, length-drop}
use Rattle.std.proofs.Common.{get_or-take, get_or-drop}
use Rattle.pieces.specs.Rows.{cell_at}
use Rattle.pieces.proofs.Looking.{longer, kept, matched_none, looked_none, looked_more, looked_stuck}
use Rattle.pieces.proofs.Walks.{walk_end}
use Rattle.pieces.proofs.longest.longest.Goals as goal
use Rattle.pieces.proofs.longest.longest.Goals.{After-cell_at-next, then-token-lt-MOST_PATTERNS, else-token-lt-MOST_PATTERNS}

pub returns-then-rows-eq0 : goal.returns-then-rows-eq0
returns-then-rows-eq0 c = matched_none _ (sym c.requires.0 ∙ c.if-rows-eq0.true)

pub loop-i-init : goal.loop-i-init
loop-i-init c = rw add-zero (looked_none c.requires.1 (omega arith))

pub cell_at-next-requires : goal.cell_at-next-requires
cell_at-next-requires c = (walk_end c.loop-i.invariant.walk, omega arith)

-- what is left of the line from a place on
left : List ℕ → ℕ → List ℕ
left line from = take (length line - from) (drop from line)

inside : (line : List ℕ) (from i : ℕ) → i < length (left line from) → from + i < length line
unfolding left
inside line from i below = omega (arith, simp (length-take, length-drop) at below)

left_at : (line : List ℕ) (from i : ℕ) → i < length (left line from) → get_or (left line from) i 0 ≡ get_or line (from + i) 0
unfolding left
left_at line from i below =
    let less : i < length line - from = omega (arith, simp (length-take, length-drop) at below) in
    rw (get_or-take, get_or-drop)

-- the cell that was read is the row's for the byte
next_is : (c : After-cell_at-next)
    → let args = c.args in
    c.cell_at-next.result ≡ cell_at args.machine.now c.loop-i.row (get_or args.line.now (args.from + c.loop-i.i) 0)
unfolding left
next_is c =
    let args = c.args in
    c.cell_at-next.ensures
    ∙ ap (cell_at args.machine.now c.loop-i.row) (c.from.ensures ∙ left_at args.line.now args.from c.loop-i.i c.loop-i-test.true)

pub returns-then-rows-next : goal.returns-then-rows-next
unfolding left
returns-then-rows-next c =
    looked_stuck c.loop-i.invariant (inside c.args.line.now c.args.from c.loop-i.i c.loop-i-test.true)
    (omega (arith, next_is (goal.at.returns-then-rows-next c).After-cell_at-next, c.requires.0))

pub loop-i-preserved : goal.loop-i-preserved
unfolding left
loop-i-preserved c =
    let args = c.args in
    let below = inside args.line.now args.from c.loop-i.i c.loop-i-test.true in
    let byte : get_or args.line.now (args.from + c.loop-i.i) 0 < 256 = omega (arith, c.type_inv.line (args.from + c.loop-i.i)) in
    let next = next_is (goal.at.loop-i-preserved c).After-cell_at-next in
    rw (← add_assoc)
    (elim c.if-token-lt-MOST_PATTERNS.branch [
      | then-token-lt-MOST_PATTERNS w ↦ rw w.best-is (looked_more c.loop-i.invariant below byte next (omega arith) c.cell_at-token.ensures (longer w.if-token-lt-MOST_PATTERNS.true))
      | else-token-lt-MOST_PATTERNS w ↦ rw w.best-is (looked_more c.loop-i.invariant below byte next (omega arith) c.cell_at-token.ensures (kept w.if-token-lt-MOST_PATTERNS.false))
    ])
