use mathlib.Core.List.{List}
use Prim.Native.Nat.{ℕ, ◌+◌}
use lib.ListN.{drop, get_or}
use Rattle.text.proofs.Promise.{completes_start, completes_more, completes_all, put_length}
use Rattle.showing.specs.Lines.{set_line, set_lines}
use Rattle.showing.proofs.Rows.{set_lines_next, set_lines_past}
use Rattle.showing.proofs.lines.set_lines.Goals as goal

pub loop-n-init : goal.loop-n-init
loop-n-init c = completes_start _ _ _

pub loop-n-preserved : goal.loop-n-preserved
loop-n-preserved c =
    let word : List ℕ = c.args.name.now in
    let family : List ℕ = c.args.family.now in
    let n : ℕ = c.loop-n.n in
    completes_more (set_line word n (get_or family n 0)) (set_lines word (n + 1) (drop (n + 1) family))
    (rw (set_lines_next word family n c.loop-n-test.true) at c.loop-n.invariant)
    (rw c.load.ensures.loaded at c.set_line-place.ensures)

pub returns : goal.returns
returns c =
    completes_all (rw (set_lines_past c.args.name.now c.args.family.now c.loop-n.n c.loop-n-test.false) at c.loop-n.invariant)

pub shape_of-out : goal.shape_of-out
shape_of-out c = put_length (returns c)
