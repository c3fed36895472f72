use native.Mathlib.Omega.{arith}
use borrow.Author.Rules.{rules}
use Rattle.table.proofs.Promise.{cells_fit}
use Rattle.profile.proofs.Entering.{cell_small, entered_none, head_inside, head_entered, heads_table}
use Rattle.profile.proofs.heads.enter_heads.Goals as goal

pub loop-p-init : goal.loop-p-init
loop-p-init c = entered_none c.requires.vacant

pub overflow_mul-cells : goal.overflow_mul-cells
overflow_mul-cells c = record { fits = cells_fit _ _ (search rules) (search rules) }

pub overflow_add-cells : goal.overflow_add-cells
overflow_add-cells c = record { fits = cell_small _ _ _ (search rules) (search rules) (search rules) }

pub bounds-cells-row : goal.bounds-cells-row
bounds-cells-row c =
    rw (c.left_at-row.ensures, c.byte_at-head.ensures, c.cell_or-at.ensures) (head_inside _ _ _ c.requires c.loop-p-test.true c.loop-p.invariant)

pub loop-p-preserved : goal.loop-p-preserved
loop-p-preserved c =
    rw (c.left_at-row.ensures, c.byte_at-head.ensures, c.cell_or-at.ensures) (head_entered _ _ _ c.requires c.loop-p-test.true c.loop-p.invariant)

pub returns : goal.returns
returns c = heads_table _ _ _ c.requires (omega arith) (omega arith) c.loop-p.invariant
