-- The cell lies in the table.
use mathlib.Core.Path.{refl}
use borrow.Author.Rules.{rules}
use Rattle.table.proofs.Promise.{get_d_inside}
use Rattle.slr_run.proofs.Told.{cell_inside}
use Rattle.slr_run.proofs.reading.Machine.number.Goals as goal

pub overflow_mul-result : goal.overflow_mul-result
overflow_mul-result c =
    let inside = cell_inside c.args.self.now c.columns_of.ensures c.requires.0 c.requires.1 in search rules

pub overflow_add-result : goal.overflow_add-result
overflow_add-result c =
    let inside = cell_inside c.args.self.now c.columns_of.ensures c.requires.0 c.requires.1 in search rules

pub offset_bounds-self-state : goal.offset_bounds-self-state
offset_bounds-self-state c =
    let inside = cell_inside c.args.self.now c.columns_of.ensures c.requires.0 c.requires.1 in search rules

pub bounds-self-state : goal.bounds-self-state
bounds-self-state c =
    let inside = cell_inside c.args.self.now c.columns_of.ensures c.requires.0 c.requires.1 in search rules

pub returns : goal.returns
returns c =
    rw c.columns_of.ensures
    (get_d_inside c.args.self.now.table.now _ 0 65535 (cell_inside c.args.self.now refl c.requires.0 c.requires.1))
