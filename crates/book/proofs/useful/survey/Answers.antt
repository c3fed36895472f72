use mathlib.Core.Path.{sym, ◌∙◌}
use Prim.Native.Nat.{◌+◌}
use native.Mathlib.Omega.{arith}
use Rattle.book.proofs.Filling.{single_exactly}
use Rattle.book.proofs.Surveying.{survey_none, record_there, survey_next, survey_all}
use Rattle.book.proofs.useful.survey.Goals as goal

pub loop-p-init : goal.loop-p-init
loop-p-init c = survey_none c.requires

pub bounds-book-at : goal.bounds-book-at
bounds-book-at c = omega (arith, (record_there c.loop-p.invariant c.requires.lists c.loop-p-test.true))

pub overflow_cast-length : goal.overflow_cast-length
overflow_cast-length c = record { fits = omega (arith, ((c.type_inv.book (c.loop-p.place + 3)).fits)) }

pub names_at-requires : goal.names_at-requires
names_at-requires c = (record_there c.loop-p.invariant c.requires.lists c.loop-p-test.true)

pub bounds-book-at-in-loop-p : goal.bounds-book-at-in-loop-p
bounds-book-at-in-loop-p c = omega (arith, (record_there c.loop-p.invariant c.requires.lists c.loop-p-test.true))

pub overflow_cast-place : goal.overflow_cast-place
overflow_cast-place c = record { fits = omega (arith, ((c.type_inv.book (c.loop-p.place + 3)).fits)) }

pub overflow_add-place : goal.overflow_add-place
overflow_add-place c = record { fits = omega (arith, ((c.type_inv.book (c.loop-p.place + 3)).fits)) }

pub overflow_add-place-in-loop-p : goal.overflow_add-place-in-loop-p
overflow_add-place-in-loop-p c = record { fits = omega (arith, ((c.type_inv.book (c.loop-p.place + 3)).fits)) }

pub loop-p-preserved : goal.loop-p-preserved
loop-p-preserved c =
    survey_next c.loop-p.invariant c.loop-p-test.true ((c.type_inv.book (c.loop-p.place + 3)).fits)
    c.names_at.ensures c.store.ensures
    (single_exactly c.single.ensures) c.store-in-loop-p.ensures

pub shape_of-places : goal.shape_of-places
shape_of-places c = c.loop-p.invariant.sized ∙ sym c.requires.places_sized

pub shape_of-names : goal.shape_of-names
shape_of-names c = c.loop-p.invariant.named.size ∙ sym c.requires.names_sized

pub shape_of-lefts : goal.shape_of-lefts
shape_of-lefts c = c.loop-p.invariant.left.size ∙ sym c.requires.lefts_sized

pub returns : goal.returns
returns c = survey_all c.loop-p.invariant c.loop-p-test.false
