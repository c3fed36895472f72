-- The first pass seeks a conflict, the second a difference.
use Rattle.checker.proofs.Compared.{compare_countable, compare_contested, compare_conflict, compare_differs, compare_passed}
use Rattle.checker.proofs.compare.Goals as goal

pub first_contested-requires : goal.first_contested-requires
first_contested-requires c = compare_countable c.requires

pub conflict_at-requires : goal.conflict_at-requires
conflict_at-requires c = compare_contested c.requires c.in-Some.ensures.first

pub returns-in-Some : goal.returns-in-Some
returns-in-Some c = compare_conflict c.requires c.in-Some.ensures.first c.conflict_at.ensures

pub returns-in-Some-first_different : goal.returns-in-Some-first_different
returns-in-Some-first_different c =
    rw c.refusal.ensures (compare_differs c.requires c.in_default.ensures c.in-Some-first_different.ensures)

pub returns-in-None : goal.returns-in-None
returns-in-None c = compare_passed c.requires c.in_default.ensures c.in-None.ensures
