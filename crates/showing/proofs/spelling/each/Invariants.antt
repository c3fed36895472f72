-- `showing::spelling::each` meets its contract: the items that are left, written from here on, make the whole.
use lib.ListN.{drop}
use Rattle.text.proofs.Promise.{Completes}
use Rattle.showing.specs.Words.{spaced, each}
use Rattle.showing.proofs.spelling.each.Given as goal

abbrev pub invariant-loop-item : goal.invariant-loop-item
invariant-loop-item g l =
    Completes l.initial.out l.at (each (spaced g.S.Spelling.spelled) l.items) l.out l.place
    (each (spaced g.S.Spelling.spelled) (drop l.item-index l.items))
