use mathlib.Core.Path.{◌≡◌, sym, ◌∙◌}
use mathlib.Core.Bool.{false}
use native.Mathlib.Omega.{arith}
use Rattle.sets.specs.Sets.{empty_string, member}
use Rattle.reader.proofs.Promise.{form_turn}
use Rattle.first.specs.Trail.{symbol_set}
use Rattle.follow.specs.Walks.{halts_here}
use Rattle.follow.proofs.tails.tail_at.Goals as goal

pub bounds-book-at : goal.bounds-book-at
bounds-book-at c = omega (arith, c.requires.inside)

pub bounds-book-at-in-loop-j : goal.bounds-book-at-in-loop-j
bounds-book-at-in-loop-j c = omega (arith, c.requires.inside)

pub returns-then-not-has : goal.returns-then-not-has
returns-then-not-has c =
    let stays : member empty_string (symbol_set _ _) ≡ false = rw c.symbol_set-set.ensures at (sym c.has.ensures ∙ c.if-not-has.true) in
    record {
      inside = omega arith;
      halts = λ positive. rw (form_turn _ _ _ _ c.loop-j-test.true c.loop-j.auto.j) (halts_here stays);
    }

pub returns : goal.returns
returns c = record { inside = omega arith; halts = λ positive. absurd (omega arith) }
