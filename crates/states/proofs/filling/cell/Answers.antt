-- `states::filling::cell` meets its contract.
use mathlib.Core.Path.{◌≡◌}
use Rattle.sets.proofs.Promise.{decides_true, decides_false}
use Rattle.moves.specs.Tables.{set_of}
use Rattle.states.specs.Sets.{nothing, not_there, numbered}
use Rattle.states.proofs.filling.cell.Goals as goal
use Rattle.states.proofs.filling.cell.Goals.{After-none}

-- what `none` was asked of
abbrev empty : After-none → Type 0
empty c = set_of c.after-next.result 0 ≡ 0

pub returns-then-none : goal.returns-then-none
unfolding set_of
returns-then-none c =
    let none = decides_true (empty (goal.at.returns-then-none c).After-none) c.none.result c.none.ensures c.if-none.true in
    record { points = set_of c.after-next.result 0; exact = c.after-next.ensures.exact; number = nothing none }

pub returns-in-Some : goal.returns-in-Some
unfolding set_of
returns-in-Some c =
    let full = decides_false (empty (goal.at.returns-in-Some c).After-none) c.none.result c.none.ensures c.if-none.false in
    record { points = set_of c.after-next.result 0; exact = c.after-next.ensures.exact; number = numbered full c.in-Some.ensures }

pub returns-in-None : goal.returns-in-None
unfolding set_of
returns-in-None c =
    record { points = set_of c.after-next.result 0; exact = c.after-next.ensures.exact; number = not_there c.in-None.ensures }
