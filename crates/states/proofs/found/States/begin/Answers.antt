-- `states::found::States::begin` meets its contract.
use mathlib.Core.Path.{◌≡◌, sym, ◌∙◌}
use Rattle.moves.specs.Tables.{first_of, set_of}
use Rattle.states.proofs.Sets.{first_set_lem}
use native.Mathlib.Omega.{arith}
use Rattle.states.proofs.found.States.begin.Goals as goal
use Rattle.states.proofs.found.States.begin.Goals.{After-unite}

first_is : (c : After-unite) → set_of c.unite.new.sets 0 ≡ first_of c.args.follow.now
first_is c = first_set_lem c.args.follow.now c.unite.new.sets c.unite.ensures

pub returns-else-not-none : goal.returns-else-not-none
unfolding set_of
returns-else-not-none c =
    record {
      few = omega (arith, c.requires);
      empty = λ e. sym (first_is (goal.at.returns-else-not-none c).After-unite) ∙ c.if-not-none.ensures;
      first = λ above. absurd (omega (arith, c.requires));
    }

pub returns-then-not-none : goal.returns-then-not-none
unfolding set_of
returns-then-not-none c =
    let first = first_is (goal.at.returns-then-not-none c).After-unite in
    record {
      few = omega (arith, c.keep.ensures.one, c.requires);
      empty = λ e. absurd (omega (arith, c.keep.ensures.one));
      first = λ above. (λ e. c.if-not-none.ensures (first ∙ e), rw c.requires at c.keep.ensures.kept.there ∙ first);
    }
