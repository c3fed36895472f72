-- `sets::join` meets its contract, by the contracts of the functions that it calls.
use mathlib.Core.Path.{◌≡◌, sym, ap, ◌∙◌}
use mathlib.Core.Bool.{Bool, true, false, ◌||◌}
use borrow.Author.Rules.{rules}
use Rattle.sets.specs.Sets.{member, empty_string}
use Rattle.sets.specs.Calls.{number}
use Rattle.sets.proofs.join.Goals as goal

pub returns-then-has : goal.returns-then-has
returns-then-has c =
    let args = c.args in
    let has = c.has in
    let if1 = c.if-has in
    let x = args.x in
    let y = args.y in
    let vanishes : member empty_string (number x) ≡ true =
    sym has.ensures ∙ if1.true in
    record {
      fits = c.union.ensures.fits;
      members = λ k.
          rw vanishes
          (c.union.ensures.members k ∙ ap (λ (b : Bool). b || member k (number y)) (c.without.ensures.members k));
    }

pub returns-else-has : goal.returns-else-has
returns-else-has c =
    let x = c.args.x in
    let stays : member empty_string (number x) ≡ false = sym c.has.ensures ∙ c.if-has.false in
    record {
      fits = search rules;
      members = λ k. rw stays;
    }
