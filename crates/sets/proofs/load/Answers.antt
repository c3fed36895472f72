-- `sets::load` meets its contract: past the end the default is the set with no member.
use mathlib.Core.Path.{refl, sym, ◌∙◌}
use borrow.Author.Rules.{rules}
use lib.ListN.{get_or-eq_default}
use Rattle.sets.proofs.Answers.{none_is}
use Rattle.sets.proofs.load.Goals as goal

pub returns-then-sets-n : goal.returns-then-sets-n
returns-then-sets-n c =
    let sets = c.args.sets.now in
    record {
      fits = c.none.ensures.fits;
      loaded = none_is c.none.ensures ∙ sym (get_or-eq_default sets 0 (search rules));
    }

pub returns : goal.returns
returns c =
    record { fits = (c.type_inv.sets c.args.n).fits; loaded = refl }
