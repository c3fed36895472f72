-- A token is not the empty string, so what lies behind it goes no further.
use mathlib.Core.Path.{refl, sym, ◌∙◌}
use mathlib.Core.Bool.{true, and-true}
use Rattle.sets.proofs.Promise.{join_is}
use Rattle.reader.proofs.Promise.{symbol_token, symbol_nonterminal}
use Rattle.first.specs.Trail.{symbol_set}
use Rattle.first.proofs.Promise.{single_token}
use Rattle.follow.specs.Walks.{spread}
use Rattle.follow.proofs.Halting.{join_token}
use Rattle.follow.proofs.Walking.{narrow_below}
use Rattle.follow.proofs.follow.pass_over.Goals as goal

pub returns-then-byte-lt128 : goal.returns-then-byte-lt128
unfolding symbol_set spread
returns-then-byte-lt128 c =
    let token = symbol_token _ c.if-byte-lt128.true in
    let narrow = narrow_below (rw token at c.requires) in
    rw token
    (record {
      same = true;
      added = record { made = refl; same = refl };
      settled = sym (and-true _);
      ahead = single_token c.single.ensures ∙ sym (join_token narrow _);
    })

pub returns : goal.returns
unfolding symbol_set spread
returns c =
    rw (symbol_nonterminal _ c.if-byte-lt128.false)
    (record {
      same = c.unite-same.result;
      added = c.unite-same.ensures;
      settled = refl;
      ahead = rw (← c.load.ensures.loaded) (join_is c.join.ensures);
    })
