-- The starred examples of this layer: FOLLOW of H.
use mathlib.Core.Path.{refl}
use Rattle.grammar.specs.Grammar.{column, Follow}
use Rattle.grammar.specs.House.{house}
use Rattle.grammar.proofs.Sets.{follow_not_empty}
use Rattle.grammar.proofs.House.{house_first, house_follow, house_follow_exact}
use Rattle.first.proofs.Promise.{at_column, places_test, rows_test, sets_tested}
use Rattle.follow.specs.Families.{FollowSets}
use Rattle.follow.specs.Examples.{house_follow_sets}

-- FOLLOW of the house is what 01 lists
pub house_follow_sets_lem : FollowSets house house_follow_sets
unfolding house house_first house_follow house_follow_sets places_test rows_test
house_follow_sets_lem = sets_tested column house house_follow house_follow_exact (λ A k a. at_column (Follow house A) follow_not_empty a) house_follow_sets refl tt tt
