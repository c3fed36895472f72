-- `sets::none` meets its contract: 0 has no member.
use lib.Dec.{lit<}
use Rattle.sets.proofs.Members.{member_none}
use Rattle.sets.proofs.none.Goals as goal

pub returns : goal.returns
returns c = record { fits = lit< tt; members = member_none }
