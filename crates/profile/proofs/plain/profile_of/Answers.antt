-- The lowest production that breaks the profile, or none.
use Rattle.profile.proofs.Breaking.{profile_unfit, profile_fits}
use Rattle.profile.proofs.plain.profile_of.Goals as goal

pub returns-in-Some : goal.returns-in-Some
returns-in-Some c = profile_unfit c.requires c.in-Some.ensures c.refusal.ensures

pub returns-in-None : goal.returns-in-None
returns-in-None c = profile_fits c.requires c.in-None.ensures
