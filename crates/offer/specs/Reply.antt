-- What an offer replies: how far the run has come, or why what was offered is not taken.
use Rattle.std.specs.Prelude.{Result}
use Rattle.offer.specs.declared.Halt.{Halt}
use Rattle.offer.specs.declared.Progress.{Progress}

abbrev pub Reply : Type 0
Reply = Result Progress Halt
