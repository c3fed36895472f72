-- The heads are the table of the book, so what is refused of the string, and the run on the judged book, are the run's.
use Rattle.profile.proofs.Outcomes.{ready_heads, entered_barred, entered_ran}
use Rattle.profile.proofs.plain.run_entered.Goals as goal

pub enter_heads-requires : goal.enter_heads-requires
enter_heads-requires c = ready_heads c.requires

pub returns-in-Err : goal.returns-in-Err
returns-in-Err c = entered_barred c.requires c.enter_heads.ensures c.in-Err.ensures

pub returns : goal.returns
returns c = entered_ran c.requires c.enter_heads.ensures c.in_default.ensures c.run_judged.ensures
