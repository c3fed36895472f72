-- `sets::store` meets its contract.
use mathlib.Core.Path.{sym}
use borrow.Author.Rules.{rules}
use lib.Seq.{set_out}
use Rattle.sets.proofs.store.Goals as goal

pub returns-else-n-sets : goal.returns-else-n-sets
returns-else-n-sets c = sym (set_out _ _ _ (search rules))
