-- The set that is stored is the union of what was loaded with x, and what is loaded then is compared with what was loaded before.
use Rattle.sets.proofs.Promise.{union_is}
use Rattle.first.proofs.Growth.{made_united}
use Rattle.first.proofs.families.unite.Goals as goal

pub returns : goal.returns
returns c =
    let load = c.load-before in
    let union = c.union in
    let store = c.store in
    made_united _ _ _ c.same.result
    (rw (store.ensures, union_is union.ensures, load.ensures.loaded))
    (rw (c.load.ensures.loaded, load.ensures.loaded) at c.same.ensures)
