-- What is written are the cells on which all claims are laid.
use mathlib.Core.Path.{◌≡◌, ◌∙◌}
use native.Mathlib.Omega.{arith}
use lib.ListN.{length}
use Rattle.answers.proofs.Promise.{written_all}
use Rattle.table.specs.Claims.{disputed, written}
use Rattle.table.proofs.Vacant.{taken_sized}
use Rattle.table.proofs.Answering.{taken_claimable}
use Rattle.table.proofs.claims.tabulate.Goals as goal

pub vacant-claimed-requires : goal.vacant-claimed-requires
vacant-claimed-requires g c = omega (arith, c.requires.room)

pub whole_as_front-claimed : goal.whole_as_front-claimed
whole_as_front-claimed g c = (c.requires.room.0, omega (arith, c.requires.room))

pub claim_all-requires : goal.claim_all-requires
claim_all-requires g c = taken_claimable c.requires.room.0 c.vacant-claimed.ensures c.requires.rows

pub returns-in-Some : goal.returns-in-Some
returns-in-Some g c =
    rw c.refused.ensures (disputed (c.claim_all.auto.table ∙ taken_sized c.requires.room.0 c.vacant-claimed.ensures) c.in-Some.ensures)

pub returns-in-None : goal.returns-in-None
returns-in-None g c =
    let sized : length c.claim_all.new.table ≡ c.args.cells = c.claim_all.auto.table ∙ taken_sized c.requires.room.0 c.vacant-claimed.ensures in
    rw (c.write_front.ensures, written_all c.claim_all.new.table c.args.table.now (omega (arith, sized, c.requires.room))) (written sized c.in-None.ensures)
