-- `states::found::States::is_state` meets its contract.
use native.Mathlib.Omega.{arith}
use Rattle.std.proofs.lemmas.Bool.Decides.{Decides-eqb}
use Rattle.std.proofs.lemmas.Slice.Eq.{slice_eq-Decides}
use Rattle.std.proofs.Common.{rules}
use Rattle.states.proofs.Sets.{part_decides}
use Rattle.states.proofs.found.States.is_state.Goals as goal

pub returns : goal.returns
returns c =
    part_decides c.args.self.now.sets c.args.next.now c.args.state (search rules) c.requires.words
    c.told-next (omega (arith, c.requires.known, c.args.self.now.few)) c.eq.result
    (slice_eq-Decides Decides-eqb _ _ _ c.eq.ensures)
