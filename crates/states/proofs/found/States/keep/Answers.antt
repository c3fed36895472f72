-- `states::found::States::keep` meets its contract.
use native.Mathlib.Omega.{arith}
use Rattle.states.proofs.Sets.{part_kept}
use Rattle.states.proofs.found.States.keep.Goals as goal

pub returns-clause-kept : goal.returns-clause-kept
returns-clause-kept c =
    part_kept c.args.self.now.sets c.args.next.now c.copy_from_slice.new.self c.args.self.now.count c.copy_from_slice.ensures.after c.told-next
    (omega arith)
