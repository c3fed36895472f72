-- `states::tables::same_readers` meets its contract.
use Rattle.std.proofs.lemmas.Bool.Decides.{Decides-eqb}
use Rattle.std.proofs.lemmas.Slice.Eq.{slice_eq-Decides}
use Rattle.states.proofs.Bytes.{part_readers}
use Rattle.states.proofs.tables.same_readers.Goals as goal

pub returns-then-end-readers : goal.returns-then-end-readers
returns-then-end-readers c =
    λ told. part_readers c.args.readers.now c.args.byte ((slice_eq-Decides Decides-eqb _ _ _ c.eq.ensures).0 told)
