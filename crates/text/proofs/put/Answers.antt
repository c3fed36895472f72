-- `text::put` meets its contract: with room the byte is stored, without it nothing changes.
use mathlib.Core.List.{[], ◌∷◌}
use Rattle.text.proofs.Writing.{put_past}
use Rattle.text.proofs.put.Goals as goal

pub returns-else-at-out : goal.returns-else-at-out
returns-else-at-out c = put_past c.args.out.now c.args.at (c.args.byte ∷ []) c.if-at-out.false
