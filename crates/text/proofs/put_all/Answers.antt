use mathlib.Core.List.{List, [], ◌∷◌}
use Prim.Native.Nat.{ℕ, ◌+◌}
use native.Mathlib.Numerals.{add-one}
use native.Mathlib.Omega.{arith}
use lib.ListN.{drop, get_or, drop_of_length-le}
use lib.Seq.{drop-cons}
use Rattle.text.proofs.Writing.{completes_start, completes_more, completes_all, put_length}
use Rattle.text.proofs.put_all.Goals as goal

pub loop-byte-init : goal.loop-byte-init
loop-byte-init c = completes_start _ _ _

pub loop-byte-preserved : goal.loop-byte-preserved
loop-byte-preserved c =
    let text : List ℕ = c.args.text.now in
    let i : ℕ = c.loop-byte.byte-index in
    completes_more (get_or text i 0 ∷ []) (drop (i + 1) text)
    (rw (drop-cons text i 0 (omega arith), ← (add-one i)) at c.loop-byte.invariant)
    c.put-place.ensures

pub returns : goal.returns
returns c =
    completes_all
    (rw (drop_of_length-le c.args.text.now {i = c.loop-byte.byte-index} (omega arith)) at c.loop-byte.invariant)

pub shape_of-out : goal.shape_of-out
shape_of-out c = put_length (returns c)
