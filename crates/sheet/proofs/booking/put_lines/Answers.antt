use mathlib.Core.Path.{◌≡◌}
use Prim.Native.Nat.{◌+◌, ◌-◌}
use native.Mathlib.Nat.{sub-zero}
use native.Mathlib.Omega.{arith}
use Rattle.sheet.specs.Booking.{records_in}
use Rattle.text.proofs.Promise.{completes_start, put_length}
use Rattle.sheet.proofs.Putting.{records_turn, records_end}
use Rattle.sheet.proofs.booking.put_lines.Goals as goal

pub loop-init : goal.loop-init
loop-init c = rw sub-zero (completes_start _ _ _)

pub loop-preserved : goal.loop-preserved
loop-preserved c =
    let args = c.args in
    let less : args.count - c.loop.counter - 1 ≡ args.count - (c.loop.counter + 1) = omega arith in
    rw less at
    (records_turn args.sheet.now (records_in args.sheet.now args.count args.place) (args.count - c.loop.counter) c.loop.from
    c.loop.invariant
    (omega arith)
    c.put_line-places.ensures)

pub returns : goal.returns
returns c =
    let loop = c.loop in
    let args = c.args in
    records_end args.sheet.now (records_in args.sheet.now args.count args.place) (args.count - loop.counter) loop.from loop.invariant (omega arith)

pub shape_of-out : goal.shape_of-out
shape_of-out c = put_length (returns c)
