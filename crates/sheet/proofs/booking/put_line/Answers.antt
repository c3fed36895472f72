-- The parts of a record one after the other; the symbols stand in a local buffer with room for all.
use Prim.Native.Nat.{ℕ, ◌≤◌}
use native.Mathlib.Omega.{arith}
use lib.ListN.{length, replicate, length-take, length-replicate}
use Rattle.answers.specs.Limits.{most_symbols}
use Rattle.text.proofs.Promise.{put_length}
use Rattle.sheet.proofs.Copying.{put_within}
use Rattle.sheet.proofs.Putting.{record_put}
use Rattle.sheet.proofs.booking.put_line.Goals as goal

enough : most_symbols ≤ length {A = ℕ} (replicate 16 0)
enough = omega (arith, length-replicate {A = ℕ} 16 0)

pub slice_bounds-put_all-end : goal.slice_bounds-put_all-end
slice_bounds-put_all-end c =
    let put = c.put_right-right in
    omega (arith, length-take put.result.book put.new.out, put_within put.ensures.put)

pub returns : goal.returns
returns c =
    let args = c.args in
    rw c.past.ensures
    (record_put args.sheet.now args.place c.right_place.ensures c.put_right-right.ensures enough
    c.put-begun.ensures
    c.put-marked.ensures
    c.left_number.ensures
    c.put_byte-left.ensures
    c.put-sized.ensures
    c.put_all-listed.ensures)

pub shape_of-out : goal.shape_of-out
shape_of-out c = put_length (returns c).put
