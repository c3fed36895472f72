-- The local buffer holds every book, and is copied as far as it was written.
use Prim.Native.Nat.{ℕ, ◌≤◌}
use native.Mathlib.Omega.{arith}
use lib.ListN.{length, replicate, length-take, length-replicate}
use Rattle.answers.specs.Limits.{longest_book}
use Rattle.sheet.proofs.Copying.{put_within}
use Rattle.sheet.proofs.Answering.{judged_copied}
use Rattle.sheet.proofs.reading.read_good.Goals as goal

enough : longest_book ≤ length {A = ℕ} (replicate 2566 0)
enough = omega (arith, length-replicate {A = ℕ} 2566 0)

pub slice_bounds-bytes-end : goal.slice_bounds-bytes-end
slice_bounds-bytes-end c = put_within c.put_book-size.ensures

pub slice_bounds-copy-end : goal.slice_bounds-copy-end
slice_bounds-copy-end c =
    let put = c.put_book-size in
    omega (arith, length-take put.result put.new.out, put_within put.ensures)

pub returns : goal.returns
returns c =
    judged_copied c.requires enough (rw c.head_in.ensures at c.put_book-size.ensures) c.copy.ensures
