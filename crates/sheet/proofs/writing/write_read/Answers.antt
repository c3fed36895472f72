-- The local buffer holds every sheet, and is copied as far as it was written.
use Prim.Native.Nat.{ℕ, ◌≤◌}
use native.Mathlib.Omega.{arith}
use lib.ListN.{length, replicate, length-take, length-replicate}
use Rattle.text.specs.Text.{decimal, last_digits, digit}
use Rattle.sheet.specs.Sheet.{longest_sheet}
use Rattle.sheet.proofs.Copying.{put_within, written_copied}
use Rattle.sheet.proofs.writing.write_read.Goals as goal

enough : longest_sheet ≤ length {A = ℕ} (replicate 8973 0)
unfolding longest_sheet decimal last_digits digit
enough = omega (arith, length-replicate {A = ℕ} 8973 0)

pub slice_bounds-text-end : goal.slice_bounds-text-end
slice_bounds-text-end c = put_within c.put_sheet-size.ensures

pub slice_bounds-copy-end : goal.slice_bounds-copy-end
slice_bounds-copy-end c =
    let put = c.put_sheet-size in
    omega (arith, length-take put.result put.new.out, put_within put.ensures)

pub returns : goal.returns
returns c =
    written_copied c.requires enough c.put_sheet-size.ensures c.copy.ensures
