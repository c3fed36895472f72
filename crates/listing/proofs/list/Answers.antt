-- `listing::list` meets its contract: the local text holds every listing, and is copied where it has room.
use Prim.Native.Nat.{ℕ, ◌≤◌}
use native.Mathlib.Omega.{arith}
use lib.ListN.{length, replicate, length-take, length-replicate}
use Rattle.text.proofs.Promise.{put_length}
use Rattle.listing.specs.Calls.{most_listed}
use Rattle.listing.proofs.Whole.{written_within, listed_by, unlisted_by}
use Rattle.listing.proofs.list.Goals as goal

enough : most_listed ≤ length {A = ℕ} (replicate 19989 0)
enough = omega (arith, length-replicate {A = ℕ} 19989 0)

pub returns-then-out-size : goal.returns-then-out-size
returns-then-out-size c =
    rw c.refusal.ensures (unlisted_by c.write-size.ensures enough c.if-out-size.true)

pub slice_bounds-text-end : goal.slice_bounds-text-end
slice_bounds-text-end c =
    written_within c.write-size.ensures

pub slice_bounds-put_all-end : goal.slice_bounds-put_all-end
slice_bounds-put_all-end c =
    omega (arith, length-take c.write-size.result c.write-size.new.out, written_within c.write-size.ensures)

pub shape_of-out : goal.shape_of-out
shape_of-out c = put_length c.put_all.ensures

pub returns : goal.returns
returns c =
    (listed_by c.write-size.ensures enough c.if-out-size.false c.put_all.ensures)
