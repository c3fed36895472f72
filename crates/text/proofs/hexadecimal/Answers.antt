use mathlib.Core.Path.{◌≡◌}
use mathlib.Core.List.{[], ◌∷◌}
use Prim.Native.Nat.{ℕ, ◌-◌, ◌*◌, ◌/◌, ◌%◌, ◌^◌}
use native.Mathlib.Omega.{arith}
use Rattle.text.specs.Text.{digit, hex_digits, hexadecimal}
use Rattle.text.proofs.Writing.{completes_start, completes_more, completes_all, put_length}
use Rattle.text.proofs.HexadecimalDigits.{hex_digits_next}
use Rattle.text.proofs.hexadecimal.Goals as goal

pub loop-left-init : goal.loop-left-init
unfolding hexadecimal
loop-left-init c = completes_start _ _ _

pub loop-left-preserved : goal.loop-left-preserved
loop-left-preserved c =
    let left : ℕ = c.loop-left.left in
    completes_more (digit (c.args.n / 2 ^ (4 * (left - 1)) % 16) ∷ []) (hex_digits (left - 1) c.args.n)
    (rw (hex_digits_next left c.args.n c.loop-left-test.true) at c.loop-left.invariant)
    (rw c.digit.ensures at c.put-place.ensures)

pub returns : goal.returns
unfolding hex_digits
returns c =
    let none : c.loop-left.left ≡ 0 = omega arith in
    completes_all (rw none at c.loop-left.invariant)

pub shape_of-out : goal.shape_of-out
shape_of-out c = put_length (returns c)
