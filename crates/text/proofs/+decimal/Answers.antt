-- `text::decimal` meets its contract: its last digit follows those of the number without it.
use mathlib.Core.List.{[], ◌∷◌}
use Prim.Native.Nat.{ℕ, ◌%◌}
use Rattle.text.specs.Text.{digit, Put}
use Rattle.text.proofs.DecimalDigits.{put_only, put_last}
use Rattle.text.proofs.+decimal.Goals as goal
use Rattle.text.proofs.+decimal.Goals.{then-n-ge10, else-n-ge10}

pub returns : goal.returns
returns t c =
    let n : ℕ = c.args.n in
    let put : Put c.if-n-ge10.out c.if-n-ge10.last (digit (n % 10) ∷ []) c.put.new.out c.put.result =
    rw c.digit.ensures at c.put.ensures in
    elim c.if-n-ge10.branch [
      | then-n-ge10 w ↦ put_last w.if-n-ge10.true w.decimal-last.ensures (rw (w.out-is, w.last-is) at put)
      | else-n-ge10 w ↦ put_only w.if-n-ge10.false (rw (w.out-is, w.last-is) at put)
    ]
