use mathlib.Core.Path.{◌≡◌, sym, ◌∙◌}
use Prim.Native.Nat.{◌+◌, ◌-◌}
use native.Mathlib.Omega.{arith}
use Rattle.answers.specs.Limits.{most_symbols}
use Rattle.sheet.proofs.Putting.{listing_start, listing_turn, listing_end}
use Rattle.sheet.proofs.booking.put_right.Goals as goal

pub loop-init : goal.loop-init
loop-init c = listing_start _ _ _

pub loop-preserved : goal.loop-preserved
loop-preserved c =
    let less : most_symbols - c.loop.counter - 1 ≡ most_symbols - (c.loop.counter + 1) = omega arith in
    rw less at
    (listing_turn c.loop.invariant (omega arith) (sym c.is_space.ensures ∙ c.if-not-is_space.false)
    c.symbol_number-number.ensures
    c.byte_from.ensures
    c.put-next.ensures)

pub returns-after-loop : goal.returns-after-loop
returns-after-loop c = listing_end c.loop.invariant (λ some. absurd (omega arith))

pub returns-then-not-is_space : goal.returns-then-not-is_space
returns-then-not-is_space c = listing_end c.loop.invariant (λ _. sym c.is_space.ensures ∙ c.if-not-is_space.true)
