-- The laws by which the loops of `judging` meet their contracts: judging what is left comes to what judging the whole comes to.
use mathlib.Core.Path.{◌≡◌, sym, ◌∙◌}
use mathlib.Core.Bool.{true, false}
use mathlib.Core.List.{List}
use Prim.Native.Nat.{ℕ, suc, ◌+◌, ◌-◌, ◌≤◌, ◌<◌}
use native.Mathlib.Omega.{arith}
use Rattle.std.specs.Prelude.{Ok, Err}
use Rattle.reader.specs.declared.Fault.{Fault}
use Rattle.reader.specs.Verdicts.{Verdict, and_then}
use Rattle.sheet.specs.Judging.{past, is_space, symbol_judged, closed, symbols_judged, next_judged, lines_judged}

-- with one more of so many to go
one_left : (i size : ℕ) → i < size → size - i ≡ suc (size - (i + 1))
one_left i size more = omega arith

none_left : (i size : ℕ) → size ≤ i → size - i ≡ 0
none_left i size past = omega arith

module _ (text : List ℕ) (T N i size : ℕ) where
  module _ (at : ℕ) (more : i < size) {v : Verdict} where
    module _ (space_here : is_space text at ≡ true) (told : v ≡ symbol_judged text T N at) where
      pub symbols_go : {next : ℕ} → v ≡ Ok next → symbols_judged text T N (size - i) at ≡ symbols_judged text T N (size - (i + 1)) next
      unfolding symbols_judged and_then
      symbols_go e = rw (one_left i size more, space_here, sym told ∙ e)

      pub symbols_stop : {fault : Fault} → v ≡ Err fault → symbols_judged text T N (size - i) at ≡ Err fault
      unfolding symbols_judged and_then
      symbols_stop e = rw (one_left i size more, space_here, sym told ∙ e)

    module _ (told : v ≡ next_judged text T N at) where
      pub lines_go : {end : ℕ} → v ≡ Ok end → lines_judged text T N (size - i) at ≡ lines_judged text T N (size - (i + 1)) (past text end)
      unfolding lines_judged and_then
      lines_go e = rw (one_left i size more, sym told ∙ e)

      pub lines_stop : {fault : Fault} → v ≡ Err fault → lines_judged text T N (size - i) at ≡ Err fault
      unfolding lines_judged and_then
      lines_stop e = rw (one_left i size more, sym told ∙ e)

  module _ (at : ℕ) where
    pub symbols_over : i < size → is_space text at ≡ false → symbols_judged text T N (size - i) at ≡ Ok at
    unfolding symbols_judged
    symbols_over more none = rw (one_left i size more, none)

    pub symbols_closed : size ≤ i → symbols_judged text T N (size - i) at ≡ closed text at
    unfolding symbols_judged
    symbols_closed past = rw (none_left i size past)

    pub lines_over : size ≤ i → lines_judged text T N (size - i) at ≡ Ok at
    unfolding lines_judged
    lines_over past = rw (none_left i size past)
