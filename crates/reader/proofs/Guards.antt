-- Bytes judged one after another: a right byte leads to the next place, and the first that is missing or wrong decides.
use mathlib.Core.Path.{◌≡◌, sym, ap, ◌∙◌}
use mathlib.Core.Bool.{true, false}
use mathlib.Core.List.{List}
use Prim.Native.Nat.{ℕ, zero, suc, ◌+◌, ◌-◌, ◌≤◌, ◌<◌}
use native.Mathlib.Omega.{arith}
use lib.ListN.{length, get_or}
use Rattle.std.specs.Prelude.{Ok, Err}
use Rattle.answers.specs.declared.refusals.Refusal.TheVariants as refusals
use Rattle.reader.specs.declared.Fault.{Fault}
use Rattle.reader.specs.Verdicts.{Verdict, bad, and_then}
use Rattle.reader.specs.Positional.{symbol_from, symbols_from, record_from, each_record_from, is_symbol}
use Rattle.reader.proofs.Turns.{symbols_turn, records_turn}
use Rattle.reader.proofs.Passing.{by_cases, checked_right, checked_wrong, checked_short, symbols_pass, records_pass}

module _ (b : List ℕ) (T N : ℕ) where
  module _ (at last : ℕ) (more : at < last) (inside : last ≤ length b) where
    here : at < length b
    here = omega arith

    pub symbols_go : is_symbol T N (get_or b at 0) ≡ true → symbols_from b T N (last - at) (Ok at) ≡ symbols_from b T N (last - (at + 1)) (Ok (at + 1))
    unfolding symbol_from and_then
    symbols_go e = symbols_turn b T N at last (Ok at) more ∙ ap (symbols_from b T N (last - (at + 1))) (checked_right b (is_symbol T N (get_or b at 0)) refusals.Symbol at here e ∙ ap Ok (omega arith))

    pub symbols_stop : is_symbol T N (get_or b at 0) ≡ false → symbols_from b T N (last - at) (Ok at) ≡ bad refusals.Symbol at
    unfolding symbol_from and_then
    symbols_stop e = symbols_turn b T N at last (Ok at) more ∙ ap (symbols_from b T N (last - (at + 1))) (checked_wrong b (is_symbol T N (get_or b at 0)) refusals.Symbol at here e) ∙ symbols_pass b T N (last - (at + 1)) _

  -- where more symbols are wanted than there are bytes, the book is cut off behind the last of them
  pub symbols_cut : (there at wanted : ℕ) → at + there ≡ length b → there < wanted → symbols_from b T N wanted (Ok at) ≡ and_then (symbols_from b T N there (Ok at)) (λ _. bad refusals.Short (length b))
  unfolding symbols_from symbol_from and_then
  symbols_cut there at zero ends more = absurd (omega arith)
  symbols_cut zero at (suc wanted) ends more =
      rw (checked_short b (is_symbol T N (get_or b at 0)) refusals.Symbol at (omega arith)) (symbols_pass b T N wanted _)
  symbols_cut (suc there) at (suc wanted) ends more =
      by_cases (is_symbol T N (get_or b at 0))
      (λ e. rw (checked_right b (is_symbol T N (get_or b at 0)) refusals.Symbol at (omega arith) e) (symbols_cut there (suc at) wanted (omega arith) (omega arith)))
      (λ e. rw (checked_wrong b (is_symbol T N (get_or b at 0)) refusals.Symbol at (omega arith) e, symbols_pass b T N wanted, symbols_pass b T N there))

  module _ (i size at : ℕ) (more : i < size) {v : Verdict} (read : v ≡ record_from b T N (Ok at)) where
    one_read : each_record_from b T N (size - i) (Ok at) ≡ each_record_from b T N (size - (i + 1)) v
    one_read = records_turn b T N i size (Ok at) more ∙ ap (each_record_from b T N (size - (i + 1))) (sym read)

    pub records_go : {next : ℕ} → v ≡ Ok next → each_record_from b T N (size - i) (Ok at) ≡ each_record_from b T N (size - (i + 1)) (Ok next)
    records_go e = one_read ∙ ap (each_record_from b T N (size - (i + 1))) e

    pub records_stop : {fault : Fault} → v ≡ Err fault → each_record_from b T N (size - i) (Ok at) ≡ Err fault
    records_stop {fault} e = one_read ∙ ap (each_record_from b T N (size - (i + 1))) e ∙ records_pass b T N (size - (i + 1)) fault
