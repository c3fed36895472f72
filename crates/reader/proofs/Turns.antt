-- One turn of a reading loop, and its end: reading what is left comes to what reading the whole comes to.
use mathlib.Core.Path.{◌≡◌}
use mathlib.Core.List.{List}
use Prim.Native.Nat.{ℕ, suc, ◌+◌, ◌-◌, ◌<◌, ◌≤◌}
use native.Mathlib.Numerals.{add-one}
use native.Mathlib.Omega.{arith}
use lib.ListN.{set}
use lib.Seq.{sets}
use Rattle.reader.specs.Verdicts.{Verdict}
use Rattle.reader.specs.Fields.{place_of_record, places_from}
use Rattle.reader.specs.Positional.{symbol_from, symbols_from, record_from, each_record_from}

one_more_left : (i size : ℕ) → i < size → size - i ≡ suc (size - (i + 1))
one_more_left i size h = omega arith

none_left : (i size : ℕ) → size ≤ i → size - i ≡ 0
none_left i size h = omega arith

module _ (b : List ℕ) (T N i size : ℕ) (v : Verdict) where
  pub symbols_turn : i < size → symbols_from b T N (size - i) v ≡ symbols_from b T N (size - (i + 1)) (symbol_from b T N v)
  unfolding symbols_from
  symbols_turn h = rw (one_more_left i size h)

  pub symbols_over : size ≤ i → symbols_from b T N (size - i) v ≡ v
  unfolding symbols_from
  symbols_over h = rw (none_left i size h)

  pub records_turn : i < size → each_record_from b T N (size - i) v ≡ each_record_from b T N (size - (i + 1)) (record_from b T N v)
  unfolding each_record_from
  records_turn h = rw (one_more_left i size h)

  pub records_over : size ≤ i → each_record_from b T N (size - i) v ≡ v
  unfolding each_record_from
  records_over h = rw (none_left i size h)

module _ (b l : List ℕ) (i size : ℕ) where
  pub places_turn : i < size → sets l i (places_from b (size - i) i) ≡ sets (set l i (place_of_record b i)) (i + 1) (places_from b (size - (i + 1)) (i + 1))
  unfolding places_from
  places_turn h = rw (one_more_left i size h, add-one)

  pub places_over : size ≤ i → sets l i (places_from b (size - i) i) ≡ l
  unfolding places_from
  places_over h = rw (none_left i size h)
