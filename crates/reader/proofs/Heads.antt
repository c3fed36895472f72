-- The four bytes that begin a record, tried together and one by one.
use mathlib.Core.Path.{◌≡◌, refl, ap, ◌∙◌}
use mathlib.Core.Logic.{◌≢◌}
use mathlib.Core.Bool.{Bool, true, false, ◌&&◌, false≢true}
use mathlib.Core.List.{List}
use Prim.Native.Nat.{ℕ, suc, ◌+◌, ◌-◌, ◌≤◌, ◌<◌}
use native.Mathlib.Nat.{add-zero}
use native.Mathlib.Omega.{arith}
use lib.Dec.{leb, ltb}
use lib.ListN.{length, get_or, drop}
use lib.Seq.{get_or-take, get_or-drop}
use borrow.Author.Tests.{lt-ltb, le-ltb, ltb-true, ltb-false}
use Rattle.std.specs.Prelude.{Ok, Err, slice_range}
use Rattle.answers.specs.Limits.{most_symbols}
use Rattle.answers.specs.declared.refusals.Refusal.{Refusal}
use Rattle.answers.specs.declared.refusals.Refusal.TheVariants as refusals
use Rattle.reader.specs.Verdicts.{Verdict, and_then}
use Rattle.reader.specs.Positional.{next_byte, within, wanted_from, symbols_from, marked_from, right_from, left_from, head_from, head_at, record_from}
use Rattle.reader.proofs.Passing.{by_cases, within_right, within_above, within_other, within_up_to, checked_right, checked_wrong, checked_short, symbols_pass}

both : (t u : Bool) → (t && u) ≡ true → (t ≡ true) × (u ≡ true)
both true u e = (refl, e)
both false u e = absurd (false≢true e)

-- a byte that was wanted was there and right
record Taken (b : List ℕ) (low high : ℕ) (v : Verdict) (next : ℕ) : Type 0 where
  at : ℕ
  from : v ≡ Ok at
  inside : at < length b
  right : within low high (get_or b at 0) ≡ true
  next_is : next ≡ suc at

module _ (b : List ℕ) (low high : ℕ) (why : Refusal) where
  wanted_taken : (at next : ℕ) → next ≡ suc at → at < length b → within low high (get_or b at 0) ≡ true → wanted_from b low high why (Ok at) ≡ Ok next
  unfolding wanted_from and_then
  wanted_taken at next same inside right = checked_right b _ why at inside right ∙ ap Ok (omega arith)

  taken : (v : Verdict) (next : ℕ) → wanted_from b low high why v ≡ Ok next → Taken b low high v next
  unfolding wanted_from and_then
  taken (Err fault) next e = let no : ⊥ = cc in absurd no
  taken (Ok at) next e =
      by_cases (ltb at (length b))
      (λ t. let inside : at < length b = ltb-true at (length b) t in
      by_cases (within low high (get_or b at 0))
      (λ w. record { at = at; from = refl; inside = inside; right = w; next_is = let goes = checked_right b _ why at inside w in cc })
      (λ w. let stops = checked_wrong b _ why at inside w in let no : ⊥ = cc in absurd no))
      (λ t. let stops = checked_short b (within low high (get_or b at 0)) why at (ltb-false at (length b) t) in let no : ⊥ = cc in absurd no)

module _ (b : List ℕ) (N at : ℕ) where
  module _ (head : head_at b N at ≡ true) where
    behind_guard : (ltb (at + 3) (length b) ≡ true) × ((within 80 81 (get_or b at 0) && (within 82 83 (get_or b (at + 1) 0) && (within 0 N (get_or b (at + 2) 0) && within 0 (suc most_symbols) (get_or b (at + 3) 0)))) ≡ true)
    unfolding head_at
    behind_guard = both _ _ head

    pub head_inside : at + 3 < length b
    head_inside = ltb-true _ _ behind_guard.0

    first_right : within 80 81 (get_or b at 0) ≡ true
    first_right = (both _ _ behind_guard.1).0

    behind_first : (within 82 83 (get_or b (at + 1) 0) && (within 0 N (get_or b (at + 2) 0) && within 0 (suc most_symbols) (get_or b (at + 3) 0))) ≡ true
    behind_first = (both _ _ behind_guard.1).1

    behind_second : (within 0 N (get_or b (at + 2) 0) && within 0 (suc most_symbols) (get_or b (at + 3) 0)) ≡ true
    behind_second = (both _ _ behind_first).1

    left_whole : left_from b N (Ok at) ≡ Ok (at + 3)
    unfolding left_from marked_from
    left_whole =
        let inside = head_inside in
        rw (wanted_taken b 80 81 refusals.Mark at (at + 1) (omega arith) (omega arith) first_right, wanted_taken b 82 83 refusals.Mark (at + 1) (at + 2) (omega arith) (omega arith) (both _ _ behind_first).0)
        (wanted_taken b 0 N refusals.Symbol (at + 2) (at + 3) (omega arith) (omega arith) (both _ _ behind_second).0)

    -- where they begin a record, its symbols follow
    pub record_whole : (T : ℕ) → record_from b T N (Ok at) ≡ symbols_from b T N (get_or b (at + 3) 0) (Ok (at + 4))
    unfolding record_from right_from next_byte
    record_whole T =
        let inside = head_inside in
        let fourth : within 0 (suc most_symbols) (get_or b (at + 3) 0) ≡ true = (both (within 0 N (get_or b (at + 2) 0)) _ behind_second).1 in
        rw (left_whole, wanted_taken b 0 (suc most_symbols) refusals.Limit (at + 3) (at + 4) (omega arith) (omega arith) fourth, next_byte)

  head_taken : (next : ℕ) → head_from b N (Ok at) ≡ Ok next → head_at b N at ≡ true
  unfolding head_from left_from marked_from head_at
  head_taken next e =
      let four = taken b 0 (suc most_symbols) refusals.Limit (left_from b N (Ok at)) next e in
      let three = taken b 0 N refusals.Symbol (marked_from b 80 82 (Ok at)) four.at four.from in
      let two = taken b 82 83 refusals.Mark (wanted_from b 80 81 refusals.Mark (Ok at)) three.at three.from in
      let one = taken b 80 81 refusals.Mark (Ok at) two.at two.from in
      let begun : at ≡ one.at = (let same = one.from in cc) in
      let second : two.at ≡ at + 1 = omega (arith, one.next_is) in
      let third : three.at ≡ at + 2 = omega (arith, two.next_is) in
      let fourth : four.at ≡ at + 3 = omega (arith, three.next_is) in
      let inside : at + 3 < length b = omega (arith, four.inside) in
      simp (head_at, lt-ltb _ _ inside, rw (← begun) at one.right, rw second at two.right, rw third at three.right, rw fourth at four.right)

  -- where they do not, the first that is missing or wrong decides
  pub record_wrong : (T : ℕ) → head_at b N at ≡ false → record_from b T N (Ok at) ≡ head_from b N (Ok at)
  unfolding record_from right_from head_from
  record_wrong T wrong = by_head (head_from b N (Ok at)) refl
    where
      by_head : (v : Verdict) → head_from b N (Ok at) ≡ v → symbols_from b T N (next_byte b (left_from b N (Ok at))) v ≡ v
      by_head (Err fault) e = symbols_pass b T N _ fault
      by_head (Ok next) e = let right = head_taken next e in let no : ⊥ = cc in absurd no

-- the four bytes as the front of what stands from a place on
module _ (b : List ℕ) (N at : ℕ) where
  pub head_short : length b < at + 4 → head_at b N at ≡ false
  unfolding head_at
  head_short short = simp (head_at, le-ltb (at + 3) (length b) (omega arith))

  module _ {row : List ℕ} (same : row ≡ slice_range b at (length b)) (fits : length row + at ≡ length b) (long : 4 ≤ length row) where
    cell : (i : ℕ) → i < 4 → get_or b (at + i) 0 ≡ get_or row i 0
    cell i below = rw (same, get_or-take (length b - at) (drop at b) i 0 (omega arith), get_or-drop at b i 0)

    row_is : head_at b N at ≡ (within 80 81 (get_or row 0 0) && (within 82 83 (get_or row 1 0) && (within 0 N (get_or row 2 0) && within 0 (suc most_symbols) (get_or row 3 0))))
    unfolding head_at
    row_is =
        let first : get_or b at 0 ≡ get_or row 0 0 = rw add-zero at (cell 0 (omega arith)) in
        rw (lt-ltb (at + 3) (length b) (omega arith), first, cell 1 (omega arith), cell 2 (omega arith), cell 3 (omega arith))

    pub row_first : get_or row 0 0 ≢ 80 → head_at b N at ≡ false
    row_first wrong = rw (row_is, within_other 80 (get_or row 0 0) wrong)

    module _ (first : get_or row 0 0 ≡ 80) where
      pub row_second : get_or row 1 0 ≢ 82 → head_at b N at ≡ false
      unfolding within
      row_second wrong = rw (row_is, first, within_other 82 (get_or row 1 0) wrong)

      module _ (second : get_or row 1 0 ≡ 82) where
        pub row_left : N ≤ get_or row 2 0 → head_at b N at ≡ false
        unfolding within
        row_left wrong = rw (row_is, first, second, within_above 0 N (get_or row 2 0) wrong)

        pub row_length : get_or row 2 0 < N → head_at b N at ≡ leb (get_or row 3 0) most_symbols
        unfolding within
        row_length right = rw (row_is, first, second, within_right 0 N (get_or row 2 0) (omega arith) right) (within_up_to most_symbols (get_or row 3 0))
