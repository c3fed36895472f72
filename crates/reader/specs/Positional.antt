-- The code's mirror: each part of the reader as a function of the whole book and of what reading has come to.
-- Only contracts inside the crate cite it: what `read` answers is stated by `spells` alone, in Verdicts.
use Rattle.std.specs.Prelude.{Bool, true, false, ◌&&◌, List, ℕ, zero, suc, ◌+◌, ◌-◌, leb, ltb, length, get_or, Ok, Err}
use Rattle.answers.specs.Limits.{most_tokens, most_nonterminals, most_productions, most_symbols}
use Rattle.answers.specs.declared.refusals.Refusal.{Refusal}
use Rattle.answers.specs.declared.refusals.Refusal.TheVariants as refusals
use Rattle.reader.specs.Verdicts.{Verdict, bad, and_then}

-- the byte that is next, 0 after a refusal
unfoldable pub next_byte : List ℕ → Verdict → ℕ
next_byte b (Ok at) = get_or b at 0
next_byte b (Err fault) = 0

unfoldable pub within : (low high : ℕ) → ℕ → Bool
within low high byte = leb low byte && ltb byte high

unfoldable pub is_symbol : (T N : ℕ) → ℕ → Bool
is_symbol T N byte = elim (ltb byte T) [ true ↦ true | false ↦ leb 128 byte && ltb (byte - 128) N ]

-- the byte at a place is missing, right or wrong
unfoldable pub checked_at : List ℕ → Bool → Refusal → ℕ → Verdict
checked_at b right why at =
    elim (ltb at (length b)) [
      | true ↦ elim right [ true ↦ Ok (at + 1) | false ↦ bad why at ]
      | false ↦ bad refusals.Short (length b)
    ]

-- a byte in a range is wanted
unfoldable pub wanted_from : List ℕ → (low high : ℕ) → Refusal → Verdict → Verdict
wanted_from b low high why v = and_then v λ at. checked_at b (within low high (get_or b at 0)) why at

unfoldable pub symbol_from : List ℕ → (T N : ℕ) → Verdict → Verdict
symbol_from b T N v = and_then v λ at. checked_at b (is_symbol T N (get_or b at 0)) refusals.Symbol at

unfoldable pub symbols_from : List ℕ → (T N : ℕ) → ℕ → Verdict → Verdict
symbols_from b T N zero v = v
symbols_from b T N (suc l) v = symbols_from b T N l (symbol_from b T N v)

unfoldable pub marked_from : List ℕ → (one other : ℕ) → Verdict → Verdict
marked_from b one other v =
    wanted_from b other (suc other) refusals.Mark (wanted_from b one (suc one) refusals.Mark v)

-- the length of a right side, then its symbols
unfoldable pub right_from : List ℕ → (T N : ℕ) → Verdict → Verdict
right_from b T N v = symbols_from b T N (next_byte b v) (wanted_from b 0 (suc most_symbols) refusals.Limit v)

-- `PR` and a left side
unfoldable pub left_from : List ℕ → (N : ℕ) → Verdict → Verdict
left_from b N v = wanted_from b 0 N refusals.Symbol (marked_from b 80 82 v)

-- the four bytes that begin a record: `PR`, a left side, the length of a right side
unfoldable pub head_from : List ℕ → (N : ℕ) → Verdict → Verdict
head_from b N v = wanted_from b 0 (suc most_symbols) refusals.Limit (left_from b N v)

-- they stand at a place
unfoldable pub head_at : List ℕ → (N : ℕ) → ℕ → Bool
head_at b N at =
    ltb (at + 3) (length b)
    && (within 80 81 (get_or b at 0)
    && (within 82 83 (get_or b (at + 1) 0)
    && (within 0 N (get_or b (at + 2) 0) && within 0 (suc most_symbols) (get_or b (at + 3) 0))))

unfoldable pub record_from : List ℕ → (T N : ℕ) → Verdict → Verdict
record_from b T N v = right_from b T N (left_from b N v)

unfoldable pub each_record_from : List ℕ → (T N : ℕ) → ℕ → Verdict → Verdict
each_record_from b T N zero v = v
each_record_from b T N (suc p) v = each_record_from b T N p (record_from b T N v)

-- the header, whose fourth byte is N
unfoldable pub header_of : List ℕ → Verdict
header_of b =
    wanted_from b 1 (suc most_productions) refusals.Limit
    (wanted_from b 0 (get_or b 3 0) refusals.Limit
    (wanted_from b 1 (suc most_nonterminals) refusals.Limit
    (wanted_from b 1 (suc most_tokens) refusals.Limit
    (marked_from b 71 82 (Ok 0)))))

-- the records, with T, N and P as the book's bytes 2, 3 and 5 have them
unfoldable pub records_from : List ℕ → Verdict → Verdict
records_from b v = each_record_from b (get_or b 2 0) (get_or b 3 0) (get_or b 5 0) v

-- nothing stands at a place
unfoldable pub ended_at : List ℕ → ℕ → Verdict
ended_at b at = elim (ltb at (length b)) [ true ↦ bad refusals.Extra at | false ↦ Ok at ]

unfoldable pub end_from : List ℕ → Verdict → Verdict
end_from b v = and_then v (ended_at b)
