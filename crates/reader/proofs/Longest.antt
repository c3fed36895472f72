-- The longest book, and how much of a longer one is judged.
use mathlib.Core.Path.{◌≡◌, refl, sym, ◌∙◌, ap, ap₂}
use mathlib.Core.List.{List, [], ◌∷◌, ◌++◌}
use mathlib.Core.Option.{some}
use Prim.Native.Nat.{ℕ, zero, suc, ◌+◌, ◌-◌, ◌*◌, ◌≤◌}
use native.Mathlib.Omega.{arith}
use lib.ListN.{length, take, replicate, get_elem?, length-append}
use lib.Seq.{take_all, take-append-add}
use Rattle.grammar.specs.declared.Symbol.TheVariants.{Token}
use Rattle.grammar.specs.Grammar.{Production, Grammar}
use Rattle.answers.specs.Limits.{most_productions, most_symbols, longest_book}
use Rattle.answers.specs.declared.refusals.Refusal.{Refusal}
use Rattle.reader.specs.Book.{Spelling, reads, refused, wanted, marked, symbol_of, symbols, records, ending, spells, byte_of, record_bytes, records_bytes, bytes_of, Limits, Continued}
use Rattle.reader.proofs.Records.{records_size}
use Rattle.reader.proofs.Positions.{records_bytes_length}
use Rattle.reader.proofs.Order.{FirstDecides, whole, ended, stopped, spells_decided, continued}
use Rattle.reader.proofs.Written.{written_read, read_limits}

records_size_fits : (ps : List Production) → ((p : ℕ) (r : Production) → get_elem? ps p ≡ some r → length r.right ≤ most_symbols) → records_size ps ≤ 20 * length ps
unfolding records_size
records_size_fits [] h = omega arith
records_size_fits (r ∷ ps) h = omega (arith, h zero r refl, records_size_fits ps (λ p. h (suc p)))

-- the longest book has 2,566 bytes
pub longest_book_lem : (b : List ℕ) {g : Grammar} → spells b ≡ reads g → length b ≤ longest_book
unfolding bytes_of
longest_book_lem b {g} e =
    let limits : Limits g = read_limits b e in
    let fits : records_size g.productions ≤ 20 * length g.productions = records_size_fits g.productions (λ p r at. limits.lengths_fit (record { at = at })) in
    rw (written_read b e) (omega (arith, limits.productions_fit, records_bytes_length g.productions))

continued_fits : {b : List ℕ} → Continued b → length b ≤ longest_book
continued_fits {b} c = omega (arith, longest_book_lem (b ++ c.more) c.read, length-append b c.more)

-- no refusal names a place further on
pub refused_within : (b : List ℕ) {why : Refusal} {k : ℕ} → spells b ≡ refused why k → k ≤ longest_book
refused_within b {why} {k} e = by_decided (spells_decided b) e
  where
    by_decided : {x : Spelling} → FirstDecides spells 0 b x → x ≡ refused why k → k ≤ longest_book
    by_decided whole e = let no : ⊥ = cc in absurd no
    by_decided (ended j place g) e = let same : j ≡ k = cc in omega (arith, place, continued_fits (continued g))
    by_decided (stopped j fault used c rest split place g all) e = let same : j ≡ k = cc in omega (arith, place, continued_fits (continued g))

-- a longer book is judged by its first 2,567 bytes
pub judged_by_first : (m : ℕ) → suc longest_book ≤ m → (b : List ℕ) → spells b ≡ spells (take m b)
judged_by_first m enough b = sym (by_judged refl (spells_decided b))
  where
    fits : {x : Spelling} → spells b ≡ x → length b ≤ longest_book → spells (take m b) ≡ x
    fits e small = ap spells (take_all m b (omega arith)) ∙ e

    by_judged : {x : Spelling} → spells b ≡ x → FirstDecides spells 0 b x → spells (take m b) ≡ x
    by_judged e whole = fits e (longest_book_lem b e)
    by_judged e (ended k place g) = fits e (continued_fits (continued g))
    by_judged e (stopped k fault used c rest split place g all) =
        let left : ℕ = m - suc (length used) in
        let sum : m ≡ length used + suc left = omega (arith, continued_fits (continued g)) in
        let cut : take m b ≡ used ++ (c ∷ take left rest) = ap₂ take sum split ∙ take-append-add used (c ∷ rest) (suc left) in
        ap spells cut ∙ all (take left rest)

-- a grammar whose book is of that length
longest : Grammar
longest = record { tokens = 1; nonterminals = 1; start = 0; productions = replicate most_productions (record { left = 0; right = replicate most_symbols (Token 0) }) }

-- and there is a book of 2,566 bytes
pub longest_reads : (b : List ℕ) × (g : Grammar) × (spells b ≡ reads g) × (length b ≡ longest_book)
unfolding longest spells marked wanted symbols symbol_of records ending bytes_of records_bytes record_bytes byte_of
longest_reads = (bytes_of longest, longest, refl, refl)
