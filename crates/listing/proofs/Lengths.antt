-- No listing is longer than `most_listed`, line by line.
use mathlib.Core.Path.{◌≡◌, refl, sym}
use mathlib.Core.Bool.{Bool, true, false}
use mathlib.Core.List.{List, [], ◌∷◌, ◌++◌}
use mathlib.Core.Option.{Option, some, none, none-ne-some}
use Prim.Native.Nat.{ℕ, zero, suc, ◌+◌, ◌*◌, ◌^◌, ◌≤◌, ◌<◌}
use native.Mathlib.Nat.{suc-mul}
use native.Mathlib.Decide.{dec_lt}
use native.Mathlib.Omega.{arith}
use borrow.Author.Tests.{eqb-true}
use lib.Dec.{eqb}
use lib.ListN.{length, take, drop, get_or, length-append, get_or-eq_default}
use lib.Seq.{get_or-drop}
use Rattle.grammar.specs.Grammar.{Grammar, Column, Cell, only, vacant}
use Rattle.grammar.proofs.Rules.{below_rule}
use Rattle.text.specs.Text.{decimal, hexadecimal}
use Rattle.text.proofs.Promise.{decimal_length, decimal_length_word, hexadecimal_length}
use Rattle.answers.specs.declared.Answer.{Answer}
use Rattle.answers.specs.Answers.{refusal}
use Rattle.answers.specs.Refusals.{number_of}
use Rattle.reader.specs.Book.{Limits}
use Rattle.reader.proofs.Promise.{read_limits, refused_within}
use Rattle.book.specs.Judging.{Refuses, misread, useless_one}
use Rattle.book.proofs.Promise.{refuses_number, serves_limits}
use Rattle.first.specs.Numbers.{FirstSets}
use Rattle.follow.specs.Families.{FollowSets}
use Rattle.table.specs.Table.{size, held, TableOf, FirstConflict}
use Rattle.showing.specs.Words.{space, newline, each, numbered, number_text, set_text}
use Rattle.showing.specs.Lines.{numbers_line, set_line, set_lines, dash, cell_text, cells_text, row_word, row_line, row_lines}
use Rattle.listing.specs.Listing.{refused_word, grammar_word, first_word, follow_word, refused_line, grammar_line, served_text, Listing}
use Rattle.listing.specs.Listing.{refused, conflicted, served}
use Rattle.listing.specs.Calls.{most_listed}
use Rattle.listing.proofs.Built.{size_fits}

pub numbered_length : (n : ℕ) (numbers : List ℕ) → length (numbered (n ∷ numbers)) ≡ suc (length (decimal n)) + length (numbered numbers)
unfolding each number_text
numbered_length n numbers = length-append (space ∷ decimal n) (numbered numbers)

line_length : (word numbers : List ℕ) → length (numbers_line word numbers) ≡ length word + length (numbered numbers) + 1
unfolding numbers_line
line_length word numbers = omega (arith, length-append word (numbered numbers ++ (newline ∷ [])), length-append (numbered numbers) (newline ∷ []))

one_number : (n : ℕ) → length (numbered (n ∷ [])) ≡ suc (length (decimal n))
unfolding each
one_number n = omega (arith, numbered_length n [])

two_digits : (n : ℕ) → n < 100 → length (decimal n) ≤ 2
two_digits n small = decimal_length n 2 (omega arith) small

three_digits : (n : ℕ) → n < 1000 → length (decimal n) ≤ 3
three_digits n small = decimal_length n 3 (omega arith) small

refused_length : (a : Answer) → a.number < 2 ^ 64 → a.place < 2 ^ 64 → a.detail < 2 ^ 64 → length (refused_line a) ≤ 71
unfolding refused_line
refused_length a number place detail =
    omega (
      arith,
      line_length refused_word (a.number ∷ a.place ∷ a.detail ∷ []),
      numbered_length a.number (a.place ∷ a.detail ∷ []),
      numbered_length a.place (a.detail ∷ []),
      one_number a.detail,
      decimal_length_word a.number number,
      decimal_length_word a.place place,
      decimal_length_word a.detail detail,
    )

grammar_length : {g : Grammar} → Limits g → length (grammar_line g) ≤ 21
unfolding grammar_line
grammar_length {g} limits =
    let P : ℕ = length g.productions in
    omega (
      arith,
      line_length grammar_word (g.tokens ∷ g.nonterminals ∷ g.start ∷ P ∷ []),
      numbered_length g.tokens (g.nonterminals ∷ g.start ∷ P ∷ []),
      numbered_length g.nonterminals (g.start ∷ P ∷ []),
      numbered_length g.start (P ∷ []),
      one_number P,
      two_digits g.tokens (omega (arith, limits.tokens_fit)),
      two_digits g.nonterminals (omega (arith, limits.nonterminals_fit)),
      two_digits g.start (omega (arith, limits.nonterminals_fit, limits.well_formed.start_known)),
      three_digits P (omega (arith, limits.productions_fit)),
    )

set_length : (word : List ℕ) (A x : ℕ) → A < 100 → length (set_line word A x) ≤ length word + 21
unfolding set_line set_text
set_length word A x small =
    let set : List ℕ = (space ∷ hexadecimal x) ++ (newline ∷ []) in
    omega (
      arith,
      length-append word (numbered (A ∷ []) ++ set),
      length-append (numbered (A ∷ [])) set,
      length-append (space ∷ hexadecimal x) (newline ∷ []),
      one_number A,
      hexadecimal_length x,
      two_digits A small,
    )

sets_length : (word : List ℕ) (A : ℕ) (xs : List ℕ) → A + length xs ≤ 100 → length (set_lines word A xs) ≤ length xs * (length word + 21)
unfolding set_lines
sets_length word A [] small = omega arith
sets_length word A (x ∷ xs) small =
    omega (
      arith,
      length-append (set_line word A x) (set_lines word (suc A) xs),
      set_length word A x (omega arith),
      sets_length word (suc A) xs (omega arith),
      suc-mul (length xs) (length word + 21),
    )

-- every cell is a number of at most three digits, also 255 past the end
abbrev Short : List ℕ → Type 0
Short cells = (i : ℕ) → get_or cells i 255 < 1000

cell_length : (c : ℕ) → c < 1000 → length (cell_text c) ≤ 4
unfolding cell_text
cell_length c small = by_test (eqb c 255)
  where
    by_test : (vacant : Bool) → length {A = ℕ} (space ∷ elim vacant [ true ↦ dash ∷ [] | false ↦ decimal c ]) ≤ 4
    by_test true = omega arith
    by_test false = omega (arith, three_digits c small)

cells_length : (columns : ℕ) (cells : List ℕ) → Short cells → length (cells_text (take columns cells)) ≤ columns * 4
unfolding each
cells_length zero cells short = omega arith
cells_length (suc columns) [] short = omega arith
cells_length (suc columns) (c ∷ cells) short =
    omega (
      arith,
      length-append (cell_text c) (cells_text (take columns cells)),
      cell_length c (short 0),
      cells_length columns cells (λ i. short (suc i)),
    )

row_length : (A columns : ℕ) (cells : List ℕ) → A < 100 → columns ≤ 63 → Short cells → length (row_line A (take columns cells)) ≤ 259
unfolding row_line
row_length A columns cells small narrow short =
    let text : List ℕ = cells_text (take columns cells) in
    omega (
      arith,
      length-append row_word (numbered (A ∷ []) ++ (text ++ (newline ∷ []))),
      length-append (numbered (A ∷ [])) (text ++ (newline ∷ [])),
      length-append text (newline ∷ []),
      one_number A,
      two_digits A small,
      cells_length columns cells short,
    )

rows_length : (columns A rows : ℕ) (cells : List ℕ) → columns ≤ 63 → A + rows ≤ 100 → Short cells → length (row_lines columns A rows cells) ≤ rows * 259
unfolding row_lines
rows_length columns A zero cells narrow small short = omega arith
rows_length columns A (suc rows) cells narrow small short =
    omega (
      arith,
      length-append (row_line A (take columns cells)) (row_lines columns (suc A) rows (drop columns cells)),
      row_length A columns cells (omega arith) narrow short,
      rows_length columns (suc A) rows (drop columns cells) narrow (omega arith) (λ i. rw (get_or-drop columns cells i 255) (short (columns + i))),
    )

-- the cells of a table are productions, or 255
cell_short : {g : Grammar} {A : ℕ} {c : Column} {o : Option ℕ} (x : ℕ) → Limits g → Cell g A c o → held x ≡ o → x < 1000
unfolding held
cell_short {g} x limits cell e = by_test (eqb x 255) refl cell e
  where
    by_test : (empty : Bool) → eqb x 255 ≡ empty → {A : ℕ} {c : Column} {o : Option ℕ} → Cell g A c o → elim empty as (λ b. Option ℕ) [ true ↦ none | false ↦ some x ] ≡ o → x < 1000
    by_test true is cell e = omega (arith, eqb-true x 255 is)
    by_test false is (only {p = p} k one) e = let same : x ≡ p = cc in omega (arith, below_rule k.rule, limits.productions_fit)
    by_test false is (vacant nobody) e = absurd (none-ne-some x (sym e))

table_short : {g : Grammar} {table : List ℕ} → Limits g → TableOf g table → Short table
table_short {g} {table} limits t i = go (dec_lt i (size g))
  where
    go : Dec (i < size g) → get_or table i 255 < 1000
    go (yes inside) = cell_short (get_or table i 255) limits (t.cells i inside) refl
    go (no past) = omega (arith, get_or-eq_default table 255 {n = i} (omega (arith, t.sized)))

served_length : {g : Grammar} {first follow table : List ℕ} → Limits g → FirstSets g first → FollowSets g follow → TableOf g table
    → length (served_text g first follow table) ≤ most_listed
unfolding served_text
served_length {g} {first} {follow} {table} limits h k t =
    let firsts : List ℕ = set_lines first_word 0 first in
    let follows : List ℕ = set_lines follow_word 0 follow in
    let rows : List ℕ = row_lines (g.tokens + 1) 0 g.nonterminals table in
    omega (
      arith,
      length-append (grammar_line g) (firsts ++ (follows ++ rows)),
      length-append firsts (follows ++ rows),
      length-append follows rows,
      grammar_length limits,
      sets_length first_word 0 first (omega (arith, h.size, limits.nonterminals_fit)),
      sets_length follow_word 0 follow (omega (arith, k.size, limits.nonterminals_fit)),
      rows_length (g.tokens + 1) 0 g.nonterminals table (omega (arith, limits.tokens_fit)) (omega (arith, limits.nonterminals_fit)) (table_short limits t),
      h.size,
      k.size,
      limits.nonterminals_fit,
    )

refusal_length : {book : List ℕ} {a : Answer} → Refuses book a → length (refused_line a) ≤ most_listed
unfolding refusal
refusal_length {book} (misread {why = w} {place = k} e) = omega (arith, refused_length (refusal (number_of w) k 0) (omega (arith, refuses_number (misread e))) (omega (arith, refused_within book e)) (omega arith))
refusal_length {book} (useless_one {A = A} e lowest) = omega (arith, refused_length (refusal 6 A 0) (omega arith) (omega (arith, lowest.inside, (read_limits book e).nonterminals_fit)) (omega arith))

conflict_length : {g : Grammar} {i p q : ℕ} → Limits g → FirstConflict g i p q → length (refused_line (refusal 8 i (p * 256 + q))) ≤ most_listed
unfolding refusal
conflict_length {i = i} {p = p} {q = q} limits c =
    let bound = below_rule c.next.rule in
    omega (arith, refused_length (refusal 8 i (p * 256 + q)) (omega arith) (omega (arith, c.inside, size_fits limits)) (omega (arith, bound, c.order, limits.productions_fit)))

-- no listing is longer, of whatever book
pub listing_length : {book text : List ℕ} → Listing book text → length text ≤ most_listed
listing_length (refused r) = refusal_length r
listing_length (conflicted s c) = conflict_length (serves_limits s) c
listing_length (served s h k t) = served_length (serves_limits s) h k t
