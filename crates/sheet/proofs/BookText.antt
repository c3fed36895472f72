-- What the bytes of a book say by place is its grammar's sheet; and the laws by which the code puts it together.
use mathlib.Core.Path.{◌≡◌, refl, sym, ap, ◌∙◌, subst}
use mathlib.Core.Bool.{Bool, true, false, cond}
use mathlib.Core.List.{List, [], ◌∷◌, ◌++◌, append_assoc}
use Prim.Native.Nat.{ℕ, zero, suc, ◌+◌, ◌-◌, ◌/◌, ◌%◌, ◌≤◌, ◌<◌}
use native.Mathlib.Omega.{arith}
use native.Mathlib.Nat.{sub-zero, add-zero, zero-add}
use borrow.Author.Tests.{lt-ltb, le-ltb}
use lib.Dec.{ltb}
use lib.ListN.{get_or}
use Rattle.grammar.specs.declared.Symbol.TheVariants.{Token, Nonterminal}
use Rattle.text.specs.Text.{decimal, last_digits, digit, Put}
use Rattle.text.proofs.Promise.{put_then, Completes, completes_start, completes_more, completes_all}
use Rattle.reader.specs.Fields.{symbol_of_byte, form_in, left_at, length_at, right_at, place_after}
use Rattle.reader.proofs.Promise.{form_next, form_past}
use Rattle.sheet.specs.Sheet.{line_feed, space, colon, letter_n, symbol_text, symbols_text, line_text, first_line}
use Rattle.sheet.specs.Writing.{letter_of, number_of, record_text, records_text, head_text, book_text}

symbol_parts : (b : ℕ) → symbol_text (symbol_of_byte b) ≡ (space ∷ []) ++ ((letter_of b ∷ []) ++ decimal (number_of b))
unfolding symbol_text symbol_of_byte letter_of number_of
symbol_parts b = by (ltb b 128)
  where
    by : (x : Bool) → symbol_text (elim x [ true ↦ Token b | false ↦ Nonterminal (b - 128) ])
        ≡ space ∷ cond x 116 110 ∷ decimal (cond x b (b - 128))
    by true = refl
    by false = refl

pub symbol_put : {before one two after : List ℕ} {at i j next : ℕ} (b : ℕ)
    → Put before at (space ∷ []) one i
    → Put one i (letter_of b ∷ []) two j
    → Put two j (decimal (number_of b)) after next
    → Put before at (symbol_text (symbol_of_byte b)) after next
symbol_put b p q r =
    rw (symbol_parts b) (put_then (space ∷ []) ((letter_of b ∷ []) ++ decimal (number_of b)) p (put_then (letter_of b ∷ []) (decimal (number_of b)) q r))

-- the symbols from the i-th on
abbrev pub symbols_from : List ℕ → (place count i : ℕ) → List ℕ
symbols_from book place count i = symbols_text (form_in book (place + 4 + i) (count - i))

pub symbols_whole : (book : List ℕ) (place count : ℕ) → symbols_text (form_in book (place + 4) count) ≡ symbols_from book place count 0
symbols_whole book place count = rw (add-zero, sub-zero)

pub symbols_next : (book : List ℕ) (place count i : ℕ) → i < count
    → symbols_from book place count i
    ≡ symbol_text (symbol_of_byte (get_or book (place + (4 + i)) 0)) ++ symbols_from book place count (i + 1)
unfolding symbols_text
symbols_next book place count i inside =
    let moved : place + (4 + i) ≡ place + 4 + i = omega arith in
    ap symbols_text (form_next book (place + 4) count i inside)
    ∙ ap (λ (k : ℕ). symbol_text (symbol_of_byte (get_or book k 0)) ++ symbols_from book place count (i + 1)) (sym moved)

pub symbols_past : (book : List ℕ) (place count i : ℕ) → count ≤ i → symbols_from book place count i ≡ []
unfolding symbols_text
symbols_past book place count i past = ap symbols_text (form_past book (place + 4) count i past)

-- a line, part by part
pub line_put : {before one two three four five after : List ℕ} {at i j k l m next : ℕ} (book : List ℕ) (place : ℕ)
    → Put before at (letter_n ∷ []) one i
    → Put one i (decimal (left_at book place)) two j
    → Put two j (space ∷ []) three k
    → Put three k (colon ∷ []) four l
    → Put four l (symbols_text (right_at book place)) five m
    → Put five m (line_feed ∷ []) after next
    → Put before at (record_text book place) after next
unfolding record_text line_text
line_put book place p q r s t u =
    let right : List ℕ = symbols_text (right_at book place) in
    let left : List ℕ = decimal (left_at book place) in
    put_then (letter_n ∷ []) (left ++ (space ∷ colon ∷ (right ++ (line_feed ∷ [])))) p
    (put_then left (space ∷ colon ∷ (right ++ (line_feed ∷ []))) q
    (put_then (space ∷ []) (colon ∷ (right ++ (line_feed ∷ []))) r
    (put_then (colon ∷ []) (right ++ (line_feed ∷ [])) s (put_then right (line_feed ∷ []) t u))))

pub records_next : (book : List ℕ) (count p at : ℕ) → p < count
    → records_text book (count - p) at ≡ record_text book at ++ records_text book (count - (p + 1)) (at + 4 + length_at book at)
unfolding records_text place_after
records_next book count p at inside =
    let left : count - p ≡ suc (count - (p + 1)) = omega arith in
    rw left

pub records_past : (book : List ℕ) (count p at : ℕ) → count ≤ p → records_text book (count - p) at ≡ []
unfolding records_text
records_past book count p at past = let none : count - p ≡ 0 = omega arith in rw none

pub letter_low : (b : ℕ) → b < 128 → 116 ≡ letter_of b
unfolding letter_of
letter_low b low = rw (lt-ltb b 128 low)

pub letter_high : (b : ℕ) → 128 ≤ b → 110 ≡ letter_of b
unfolding letter_of
letter_high b high = rw (le-ltb b 128 high)

pub number_low : (b : ℕ) → b < 128 → b ≡ number_of b
unfolding number_of
number_low b low = rw (lt-ltb b 128 low)

pub number_high : (b : ℕ) → 128 ≤ b → b - 128 ≡ number_of b
unfolding number_of
number_high b high = rw (le-ltb b 128 high)

-- the symbols of a right side, one by one
pub symbols_start : (out : List ℕ) (at : ℕ) (book : List ℕ) (place count : ℕ)
    → Completes out at (symbols_text (form_in book (place + 4) count)) out at (symbols_from book place count 0)
symbols_start out at book place count =
    subst (λ (rest : List ℕ). Completes out at (symbols_text (form_in book (place + 4) count)) out at rest) (symbols_whole book place count)
    (completes_start out at (symbols_text (form_in book (place + 4) count)))

pub symbols_turn : {before between further : List ℕ} {at middle later b : ℕ} (whole book : List ℕ) (place count i : ℕ)
    → Completes before at whole between middle (symbols_from book place count i)
    → i < count
    → b ≡ get_or book (place + (4 + i)) 0
    → Put between middle (symbol_text (symbol_of_byte b)) further later
    → Completes before at whole further later (symbols_from book place count (i + 1))
symbols_turn {before} {between} {at = at} {middle = middle} whole book place count i completes inside same put =
    completes_more (symbol_text (symbol_of_byte (get_or book (place + (4 + i)) 0))) (symbols_from book place count (i + 1))
    (subst (λ (rest : List ℕ). Completes before at whole between middle rest) (symbols_next book place count i inside) completes)
    (rw same at put)

pub symbols_end : {before between : List ℕ} {at middle : ℕ} (whole book : List ℕ) (place count i : ℕ)
    → Completes before at whole between middle (symbols_from book place count i)
    → count ≤ i
    → Put before at whole between middle
symbols_end {before} {between} {at} {middle} whole book place count i completes past =
    completes_all (subst (λ (rest : List ℕ). Completes before at whole between middle rest) (symbols_past book place count i past) completes)

-- the lines of the records, one by one
pub records_start : (out : List ℕ) (at : ℕ) (book : List ℕ) (count : ℕ)
    → Completes out at (records_text book count 6) out at (records_text book (count - 0) 6)
records_start out at book count =
    subst (λ (n : ℕ). Completes out at (records_text book count 6) out at (records_text book n 6)) (sym (sub-zero count))
    (completes_start out at (records_text book count 6))

pub records_turn : {before between further : List ℕ} {at middle later length : ℕ} (whole book : List ℕ) (count p place : ℕ)
    → Completes before at whole between middle (records_text book (count - p) place)
    → p < count
    → Put between middle (record_text book place) further later
    → length ≡ length_at book place
    → Completes before at whole further later (records_text book (count - (p + 1)) (place + 4 + length))
records_turn {before} {between} {further} {at} {middle} {later} {length} whole book count p place completes inside put same =
    subst (λ (l : ℕ). Completes before at whole further later (records_text book (count - (p + 1)) (place + 4 + l))) (sym same)
    (completes_more (record_text book place) (records_text book (count - (p + 1)) (place + 4 + length_at book place))
    (subst (λ (rest : List ℕ). Completes before at whole between middle rest) (records_next book count p place inside) completes)
    put)

pub records_end : {before between : List ℕ} {at middle : ℕ} (whole book : List ℕ) (count p place : ℕ)
    → Completes before at whole between middle (records_text book (count - p) place)
    → count ≤ p
    → Put before at whole between middle
records_end {before} {between} {at} {middle} whole book count p place completes past =
    completes_all (subst (λ (rest : List ℕ). Completes before at whole between middle rest) (records_past book count p place past) completes)

-- a number and its mark; the byte is looked up from the front
pub number_put : {before one after : List ℕ} {at i next v : ℕ} (book : List ℕ) (field mark : ℕ)
    → v ≡ get_or book (0 + field) 0
    → Put before at (decimal v) one i
    → Put one i (mark ∷ []) after next
    → Put before at (decimal (get_or book field 0) ++ (mark ∷ [])) after next
number_put {before} {one} {at = at} {i = i} book field mark same p q =
    put_then (decimal (get_or book field 0)) (mark ∷ [])
    (subst (λ (v : ℕ). Put before at (decimal v) one i) (same ∙ ap (λ (k : ℕ). get_or book k 0) (zero-add field)) p)
    q

-- the four numbers of the first line
pub head_put : {before one two three after : List ℕ} {i j k next : ℕ} (book : List ℕ)
    → Put before 0 (decimal (get_or book 2 0) ++ (space ∷ [])) one i
    → Put one i (decimal (get_or book 3 0) ++ (space ∷ [])) two j
    → Put two j (decimal (get_or book 4 0) ++ (space ∷ [])) three k
    → Put three k (decimal (get_or book 5 0) ++ (line_feed ∷ [])) after next
    → Put before 0 (head_text book) after next
unfolding head_text first_line
head_put {before} {after = after} {next = next} book p q r s =
    let T : List ℕ = decimal (get_or book 2 0) ++ (space ∷ []) in
    let N : List ℕ = decimal (get_or book 3 0) ++ (space ∷ []) in
    let S : List ℕ = decimal (get_or book 4 0) ++ (space ∷ []) in
    let P : List ℕ = decimal (get_or book 5 0) ++ (line_feed ∷ []) in
    let whole : Put before 0 (T ++ (N ++ (S ++ P))) after next = put_then T (N ++ (S ++ P)) p (put_then N (S ++ P) q (put_then S P r s)) in
    simp append_assoc at whole

pub book_put : {before one after : List ℕ} {i next count : ℕ} (book : List ℕ)
    → Put before 0 (head_text book) one i
    → count ≡ get_or book 5 0
    → Put one i (records_text book count 6) after next
    → Put before 0 (book_text book) after next
unfolding book_text
book_put {one = one} {after = after} {i = i} {next = next} book p same q =
    put_then (head_text book) (records_text book (get_or book 5 0) 6) p (subst (λ (n : ℕ). Put one i (records_text book n 6) after next) same q)

-- numbers of one digit and of two
pub one_digit : (n : ℕ) → n < 10 → decimal n ≡ (48 + n) ∷ []
unfolding decimal last_digits digit
one_digit n low =
    let last : n % 10 ≡ n = omega arith in
    rw (lt-ltb n 10 low, last, lt-ltb n 10 low)

pub two_digits : (n : ℕ) → 10 ≤ n → n < 100 → decimal n ≡ (48 + n / 10) ∷ (48 + n % 10) ∷ []
unfolding decimal last_digits digit
two_digits zero high low = absurd (omega arith)
two_digits (suc m) high low =
    let n : ℕ = suc m in
    let tens : n / 10 < 10 = omega arith in
    let units : n % 10 < 10 = omega arith in
    let first : n / 10 % 10 ≡ n / 10 = omega arith in
    rw (le-ltb n 10 high, lt-ltb (n / 10) 10 tens, first, lt-ltb (n / 10) 10 tens, lt-ltb (n % 10) 10 units)

pub value_put : {before one after : List ℕ} {at i next : ℕ} (n : ℕ)
    → 10 ≤ n
    → n < 100
    → Put before at ((48 + n / 10) ∷ []) one i
    → Put one i ((48 + n % 10) ∷ []) after next
    → Put before at (decimal n) after next
value_put n high low p q = rw (two_digits n high low) (put_then ((48 + n / 10) ∷ []) ((48 + n % 10) ∷ []) p q)
