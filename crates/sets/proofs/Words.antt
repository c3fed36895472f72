-- Numbers that are spelled by words, once over the number of words: how large they are, that words and number determine
-- each other, their members place by place, and what union and adding a place do to the words.
use mathlib.Core.Path.{◌≡◌, refl, sym, ap, ◌∙◌}
use mathlib.Core.Logic.{◌↔◌}
use mathlib.Core.List.{List, [], ◌∷◌}
use Prim.Native.Nat.{ℕ, zero, suc, ◌+◌, ◌-◌, ◌*◌, ◌/◌, ◌%◌, ◌^◌, ◌≤◌, ◌<◌, max}
use native.Mathlib.Nat.{mod-one, mod-lt, div-one, zero-add, div-add-mod}
use native.Mathlib.Decide.{dec_lt, ℕ_discrete}
use native.Mathlib.Omega.{arith}
use lib.Arith.{digits_lt, digits_div, digits_mod}
use lib.Bits.{bit_or, or_zero_r, or_block, block_half, block_odd}
use lib.ListN.{length, get_or, set, length-set}
use lib.Seq.{get_or-set_same, get_or-set_other, set_out}
use lib.Pow.{pow-add, mod-pow-add, shr-shr, split, high, low, pow_pos, pow-lt}
use Rattle.sets.specs.Sets.{member, united, only, added}
use Rattle.sets.specs.Words.{word_width, places, AreWords, value_of, words_of, united_words, added_words}
use Rattle.sets.proofs.Members.{member_none, member_next}
use Rattle.sets.proofs.Order.{united_fits, added_fits}

pub places_are : (n : ℕ) → places n ≡ word_width * n
unfolding places
places_are n = refl

places_more : (n : ℕ) → places (suc n) ≡ places n + word_width
unfolding places
places_more n = omega arith

power_more : (n : ℕ) → 2 ^ places (suc n) ≡ 2 ^ places n * 2 ^ word_width
power_more n = ap (λ (w : ℕ). 2 ^ w) (places_more n) ∙ pow-add 2 (places n) word_width

places_none : places 0 ≡ 0
unfolding places
places_none = refl

-- lists of words, and one of them replaced
pub no_words : AreWords []
no_words = record { fits = λ i. omega arith }

pub more_words : {x : ℕ} {xs : List ℕ} → x < 2 ^ word_width → AreWords xs → AreWords (x ∷ xs)
more_words {x} {xs} fits h = record { fits = each }
  where
    each : (i : ℕ) → get_or (x ∷ xs) i 0 < 2 ^ word_width
    each zero = fits
    each (suc i) = h.fits i

pub set_words : (ws : List ℕ) (j x : ℕ) → AreWords ws → x < 2 ^ word_width → AreWords (set ws j x)
set_words ws j x h fits = record { fits = λ i. go i (ℕ_discrete i j) (dec_lt j (length ws)) }
  where
    go : (i : ℕ) → Dec (i ≡ j) → Dec (j < length ws) → get_or (set ws j x) i 0 < 2 ^ word_width
    go i (no d) inside = rw (get_or-set_other ws j i x 0 d) (h.fits i)
    go i (yes e) (yes inside) = rw (e, get_or-set_same ws j x 0 inside) fits
    go i (yes e) (no n) = rw (set_out ws j x (omega arith)) (h.fits i)

-- the first of a list of words is a word, and the others are a list of words
first_word : (x : ℕ) (xs : List ℕ) → AreWords (x ∷ xs) → x < 2 ^ word_width
first_word x xs h = h.fits 0

other_words_lem : (x : ℕ) (xs : List ℕ) → AreWords (x ∷ xs) → AreWords xs
other_words_lem x xs h = record { fits = λ i. h.fits (suc i) }

pub value_fits : (ws : List ℕ) → AreWords ws → value_of ws < 2 ^ places (length ws)
unfolding value_of
value_fits [] h = rw places_none (omega arith)
value_fits (x ∷ xs) h =
    rw (power_more (length xs)) (digits_lt (value_fits xs (other_words_lem x xs h)) (first_word x xs h))

-- words and number determine each other
pub value_words : (n x : ℕ) → value_of (words_of n x) ≡ x % 2 ^ places n
unfolding value_of words_of
value_words zero x = rw places_none (sym (mod-one x))
value_words (suc n) x =
    rw (value_words n (x / 2 ^ word_width), places_more n) (sym (mod-pow-add x (places n) word_width))

pub words_value : (ws : List ℕ) → AreWords ws → words_of (length ws) (value_of ws) ≡ ws
unfolding value_of words_of
words_value [] h = refl
words_value (x ∷ xs) h =
    let fits : x < 2 ^ word_width = first_word x xs h in
    rw (digits_mod (value_of xs) fits, digits_div (value_of xs) fits, words_value xs (other_words_lem x xs h))

pub words_length : (n x : ℕ) → length (words_of n x) ≡ n
unfolding words_of
words_length zero x = refl
words_length (suc n) x = ap suc (words_length n (x / 2 ^ word_width))

word_fits : (n x i : ℕ) → get_or (words_of n x) i 0 < 2 ^ word_width
unfolding words_of
word_fits zero x i = omega arith
word_fits (suc n) x zero = mod-lt x (omega arith)
word_fits (suc n) x (suc i) = word_fits n (x / 2 ^ word_width) i

pub words_fit : (n x : ℕ) → AreWords (words_of n x)
words_fit n x = record { fits = word_fits n x }

-- equal numbers exactly if equal words
pub same_words : (xs ys : List ℕ) → AreWords xs → AreWords ys
    → length xs ≡ length ys
    → value_of xs ≡ value_of ys ↔ xs ≡ ys
same_words xs ys hx hy long =
    (λ same. sym (words_value xs hx) ∙ rw (long, same) (words_value ys hy), ap value_of)

-- the words of 0 are 0, and words that are 0 spell 0
pub value_none : (ws : List ℕ) → ((i : ℕ) → get_or ws i 0 ≡ 0) ↔ value_of ws ≡ 0
unfolding value_of
value_none ws = (spell ws, read ws)
  where
    spell : (ws : List ℕ) → ((i : ℕ) → get_or ws i 0 ≡ 0) → value_of ws ≡ 0
    spell [] empty = refl
    spell (x ∷ xs) empty = omega (arith, empty 0, spell xs (λ i. empty (suc i)))

    read : (ws : List ℕ) → value_of ws ≡ 0 → (i : ℕ) → get_or ws i 0 ≡ 0
    read [] none i = refl
    read (x ∷ xs) none zero = omega arith
    read (x ∷ xs) none (suc i) = read xs (omega arith) i

-- the members of a number, by those of its upper and its lower part
member_low : (w k hi lo : ℕ) → k < w → member k (hi * 2 ^ w + lo) ≡ member k lo
unfolding member
member_low zero k hi lo below = absurd (omega arith)
member_low (suc w) zero hi lo below = simp (div-one, block_odd hi w lo)
member_low (suc w) (suc k) hi lo below =
    rw (member_next k (hi * 2 ^ suc w + lo), member_next k lo, block_half hi w lo)
    (member_low w k hi (lo / 2) (omega arith))

member_high : (w k hi lo : ℕ) → lo < 2 ^ w → member (w + k) (hi * 2 ^ w + lo) ≡ member k hi
unfolding member
member_high w k hi lo below = rw (← (shr-shr (hi * 2 ^ w + lo) w k), high hi w below)

-- place r of word j
pub member_place : (ws : List ℕ) → AreWords ws
    → (j r : ℕ) → r < word_width → member (word_width * j + r) (value_of ws) ≡ member r (get_or ws j 0)
unfolding value_of
member_place [] h j r below = member_none (word_width * j + r) ∙ sym (member_none r)
member_place (x ∷ xs) h zero r below = rw zero-add (member_low word_width r (value_of xs) x below)
member_place (x ∷ xs) h (suc j) r below =
    let next : word_width * suc j + r ≡ word_width + (word_width * j + r) = omega arith in
    rw (next, member_high word_width (word_width * j + r) (value_of xs) x (first_word x xs h))
    (member_place xs (other_words_lem x xs h) j r below)

pub member_value : (ws : List ℕ) → AreWords ws
    → (k : ℕ) → member k (value_of ws) ≡ member (k % word_width) (get_or ws (k / word_width) 0)
member_value ws h k =
    ap (λ (p : ℕ). member p (value_of ws)) (sym (div-add-mod k word_width))
    ∙ member_place ws h (k / word_width) (k % word_width) (mod-lt k (omega arith))

-- union word by word
pub united_word : (xs ys : List ℕ) (i : ℕ) → get_or (united_words xs ys) i 0 ≡ united (get_or xs i 0) (get_or ys i 0)
unfolding united_words united
united_word [] ys i = refl
united_word (x ∷ xs) [] i = sym (or_zero_r (get_or (x ∷ xs) i 0))
united_word (x ∷ xs) (y ∷ ys) zero = refl
united_word (x ∷ xs) (y ∷ ys) (suc i) = united_word xs ys i

pub united_words_length : (xs ys : List ℕ) → length (united_words xs ys) ≡ max (length xs) (length ys)
unfolding united_words
united_words_length [] ys = omega arith
united_words_length (x ∷ xs) [] = omega arith
united_words_length (x ∷ xs) (y ∷ ys) = omega (arith, united_words_length xs ys)

pub united_words_fit : (xs ys : List ℕ) → AreWords xs → AreWords ys → AreWords (united_words xs ys)
united_words_fit xs ys hx hy =
    record {
      fits = λ i.
          rw (united_word xs ys i) (united_fits word_width (get_or xs i 0) (get_or ys i 0) (hx.fits i) (hy.fits i));
    }

pub value_united : (xs ys : List ℕ) → AreWords xs → AreWords ys
    → value_of (united_words xs ys) ≡ united (value_of xs) (value_of ys)
unfolding united_words value_of united
value_united [] ys hx hy = refl
value_united (x ∷ xs) [] hx hy = sym (or_zero_r (value_of xs * 2 ^ word_width + x))
value_united (x ∷ xs) (y ∷ ys) hx hy =
    rw (value_united xs ys (other_words_lem x xs hx) (other_words_lem y ys hy))
    (sym (or_block word_width (value_of xs) (value_of ys) x y (first_word x xs hx) (first_word y ys hy)))

-- a place added to the lower or to the upper part of a number
added_low : (w k hi lo : ℕ) → k < w → lo < 2 ^ w → added k (hi * 2 ^ w + lo) ≡ hi * 2 ^ w + added k lo
unfolding added united only
added_low w k hi lo below fits =
    let alone : 2 ^ k ≡ 0 * 2 ^ w + 2 ^ k = omega arith in
    ap (bit_or (hi * 2 ^ w + lo)) alone ∙ or_block w hi 0 lo (2 ^ k) fits (pow-lt below)
    ∙ ap (λ (x : ℕ). x * 2 ^ w + bit_or lo (2 ^ k)) (or_zero_r hi)

added_high : (w k hi lo : ℕ) → lo < 2 ^ w → added (w + k) (hi * 2 ^ w + lo) ≡ added k hi * 2 ^ w + lo
unfolding added united only
added_high w k hi lo fits =
    let shifted : 2 ^ (w + k) ≡ 2 ^ k * 2 ^ w + 0 = omega (arith, pow-add 2 w k) in
    ap (bit_or (hi * 2 ^ w + lo)) shifted ∙ or_block w hi (2 ^ k) lo 0 fits (pow_pos w)
    ∙ ap (λ (x : ℕ). bit_or hi (2 ^ k) * 2 ^ w + x) (or_zero_r lo)

-- a place added in its word: place r of word j
value_added_at : (ws : List ℕ) → AreWords ws
    → (j r : ℕ) → j < length ws → r < word_width
    → value_of (set ws j (added r (get_or ws j 0))) ≡ added (word_width * j + r) (value_of ws)
unfolding value_of
value_added_at [] h j r inside below = absurd (omega arith)
value_added_at (x ∷ xs) h zero r inside below =
    rw zero-add (sym (added_low word_width r (value_of xs) x below (first_word x xs h)))
value_added_at (x ∷ xs) h (suc j) r inside below =
    let next : word_width * suc j + r ≡ word_width + (word_width * j + r) = omega arith in
    rw (next, value_added_at xs (other_words_lem x xs h) j r (omega arith) below)
    (sym (added_high word_width (word_width * j + r) (value_of xs) x (first_word x xs h)))

pub value_added : (ws : List ℕ) → AreWords ws
    → (k : ℕ) → k < places (length ws)
    → value_of (added_words k ws) ≡ added k (value_of ws)
unfolding added_words places
value_added ws h k below =
    value_added_at ws h (k / word_width) (k % word_width) (omega arith) (omega arith)
    ∙ ap (λ (p : ℕ). added p (value_of ws)) (div-add-mod k word_width)

pub added_words_length : (k : ℕ) (ws : List ℕ) → length (added_words k ws) ≡ length ws
unfolding added_words
added_words_length k ws = length-set ws (k / word_width) (added (k % word_width) (get_or ws (k / word_width) 0))

pub added_words_fit : (k : ℕ) (ws : List ℕ) → AreWords ws → AreWords (added_words k ws)
unfolding added_words
added_words_fit k ws h =
    let word = get_or ws (k / word_width) 0 in
    set_words ws (k / word_width) (added (k % word_width) word) h
    (added_fits word_width (k % word_width) word (omega arith) (h.fits (k / word_width)))

-- a place past the words is not among them
pub words_past : (n k x : ℕ) → places n ≤ k → words_of n (added k x) ≡ words_of n x
words_past n k x past =
    let w = places n in
    let there : w + (k - w) ≡ k = omega arith in
    let below : x % 2 ^ w < 2 ^ w = mod-lt x (pow_pos w) in
    let higher : added k x ≡ added (k - w) (x / 2 ^ w) * 2 ^ w + x % 2 ^ w =
    rw there at (rw (split x w) at (added_high w (k - w) (x / 2 ^ w) (x % 2 ^ w) below)) in
    let values : value_of (words_of n (added k x)) ≡ value_of (words_of n x) =
    value_words n (added k x) ∙ rw higher (low (added (k - w) (x / 2 ^ w)) w below) ∙ sym (value_words n x) in
    (same_words (words_of n (added k x)) (words_of n x) (words_fit n (added k x)) (words_fit n x)
    (words_length n (added k x) ∙ sym (words_length n x))).0 values
