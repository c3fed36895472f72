-- The set at a place of a slice: its members by its words, and the slice after a set was stored.
use mathlib.Core.Path.{◌≡◌, ap, ◌∙◌}
use mathlib.Core.Bool.{false}
use mathlib.Core.Logic.{◌≢◌, ◌⊎◌, inl, inr, ⊎_elim}
use mathlib.Core.List.{List}
use Prim.Native.Nat.{ℕ, ◌+◌, ◌-◌, ◌*◌, ◌/◌, ◌%◌, ◌^◌, ◌≤◌, ◌<◌, min}
use native.Mathlib.Nat.{zero-add, mul-le-mul_right, mod-eq_of_lt}
use native.Mathlib.Decide.{dec_lt}
use native.Mathlib.Omega.{arith}
use lib.ListN.{length, get_or, set, get_or-eq_default}
use lib.Seq.{sets as written, length-sets, ext_get_or, set_out}
use Rattle.sets.specs.Sets.{member, united, added}
use Rattle.sets.specs.Words.{word_width, places, AreWords, value_of, words_of, united_words, added_words}
use Rattle.sets.proofs.Promise.{places_are, member_none, value_fits, value_words, words_value, words_length, words_fit, words_past, member_value, united_words_length, united_words_fit, value_united, added_words_length, added_words_fit, value_added}
use Rattle.points.specs.Points.{words_at, points_at, stored_at}
use Rattle.points.proofs.Flat.{words_at_length, word_at, word_past, words_at_words, words_alike, written_back, written_one, written_words, written_before, written_after, words_written}

-- a slice that is one set
pub points_whole : (ws : List ℕ) → points_at ws 0 (length ws) ≡ value_of ws
unfolding points_at
points_whole ws = ap value_of (ext_get_or 0 (words_at ws 0 (length ws)) ws (words_at_length ws 0 (length ws)) same)
  where
    same : (j : ℕ) → j < length (words_at ws 0 (length ws)) → get_or (words_at ws 0 (length ws)) j 0 ≡ get_or ws j 0
    same j inside =
        word_at ws 0 (length ws) j (omega (arith, words_at_length ws 0 (length ws)))
        ∙ ap (λ (i : ℕ). get_or ws i 0) (zero-add j)

pub points_fit : (l : List ℕ) (at n : ℕ) → AreWords l → points_at l at n < 2 ^ places n
unfolding points_at
points_fit l at n h = rw (words_at_length l at n) at (value_fits (words_at l at n) (words_at_words l at n h))

pub points_alike : (l k : List ℕ) (at from n : ℕ)
    → ((j : ℕ) → j < n → get_or l (at + j) 0 ≡ get_or k (from + j) 0)
    → points_at l at n ≡ points_at k from n
unfolding points_at
points_alike l k at from n alike = ap value_of (words_alike l k at from n alike)

-- a place of the set is a place of one of its words
pub member_points : (l : List ℕ) (at n k : ℕ) → AreWords l
    → k / word_width < n
    → member k (points_at l at n) ≡ member (k % word_width) (get_or l (at + k / word_width) 0)
unfolding points_at
member_points l at n k h inside =
    rw (member_value (words_at l at n) (words_at_words l at n h) k, word_at l at n (k / word_width) inside)

-- a place that the set does not have, or whose word lies past the end, is no member
pub member_lacking : (l : List ℕ) (at n k : ℕ) → AreWords l
    → min n (length l - at) ≤ k / word_width
    → member k (points_at l at n) ≡ false
unfolding points_at
member_lacking l at n k h lacking =
    rw (member_value (words_at l at n) (words_at_words l at n h) k, none (dec_lt (k / word_width) n))
    (member_none (k % word_width))
  where
    none : Dec (k / word_width < n) → get_or (words_at l at n) (k / word_width) 0 ≡ 0
    none (yes inside) = word_at l at n (k / word_width) inside ∙ get_or-eq_default l 0 (omega arith)
    none (no past) = word_past l at n (k / word_width) (omega arith)

pub stored_at_length : (l : List ℕ) (at n x : ℕ) → length (stored_at l at n x) ≡ length l
unfolding stored_at
stored_at_length l at n x = length-sets l at (words_of n x)

pub stored_at_words : (l : List ℕ) (at n x : ℕ) → AreWords l → AreWords (stored_at l at n x)
unfolding stored_at
stored_at_words l at n x h = written_words l at (words_of n x) h (words_fit n x)

-- the words outside the stored set stay
pub stored_at_before : (l : List ℕ) (at n x i : ℕ) → i < at → get_or (stored_at l at n x) i 0 ≡ get_or l i 0
unfolding stored_at
stored_at_before l at n x i before = written_before l at (words_of n x) i before

pub stored_at_after : (l : List ℕ) (at n x i : ℕ) → at + n ≤ i → get_or (stored_at l at n x) i 0 ≡ get_or l i 0
unfolding stored_at
stored_at_after l at n x i after = written_after l at (words_of n x) i (omega (arith, words_length n x))

-- and so does a set that shares no word with it
pub stored_at_elsewhere : (l : List ℕ) (at n x from m : ℕ) → (from + m ≤ at) ⊎ (at + n ≤ from)
    → points_at (stored_at l at n x) from m ≡ points_at l from m
stored_at_elsewhere l at n x from m apart =
    points_alike (stored_at l at n x) l from from m
    (λ j inside.
    ⊎_elim (λ before. stored_at_before l at n x (from + j) (omega arith))
    (λ after. stored_at_after l at n x (from + j) (omega arith))
    apart)

-- sets of n words that are kept one behind the other share no word
pub rows_apart : (n i j : ℕ) → i ≢ j → (i * n + n ≤ j * n) ⊎ (j * n + n ≤ i * n)
rows_apart n i j other = go (dec_lt i j)
  where
    go : Dec (i < j) → (i * n + n ≤ j * n) ⊎ (j * n + n ≤ i * n)
    go (yes before) = inl (omega (arith, mul-le-mul_right n before))
    go (no after) =
        let before : j < i = omega arith in
        inr (omega (arith, mul-le-mul_right n before))

-- within the slice the stored set is there
pub stored_at_there : (l : List ℕ) (at n x : ℕ) → at + n ≤ length l → x < 2 ^ places n
    → points_at (stored_at l at n x) at n ≡ x
unfolding points_at stored_at
stored_at_there l at n x inside fits =
    let words : words_at (written l at (words_of n x)) at n ≡ words_of n x =
    rw (words_length n x) at (words_written l at (words_of n x) (omega (arith, words_length n x))) in
    rw (words, value_words n x) (mod-eq_of_lt fits)

-- n words are those of the number that they spell
spelled : (n : ℕ) (ws : List ℕ) → length ws ≡ n → AreWords ws → words_of n (value_of ws) ≡ ws
spelled n ws long h = rw (← long) (words_value ws h)

pub stored_at_back : (l : List ℕ) (at n : ℕ) → AreWords l → stored_at l at n (points_at l at n) ≡ l
unfolding points_at stored_at
stored_at_back l at n h =
    rw (spelled n (words_at l at n) (words_at_length l at n) (words_at_words l at n h)) (written_back l at n)

-- a place that the set has is added in its word
pub stored_at_added : (l : List ℕ) (at n k : ℕ) → AreWords l
    → k / word_width < n
    → stored_at l at n (added k (points_at l at n))
    ≡ set l (at + k / word_width) (added (k % word_width) (get_or l (at + k / word_width) 0))
unfolding points_at stored_at added_words
stored_at_added l at n k h inside =
    let ws = words_at l at n in
    let fit : AreWords ws = words_at_words l at n h in
    let long : length (added_words k ws) ≡ n = added_words_length k ws ∙ words_at_length l at n in
    let below : k < places (length ws) = omega (arith, words_at_length l at n, places_are (length ws)) in
    let words : words_of n (added k (value_of ws)) ≡ added_words k ws =
    rw (← (value_added ws fit k below)) (spelled n (added_words k ws) long (added_words_fit k ws fit)) in
    rw (words, word_at l at n (k / word_width) inside) (written_one l at n (k / word_width) _ inside)

-- and any other place changes nothing
pub stored_at_lacking : (l : List ℕ) (at n k : ℕ) → AreWords l
    → min n (length l - at) ≤ k / word_width
    → stored_at l at n (added k (points_at l at n)) ≡ l
unfolding stored_at
stored_at_lacking l at n k h lacking = go (dec_lt (k / word_width) n)
  where
    dropped : places n ≤ k → stored_at l at n (added k (points_at l at n)) ≡ stored_at l at n (points_at l at n)
    dropped past = rw (words_past n k (points_at l at n) past)

    go : Dec (k / word_width < n) → stored_at l at n (added k (points_at l at n)) ≡ l
    go (yes inside) = stored_at_added l at n k h inside ∙ set_out l (at + k / word_width) _ (omega arith)
    go (no past) = dropped (omega (arith, places_are n)) ∙ stored_at_back l at n h

-- a union is written word by word
pub stored_at_united : (l : List ℕ) (at n : ℕ) (o : List ℕ) (from : ℕ) → AreWords l → AreWords o
    → stored_at l at n (united (points_at l at n) (points_at o from n))
    ≡ written l at (united_words (words_at l at n) (words_at o from n))
unfolding points_at stored_at
stored_at_united l at n o from hl ho =
    let xs = words_at l at n in
    let ys = words_at o from n in
    let hx : AreWords xs = words_at_words l at n hl in
    let hy : AreWords ys = words_at_words o from n ho in
    let long : length (united_words xs ys) ≡ n =
    omega (arith, united_words_length xs ys, words_at_length l at n, words_at_length o from n) in
    rw (← (value_united xs ys hx hy), spelled n (united_words xs ys) long (united_words_fit xs ys hx hy))
