-- Sets that are compared: two sets are the same exactly if their words are, a set has no member exactly if its words are 0,
-- and what is enough to look at where slices end.
use mathlib.Core.Path.{◌≡◌, sym, ap, ◌∙◌}
use mathlib.Core.Bool.{Bool, true, false, true≢false}
use mathlib.Core.Logic.{◌↔◌}
use mathlib.Core.List.{List}
use Prim.Native.Nat.{ℕ, ◌+◌, ◌-◌, ◌≤◌, ◌<◌, min}
use native.Mathlib.Nat.{add_assoc}
use native.Mathlib.Decide.{dec_lt}
use native.Mathlib.Omega.{arith}
use lib.ListN.{length, get_or, get_or-eq_default}
use Rattle.sets.specs.Calls.{Decides}
use Rattle.sets.specs.Words.{AreWords, value_of}
use Rattle.sets.proofs.Promise.{same_words, value_none, decided, decides_true, decides_unique}
use Rattle.points.specs.Points.{words_at, points_at}
use Rattle.points.proofs.Flat.{words_at_length, word_at, word_past, words_at_words, words_alike}

pub points_same : (l : List ℕ) (at : ℕ) (o : List ℕ) (from n : ℕ) → AreWords l → AreWords o
    → ((j : ℕ) → j < n → get_or l (at + j) 0 ≡ get_or o (from + j) 0) ↔ points_at l at n ≡ points_at o from n
unfolding points_at
points_same l at o from n hl ho = (λ alike. ap value_of (words_alike l o at from n alike), each)
  where
    words : value_of (words_at l at n) ≡ value_of (words_at o from n) → words_at l at n ≡ words_at o from n
    words =
        (same_words (words_at l at n) (words_at o from n) (words_at_words l at n hl) (words_at_words o from n ho)
        (words_at_length l at n ∙ sym (words_at_length o from n))).0

    each : value_of (words_at l at n) ≡ value_of (words_at o from n)
        → (j : ℕ) → j < n → get_or l (at + j) 0 ≡ get_or o (from + j) 0
    each same j inside =
        sym (word_at l at n j inside) ∙ ap (λ (ws : List ℕ). get_or ws j 0) (words same) ∙ word_at o from n j inside

pub points_none : (l : List ℕ) (at n : ℕ) → ((j : ℕ) → j < n → get_or l (at + j) 0 ≡ 0) ↔ points_at l at n ≡ 0
unfolding points_at
points_none l at n = (λ empty. (value_none (words_at l at n)).0 (λ j. word empty j (dec_lt j n)), each)
  where
    word : ((j : ℕ) → j < n → get_or l (at + j) 0 ≡ 0) → (j : ℕ) → Dec (j < n) → get_or (words_at l at n) j 0 ≡ 0
    word empty j (yes inside) = word_at l at n j inside ∙ empty j inside
    word empty j (no past) = word_past l at n j (omega arith)

    each : value_of (words_at l at n) ≡ 0 → (j : ℕ) → j < n → get_or l (at + j) 0 ≡ 0
    each none j inside = sym (word_at l at n j inside) ∙ (value_none (words_at l at n)).1 none j

-- it is enough to look at the words that lie in the slice
pub none_held : (l : List ℕ) (at n i : ℕ)
    → min n (length l - at) ≤ i
    → ((j : ℕ) → j < i → get_or l (at + j) 0 ≡ 0)
    → points_at l at n ≡ 0
none_held l at n i held seen = (points_none l at n).0 (λ j inside. go j inside (dec_lt j i))
  where
    go : (j : ℕ) → j < n → Dec (j < i) → get_or l (at + j) 0 ≡ 0
    go j inside (yes before) = seen j before
    go j inside (no past) = get_or-eq_default l 0 (omega arith)

-- the words of a set past its first i, where these have no member
rest_none : (l : List ℕ) (at n i : ℕ) → points_at l (at + i) (n - i) ≡ 0
    → (j : ℕ) → i ≤ j → j < n → get_or l (at + j) 0 ≡ 0
rest_none l at n i none j past inside =
    let there : at + i + (j - i) ≡ at + j = omega arith in
    rw there at ((points_none l (at + i) (n - i)).1 none (j - i) (omega arith))

-- two sets with the same first i words, past which the sets or either slice have ended, are the same exactly if neither has
-- a member past these words
module _ (l : List ℕ) (at : ℕ) (o : List ℕ) (from n i : ℕ) (hl : AreWords l) (ho : AreWords o)
    (seen : (j : ℕ) → j < i → get_or l (at + j) 0 ≡ get_or o (from + j) 0)
    (held : min (min n (length l - at)) (length o - from) ≤ i) where
  same_rest : points_at l (at + i) (n - i) ≡ 0 → points_at o (from + i) (n - i) ≡ 0
      → points_at l at n ≡ points_at o from n
  same_rest left right = (points_same l at o from n hl ho).0 (λ j inside. go j inside (dec_lt j i))
    where
      go : (j : ℕ) → j < n → Dec (j < i) → get_or l (at + j) 0 ≡ get_or o (from + j) 0
      go j inside (yes before) = seen j before
      go j inside (no past) =
          rest_none l at n i left j (omega arith) inside ∙ sym (rest_none o from n i right j (omega arith) inside)

  words_none : points_at l at n ≡ points_at o from n
      → (j : ℕ) → i ≤ j → j < n → (get_or l (at + j) 0 ≡ 0) × (get_or o (from + j) 0 ≡ 0)
  words_none same j past inside = go (dec_lt (at + j) (length l))
    where
      alike : get_or l (at + j) 0 ≡ get_or o (from + j) 0
      alike = (points_same l at o from n hl ho).1 same j inside

      go : Dec (at + j < length l) → (get_or l (at + j) 0 ≡ 0) × (get_or o (from + j) 0 ≡ 0)
      go (yes there) =
          let none : get_or o (from + j) 0 ≡ 0 = get_or-eq_default o 0 (omega arith) in
          (alike ∙ none, none)
      go (no end) =
          let none : get_or l (at + j) 0 ≡ 0 = get_or-eq_default l 0 (omega arith) in
          (none, sym alike ∙ none)

  left_none : points_at l at n ≡ points_at o from n → points_at l (at + i) (n - i) ≡ 0
  left_none same =
      (points_none l (at + i) (n - i)).0
      (λ j inside. rw (add_assoc at i j) (words_none same (i + j) (omega arith) (omega arith)).0)

  right_none : points_at l at n ≡ points_at o from n → points_at o (from + i) (n - i) ≡ 0
  right_none same =
      (points_none o (from + i) (n - i)).0
      (λ j inside. rw (add_assoc from i j) (words_none same (i + j) (omega arith) (omega arith)).1)

  -- so the answer for the rest of the first set decides where it is false, and else the answer for the second
  pub first_decides : (r : Bool) → Decides r (points_at l (at + i) (n - i) ≡ 0)
      → r ≡ false
      → Decides r (points_at l at n ≡ points_at o from n)
  first_decides r first told =
      decided r (λ holds. absurd (true≢false (sym holds ∙ told)))
      (λ same. decides_unique (points_at l (at + i) (n - i) ≡ 0) r true first (left_none same))

  pub second_decides : (r r' : Bool) → Decides r (points_at l (at + i) (n - i) ≡ 0)
      → r ≡ true
      → Decides r' (points_at o (from + i) (n - i) ≡ 0)
      → Decides r' (points_at l at n ≡ points_at o from n)
  second_decides r r' first told second =
      let left : points_at l (at + i) (n - i) ≡ 0 = decides_true (points_at l (at + i) (n - i) ≡ 0) r first told in
      decided r' (λ holds. same_rest left (decides_true (points_at o (from + i) (n - i) ≡ 0) r' second holds))
      (λ same. decides_unique (points_at o (from + i) (n - i) ≡ 0) r' true second (right_none same))
