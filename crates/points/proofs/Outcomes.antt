-- What those who call `put` and `unite` learn: the set afterwards, by its number, by its members and by what it holds
-- exactly, and that the rest of the slice stays.
use mathlib.Core.Path.{◌≡◌, sym, ap, ◌∙◌}
use mathlib.Core.Bool.{◌||◌}
use mathlib.Core.Logic.{◌⊎◌}
use mathlib.Core.List.{List}
use Prim.Native.Nat.{ℕ, ◌+◌, ◌-◌, ◌/◌, ◌%◌, ◌≤◌, ◌<◌, min}
use native.Mathlib.Decide.{dec_lt}
use native.Mathlib.Omega.{arith}
use lib.Dec.{eqb}
use lib.ListN.{length, get_or, get_or-eq_default}
use lib.Seq.{ext_get_or}
use Rattle.sets.specs.Sets.{member, Exactly, united, added}
use Rattle.sets.specs.Words.{word_width, places, AreWords, value_of, united_words, added_words}
use Rattle.sets.proofs.Promise.{places_are, member_united, member_added, exactly_added, exactly_united, united_word, united_words_length, value_united, value_added}
use Rattle.points.specs.Points.{words_at, points_at, Put, Unite}
use Rattle.points.proofs.Flat.{words_at_length, word_at, word_past, words_at_words, words_set, written_there}
use Rattle.points.proofs.Stored.{stored_at_length, stored_at_words, stored_at_elsewhere, stored_at_added, stored_at_lacking, stored_at_united}

module _ {before : List ℕ} {at n place : ℕ} {after : List ℕ} (h : Put before at n place after) where
  pub put_length : length after ≡ length before
  put_length = rw h.content (stored_at_length before at n (added place (points_at before at n)))

  pub put_words : AreWords after
  put_words = rw h.content (stored_at_words before at n (added place (points_at before at n)) h.words)

  pub put_elsewhere : (from m : ℕ) → (from + m ≤ at) ⊎ (at + n ≤ from)
      → points_at after from m ≡ points_at before from m
  put_elsewhere from m apart =
      rw h.content (stored_at_elsewhere before at n (added place (points_at before at n)) from m apart)

  -- a place that the set does not have, or whose word lies past the end, changes nothing
  pub put_lacking : min n (length before - at) ≤ place / word_width → after ≡ before
  put_lacking lacking = h.content ∙ stored_at_lacking before at n place h.words lacking

  -- and any other is added
  pub put_there : place / word_width < min n (length before - at)
      → points_at after at n ≡ added place (points_at before at n)
  unfolding points_at added_words
  put_there there =
      let ws = words_at before at n in
      let i = place / word_width in
      let below : place < places (length ws) =
      omega (arith, places_are (length ws), words_at_length before at n) in
      let words : words_at after at n ≡ added_words place ws =
      rw (h.content, stored_at_added before at n place h.words (omega arith), ← (word_at before at n i (omega arith)))
      (words_set before at n i (added (place % word_width) (get_or ws i 0)) (omega arith) (omega arith)) in
      rw words (value_added ws (words_at_words before at n h.words) place below)

  -- a place of a set that lies within the slice
  module _ (inside : at + n ≤ length before) (below : place < places n) where
    pub put_adds : points_at after at n ≡ added place (points_at before at n)
    put_adds = put_there (omega (arith, places_are n))

    pub put_members : (k : ℕ) → member k (points_at after at n) ≡ member k (points_at before at n) || eqb k place
    put_members k = rw put_adds (member_added k place (points_at before at n))

    pub put_exactly : {P : ℕ → Type 0} → Exactly (places n) (points_at before at n) P
        → Exactly (places n) (points_at after at n) (λ (k : ℕ). P k ⊎ (k ≡ place))
    put_exactly exact = rw put_adds (exactly_added place below exact)

module _ {before : List ℕ} {at n : ℕ} {other : List ℕ} {from : ℕ} {after : List ℕ}
    (h : Unite before at n other from after) where
  pub unite_length : length after ≡ length before
  unite_length = rw h.content (stored_at_length before at n (united (points_at before at n) (points_at other from n)))

  pub unite_words : AreWords after
  unite_words =
      rw h.content (stored_at_words before at n (united (points_at before at n) (points_at other from n)) h.words)

  pub unite_elsewhere : (start m : ℕ) → (start + m ≤ at) ⊎ (at + n ≤ start)
      → points_at after start m ≡ points_at before start m
  unite_elsewhere start m apart =
      rw h.content
      (stored_at_elsewhere before at n (united (points_at before at n) (points_at other from n)) start m apart)

  -- each word that lies in the slice is united with its word of the other set
  pub unite_word : (j : ℕ) → j < n → at + j < length before
      → get_or after (at + j) 0 ≡ united (get_or before (at + j) 0) (get_or other (from + j) 0)
  unite_word j inside held =
      let xs = words_at before at n in
      let ys = words_at other from n in
      let short : j < length (united_words xs ys) =
      omega (arith, united_words_length xs ys, words_at_length before at n, words_at_length other from n) in
      rw (h.content, stored_at_united before at n other from h.words h.other_words)
      (written_there before at (united_words xs ys) j short held
      ∙ rw (united_word xs ys j, word_at before at n j inside, word_at other from n j inside))

  united_words_lem : words_at after at n
      ≡ united_words (words_at before at n) (words_at other from (min n (length before - at)))
  unfolding united
  united_words_lem =
      ext_get_or 0 (words_at after at n) (united_words xs ys) long
      (λ j short.
      let inside : j < n = omega (arith, words_at_length after at n) in
      word_at after at n j inside ∙ go j inside (dec_lt (at + j) (length before)) ∙ sym (united_word xs ys j))
    where
      m : ℕ
      m = min n (length before - at)

      xs : List ℕ
      xs = words_at before at n

      ys : List ℕ
      ys = words_at other from m

      long : length (words_at after at n) ≡ length (united_words xs ys)
      long =
          omega (arith, united_words_length xs ys, words_at_length after at n, words_at_length before at n, words_at_length other from m)

      go : (j : ℕ) → j < n → Dec (at + j < length before)
          → get_or after (at + j) 0 ≡ united (get_or xs j 0) (get_or ys j 0)
      go j inside (yes held) =
          rw (word_at before at n j inside, word_at other from m j (omega arith)) (unite_word j inside held)
      go j inside (no end) =
          let none : get_or before (at + j) 0 ≡ 0 = get_or-eq_default before 0 (omega arith) in
          rw (word_at before at n j inside, none, word_past other from m j (omega arith))
          (get_or-eq_default after 0 (omega (arith, unite_length)))

  -- so the set is united with those words of the other that the slice has room for
  pub unite_there : points_at after at n
      ≡ united (points_at before at n) (points_at other from (min n (length before - at)))
  unfolding points_at
  unite_there =
      let m = min n (length before - at) in
      ap value_of united_words_lem
      ∙ value_united (words_at before at n) (words_at other from m)
      (words_at_words before at n h.words) (words_at_words other from m h.other_words)

  -- a set that lies within the slice
  module _ (inside : at + n ≤ length before) where
    pub unite_unites : points_at after at n ≡ united (points_at before at n) (points_at other from n)
    unite_unites =
        let all : min n (length before - at) ≡ n = omega arith in
        rw all at unite_there

    pub unite_members : (k : ℕ)
        → member k (points_at after at n) ≡ member k (points_at before at n) || member k (points_at other from n)
    unite_members k = rw unite_unites (member_united k (points_at before at n) (points_at other from n))

    pub unite_exactly : {P Q : ℕ → Type 0} → Exactly (places n) (points_at before at n) P
        → Exactly (places n) (points_at other from n) Q
        → Exactly (places n) (points_at after at n) (λ (k : ℕ). P k ⊎ Q k)
    unite_exactly left right = rw unite_unites (exactly_united left right)
