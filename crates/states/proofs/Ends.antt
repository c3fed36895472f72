-- The lowest end in a set: what it says, and where it is found word by word.
use mathlib.Core.Path.{◌≡◌, refl, sym, ◌∙◌}
use mathlib.Core.Bool.{true, false, cond}
use mathlib.Core.List.{List}
use Prim.Native.Nat.{ℕ, zero, suc, ◌+◌, ◌-◌, ◌*◌, ◌/◌, ◌%◌, ◌≤◌, ◌<◌}
use native.Mathlib.Decide.{dec_lt}
use native.Mathlib.Omega.{arith}
use lib.Dec.{ltb}
use lib.ListN.{get_or}
use borrow.Author.Tests.{lt-ltb, le-ltb}
use Rattle.std.proofs.lemmas.Bool.{false_from_ne_true}
use Rattle.sets.specs.Sets.{member}
use Rattle.sets.specs.Words.{word_width, AreWords}
use Rattle.answers.specs.Lowest.{LowestAt}
use Rattle.points.proofs.Promise.{member_points}
use Rattle.answers.specs.Limits.{most_patterns, most_positions, position_words, point_words}
use Rattle.moves.specs.Tables.{set_of}
use Rattle.states.specs.Machine.{no_cell, lowest_end, token_of}
use Rattle.states.specs.Filling.{end_cell}

-- the end of which every lower one is not in the set
pub end_lowest : (x k n j : ℕ) → k ≤ j → j < k + n
    → member (most_positions + j) x ≡ true
    → ((i : ℕ) → k ≤ i → i < j → member (most_positions + i) x ≡ false)
    → lowest_end x k n ≡ j
unfolding lowest_end
end_lowest x k zero j low high there lower = absurd (omega arith)
end_lowest x k (suc n) j low high there lower = go (end_lowest x (suc k) n j) (dec_lt k j)
  where
    go : (suc k ≤ j → j < suc k + n → member (most_positions + j) x ≡ true
        → ((i : ℕ) → suc k ≤ i → i < j → member (most_positions + i) x ≡ false)
        → lowest_end x (suc k) n ≡ j)
        → Dec (k < j)
        → cond (member (most_positions + k) x) k (lowest_end x (suc k) n) ≡ j
    go rest (yes before) =
        rw (lower k (omega arith) before)
        (rest before (omega arith) there (λ i above below. lower i (omega arith) below))
    go rest (no here) =
        let same : k ≡ j = omega arith in
        rw (same, there)

-- and none, if no end is
pub end_none : (x k n : ℕ) → ((i : ℕ) → k ≤ i → i < k + n → member (most_positions + i) x ≡ false)
    → lowest_end x k n ≡ no_cell
unfolding lowest_end
end_none x k zero none = refl
end_none x k (suc n) none =
    rw (none k (omega arith) (omega arith)) (end_none x (suc k) n (λ i above below. none i (omega arith) (omega arith)))

-- the first end of the set, in the cell that it has
pub token_end : (x j : ℕ) → member (most_positions + j) x ≡ true
    → ((i : ℕ) → i < j → member (most_positions + i) x ≡ false)
    → end_cell j ≡ token_of x
unfolding token_of end_cell
token_end x j there lower = go (dec_lt j most_patterns)
  where
    go : Dec (j < most_patterns) → cond (ltb j most_patterns) j no_cell ≡ lowest_end x 0 most_patterns
    go (yes inside) =
        rw (lt-ltb j most_patterns inside)
        (sym (end_lowest x 0 most_patterns j (omega arith) (omega arith) there (λ i above below. lower i below)))
    go (no past) =
        rw (le-ltb j most_patterns (omega arith))
        (sym (end_none x 0 most_patterns (λ i above below. lower i (omega arith))))

-- no end in the words before word i
abbrev pub NoEnd : List ℕ → ℕ → ℕ → Type 0
NoEnd sets s i = (k : ℕ) → k < (i - position_words) * word_width → member (most_positions + k) (set_of sets s) ≡ false

module _ (sets : List ℕ) (s : ℕ) (hs : AreWords sets) where
  -- end k in word i
  here : (i k : ℕ) → position_words ≤ i → i < point_words → (i - position_words) * word_width ≤ k
      → k < (i - position_words) * word_width + word_width
      → member (most_positions + k) (set_of sets s)
      ≡ member (k - (i - position_words) * word_width) (get_or sets (s * point_words + i) 0)
  unfolding set_of
  here i k from inside low high =
      let word : (most_positions + k) / word_width ≡ i = omega arith in
      let place : (most_positions + k) % word_width ≡ k - (i - position_words) * word_width = omega arith in
      member_points sets (s * point_words) point_words (most_positions + k) hs (omega arith) ∙ rw (word, place)

  module _ (i : ℕ) (from : position_words ≤ i) (inside : i < point_words) (before : NoEnd sets s i) where
    -- no end is lower than where the word has no member yet
    lower : (bit : ℕ) → bit ≤ word_width → ((k : ℕ) → k < bit → ¬ (member k (get_or sets (s * point_words + i) 0) ≡ true))
        → (k : ℕ) → k < (i - position_words) * word_width + bit
        → member (most_positions + k) (set_of sets s) ≡ false
    lower bit short none k below = go (dec_lt k ((i - position_words) * word_width))
      where
        go : Dec (k < (i - position_words) * word_width) → member (most_positions + k) (set_of sets s) ≡ false
        go (yes early) = before k early
        go (no late) =
            here i k from inside (omega arith) (omega arith)
            ∙ false_from_ne_true (member (k - (i - position_words) * word_width) (get_or sets (s * point_words + i) 0))
            (none (k - (i - position_words) * word_width) (omega arith))

    pub ends_found : {bit : ℕ} → LowestAt (λ (k : ℕ). member k (get_or sets (s * point_words + i) 0) ≡ true) word_width bit
        → end_cell ((i - position_words) * word_width + bit) ≡ token_of (set_of sets s)
    ends_found {bit} lowest =
        let end = (i - position_words) * word_width + bit in
        let short : bit < word_width = lowest.inside in
        let place : end - (i - position_words) * word_width ≡ bit = omega arith in
        token_end (set_of sets s) end (here i end from inside (omega arith) (omega arith) ∙ rw place lowest.holds)
        (lower bit (omega arith) lowest.earlier)

    pub ends_more : ((k : ℕ) → k < word_width → ¬ (member k (get_or sets (s * point_words + i) 0) ≡ true)) → NoEnd sets s (i + 1)
    ends_more none k below = lower word_width (omega arith) none k (omega arith)

pub ends_none : (sets : List ℕ) (s i : ℕ) → point_words ≤ i → NoEnd sets s i → no_cell ≡ token_of (set_of sets s)
unfolding token_of
ends_none sets s i all none = sym (end_none (set_of sets s) 0 most_patterns (λ k above below. none k (omega arith)))
