-- A union that is written word by word: the next word, and that nothing is left where either set has no word.
use mathlib.Core.Path.{◌≡◌, refl, sym}
use mathlib.Core.List.{List}
use Prim.Native.Nat.{ℕ, zero, suc, ◌+◌, ◌-◌, ◌≤◌, ◌<◌, min}
use native.Mathlib.Nat.{add-suc}
use native.Mathlib.Numerals.{add-one}
use native.Mathlib.Decide.{dec_lt}
use native.Mathlib.Omega.{arith}
use lib.Bits.{or_zero_r}
use lib.ListN.{length, get_or, set, get_or-eq_default}
use lib.Seq.{sets as written}
use Rattle.sets.specs.Sets.{united}
use Rattle.sets.specs.Words.{AreWords, united_words}
use Rattle.points.specs.Points.{words_at, points_at, stored_at}
use Rattle.points.proofs.Flat.{words_before, written_back, written_past}
use Rattle.points.proofs.Stored.{stored_at_united}

-- a slice whose n words from `at` on are united with those of another slice from `from` on
unfoldable pub united_from : List ℕ → ℕ → ℕ → List ℕ → ℕ → List ℕ
united_from l at n o from = written l at (united_words (words_at l at n) (words_at o from n))

pub united_whole : (l : List ℕ) (at n : ℕ) (o : List ℕ) (from : ℕ) → AreWords l → AreWords o
    → united_from l at n o from ≡ stored_at l at n (united (points_at l at n) (points_at o from n))
unfolding united_from
united_whole l at n o from hl ho = sym (stored_at_united l at n o from hl ho)

united_more : (l : List ℕ) (at n : ℕ) (o : List ℕ) (from : ℕ)
    → united_from l at (suc n) o from
    ≡ united_from (set l at (united (get_or l at 0) (get_or o from 0))) (suc at) n o (suc from)
unfolding united_from words_at united_words
united_more l at n o from =
    rw (words_before l at (united (get_or l at 0) (get_or o from 0)) (suc at) n (omega arith))

-- where the other slice has ended its words are 0
united_past : (l : List ℕ) (at n : ℕ) (o : List ℕ) (from : ℕ) → length o ≤ from
    → united_words (words_at l at n) (words_at o from n) ≡ words_at l at n
unfolding united_words words_at united
united_past l at zero o from past = refl
united_past l at (suc n) o from past =
    let none : get_or o from 0 ≡ 0 = get_or-eq_default o 0 past in
    rw (none, united_past l (suc at) n o (suc from) (omega arith), or_zero_r (get_or l at 0))

-- what is left after i words is what is left after one word more, with word i united
pub united_next : (l : List ℕ) (at n i : ℕ) (o : List ℕ) (from : ℕ) → i < n
    → united_from (set l (at + i) (united (get_or l (at + i) 0) (get_or o (from + i) 0)))
    (at + (i + 1)) (n - (i + 1)) o (from + (i + 1))
    ≡ united_from l (at + i) (n - i) o (from + i)
united_next l at n i o from inside =
    let left : n - i ≡ suc (n - suc i) = omega arith in
    rw (left, add-one i, add-suc at i, add-suc from i) (sym (united_more l (at + i) (n - suc i) o (from + i)))

-- nothing is left once the set's words or either slice have ended
pub united_all : (l : List ℕ) (at n i : ℕ) (o : List ℕ) (from : ℕ)
    → min (min n (length l - at)) (length o - from) ≤ i
    → united_from l (at + i) (n - i) o (from + i) ≡ l
unfolding united_from words_at united_words
united_all l at n i o from held = go (dec_lt (at + i) (length l)) (dec_lt (from + i) (length o))
  where
    go : Dec (at + i < length l) → Dec (from + i < length o)
        → written l (at + i) (united_words (words_at l (at + i) (n - i)) (words_at o (from + i) (n - i))) ≡ l
    go (no end) other =
        written_past l (at + i) (united_words (words_at l (at + i) (n - i)) (words_at o (from + i) (n - i))) (omega arith)
    go (yes there) (no end) =
        rw (united_past l (at + i) (n - i) o (from + i) (omega arith)) (written_back l (at + i) (n - i))
    go (yes there) (yes other) =
        let none : n - i ≡ 0 = omega arith in
        rw none
