-- A set of n words that starts at word `at` of a slice, and what each function of the crate answers. Document 02, W3.
use Rattle.std.specs.Prelude.{◌≡◌, Bool, true, List, [], ◌∷◌, ℕ, zero, suc, get_or, Option}
use Rattle.std.proofs.lemmas.List.Edits.{sets as written}
use Rattle.sets.specs.Sets.{member, united, added}
use Rattle.sets.specs.Calls.{Decides}
use Rattle.sets.specs.Words.{word_width, AreWords, value_of, words_of}
use Rattle.answers.specs.Lowest.{LowestIn}

-- the n words of a slice from `at` on; a word past the end is 0
unfoldable pub words_at : List ℕ → ℕ → ℕ → List ℕ
words_at slice at zero = []
words_at slice at (suc n) = get_or slice at 0 ∷ words_at slice (suc at) n

-- the set that they spell
unfoldable pub points_at : List ℕ → ℕ → ℕ → ℕ
points_at slice at n = value_of (words_at slice at n)

-- the slice with the set x written as its n words from `at` on: what n words cannot hold is dropped, and a word past
-- the end of the slice is not written
unfoldable pub stored_at : List ℕ → ℕ → ℕ → ℕ → List ℕ
stored_at slice at n x = written slice at (words_of n x)

abbrev pub Has : List ℕ → ℕ → ℕ → ℕ → Bool → Type 0
Has slice at n place r = r ≡ member place (points_at slice at n)

-- the place is added to the set; `words` is what the slice's type says of its elements
pub record Put (before : List ℕ) (at n place : ℕ) (after : List ℕ) : Type 0 where
  pub words : AreWords before
  pub content : after ≡ stored_at before at n (added place (points_at before at n))

-- the set becomes the union with the set at `from` of another slice
pub record Unite (before : List ℕ) (at n : ℕ) (other : List ℕ) (from : ℕ) (after : List ℕ) : Type 0 where
  pub words : AreWords before
  pub other_words : AreWords other
  pub content : after ≡ stored_at before at n (united (points_at before at n) (points_at other from n))

abbrev pub Same : List ℕ → ℕ → List ℕ → ℕ → ℕ → Bool → Type 0
Same slice at other from n r = Decides r (points_at slice at n ≡ points_at other from n)

abbrev pub None : List ℕ → ℕ → ℕ → Bool → Type 0
None slice at n r = Decides r (points_at slice at n ≡ 0)

-- the lowest member of the word, or nothing where it has none
abbrev pub Lowest : ℕ → Option ℕ → Type 0
Lowest word r = LowestIn (λ k. member k word ≡ true) word_width r
