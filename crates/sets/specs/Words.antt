-- A set of more places than one word has is a list of words, lowest first: the number that such a list spells, the
-- words of a number, and union and adding word by word. Document 02, W3 (sets of points) and W13 (sets of two words).
use Rattle.std.specs.Prelude.{List, [], ◌∷◌, ℕ, zero, suc, ◌+◌, ◌*◌, ◌/◌, ◌%◌, ◌^◌, ◌<◌, get_or, set}
use Rattle.sets.specs.Sets.{united, added}

-- how many places a word has
abbrev pub word_width : ℕ
word_width = 64

-- how many places n words have; it does not compute by itself, since `omega` cannot read 2 ^ places 2
unfoldable pub places : ℕ → ℕ
places n = word_width * n

-- every element of the list is a word
pub record AreWords (ws : List ℕ) : Type 0 where
  pub fits : (i : ℕ) → get_or ws i 0 < 2 ^ word_width

-- the number that a list of words spells, lowest word first
unfoldable pub value_of : List ℕ → ℕ
value_of [] = 0
value_of (x ∷ xs) = value_of xs * 2 ^ word_width + x

-- the n lowest words of a number
unfoldable pub words_of : ℕ → ℕ → List ℕ
words_of zero x = []
words_of (suc n) x = x % 2 ^ word_width ∷ words_of n (x / 2 ^ word_width)

-- the union of two sets word by word; the shorter list goes on with 0
unfoldable pub united_words : List ℕ → List ℕ → List ℕ
united_words [] ys = ys
united_words (x ∷ xs) [] = x ∷ xs
united_words (x ∷ xs) (y ∷ ys) = united x y ∷ united_words xs ys

-- place k added in the word where it lies
unfoldable pub added_words : ℕ → List ℕ → List ℕ
added_words k ws = set ws (k / word_width) (added (k % word_width) (get_or ws (k / word_width) 0))
