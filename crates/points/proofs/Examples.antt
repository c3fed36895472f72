-- The definitions at work: a set of two words behind a word that is not its own, and one that runs past its slice's end.
use mathlib.Core.Path.{◌≡◌, refl}
use mathlib.Core.List.{[], ◌∷◌}
use Prim.Native.Nat.{◌+◌, ◌^◌}
use native.Mathlib.Omega.{arith}
use Rattle.sets.specs.Sets.{only, united, added}
use Rattle.sets.specs.Words.{AreWords, value_of, words_of}
use Rattle.sets.proofs.Promise.{no_words, more_words}
use Rattle.points.specs.Points.{words_at, points_at, stored_at, Put, Unite}

three_words : AreWords (7 ∷ 5 ∷ 0 ∷ [])
three_words = more_words (omega arith) (more_words (omega arith) (more_words (omega arith) no_words))

-- places 0 and 2 lie in the first word
points_of_five : points_at (7 ∷ 5 ∷ 0 ∷ []) 1 2 ≡ 2 ^ 0 + 2 ^ 2
unfolding points_at words_at value_of
points_of_five = refl

-- place 64 is the lowest bit of the second
put_64 : Put (7 ∷ 5 ∷ 0 ∷ []) 1 2 64 (7 ∷ 5 ∷ 1 ∷ [])
unfolding stored_at points_at words_at value_of words_of added united only
put_64 = record { words = three_words; content = refl }

-- place 128 is not among the places of two words
put_128 : Put (7 ∷ 5 ∷ 0 ∷ []) 1 2 128 (7 ∷ 5 ∷ 0 ∷ [])
unfolding stored_at points_at words_at value_of words_of added united only
put_128 = record { words = three_words; content = refl }

-- of three words the last lies past the end: what it would hold is not written
unite_past_the_end : Unite (7 ∷ 5 ∷ 0 ∷ []) 1 3 (8 ∷ 16 ∷ 32 ∷ []) 0 (7 ∷ 13 ∷ 16 ∷ [])
unfolding stored_at points_at words_at value_of words_of united
unite_past_the_end =
    record {
      words = three_words;
      other_words = more_words (omega arith) (more_words (omega arith) (more_words (omega arith) no_words));
      content = refl;
    }
