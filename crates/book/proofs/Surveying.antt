-- The records of a book surveyed one after another: what the loop of `survey` keeps, and how it begins, goes on and ends.
use mathlib.Core.Path.{◌≡◌, refl, sym, ◌∙◌}
use mathlib.Core.List.{List}
use Prim.Native.Nat.{ℕ, ◌+◌, ◌-◌, ◌*◌, ◌≤◌, ◌<◌}
use native.Mathlib.Numerals.{add-one}
use native.Mathlib.Nat.{sub-zero, le_antisymm}
use native.Mathlib.Omega.{arith}
use lib.ListN.{length, set, length-set}
use lib.Seq.{sets}
use Rattle.sets.specs.Sets.{width, Exactly}
use Rattle.sets.specs.Calls.{stored}
use Rattle.answers.specs.Limits.{most_productions}
use Rattle.reader.specs.Fields.{left_at, length_at, place_after, place_of_record, places_from}
use Rattle.reader.proofs.Promise.{places_turn, places_over, read_limits}
use Rattle.book.specs.Useful.{IsNumber, NamedAt, RightNames, LeftName, SetsOf, Lists, Surveyable, Surveyed}
use Rattle.book.proofs.Filling.{filled_none, filled_next}
use Rattle.book.proofs.Indexing.{record_fits}

-- the first p records are surveyed, and with those that are left written over them the cells are the whole answer
pub record Surveying (book : List ℕ) (count : ℕ) (before : List ℕ) (p place : ℕ) (places names lefts : List ℕ) : Type 0 where
  pub within : p ≤ count
  pub few : count ≤ most_productions
  pub low : place ≤ 6 + 259 * p
  pub counted : place ≡ place_of_record book p
  pub sized : length places ≡ most_productions
  pub placed : sets places p (places_from book (count - p) p) ≡ sets before 0 (places_from book count 0)
  pub named : SetsOf (RightNames book) p names
  pub left : SetsOf (LeftName book) p lefts

-- a book has no more records than an index has cells
lists_few : {book : List ℕ} {count : ℕ} → Lists book count → count ≤ most_productions
lists_few {book} lists = omega (arith, lists.counted, (read_limits book lists.read).productions_fit)

pub survey_none : {book : List ℕ} {count : ℕ} {places names lefts : List ℕ}
    → Surveyable book count places names lefts
    → Surveying book count places 0 6 places names lefts
unfolding place_of_record
survey_none room =
    record {
      within = omega arith;
      few = lists_few room.lists;
      low = omega arith;
      counted = refl;
      sized = room.places_sized;
      placed = rw sub-zero;
      named = filled_none room.names_sized;
      left = filled_none room.lefts_sized;
    }

module _ {book before places names lefts : List ℕ} {count p place : ℕ} (so_far : Surveying book count before p place places names lefts) where
  -- the record at hand lies within the book
  pub record_there : Lists book count
      → p < count
      → place + 4 + length_at book place ≤ length book
  record_there lists inside = rw so_far.counted (record_fits book lists.read p (omega (arith, lists.counted)))

  -- one record more: its place written, the names on its right side and its left side stored
  pub survey_next : {rights lefts' : List ℕ} {n l : ℕ}
      → p < count
      → length_at book place < 256
      → Exactly width n (NamedAt book place (length_at book place))
      → rights ≡ stored names p n
      → Exactly width l (IsNumber (left_at book place))
      → lefts' ≡ stored lefts p l
      → Surveying book count before (p + 1) (place + (4 + length_at book place)) (set places p place) rights lefts'
  unfolding place_of_record place_after
  survey_next inside byte exact_names names_stored exact_left left_stored =
      record {
        within = omega arith;
        few = so_far.few;
        low = omega (arith, so_far.low);
        counted = rw (add-one, so_far.counted) (omega arith);
        sized = length-set places p place ∙ so_far.sized;
        placed = rw so_far.counted (sym (places_turn book places p count inside) ∙ so_far.placed);
        named = filled_next (omega (arith, so_far.few)) so_far.named (rw so_far.counted at exact_names) names_stored;
        left = filled_next (omega (arith, so_far.few)) so_far.left (rw so_far.counted at exact_left) left_stored;
      }

  -- at the end every record is surveyed
  pub survey_all : count ≤ p → Surveyed book count before places names lefts
  survey_all past =
      let all : p ≡ count = le_antisymm so_far.within past in
      record {
        placed = sym (places_over book places p count past) ∙ so_far.placed;
        named = rw all at so_far.named;
        left = rw all at so_far.left;
      }
