-- The worked examples, by computing.
use mathlib.Core.Path.{◌≡◌, refl}
use mathlib.Core.Bool.{false}
use mathlib.Core.List.{List, [], ◌∷◌, map}
use mathlib.Core.Option.{some, none}
use Prim.Native.Nat.{ℕ, zero, suc}
use native.Mathlib.Omega.{arith}
use lib.ListN.{get_elem?}
use Rattle.pattern.specs.Pattern.{Matches}
use Rattle.pattern.specs.Written.{IsPattern, BadAt, AllGood, patterns_of}
use Rattle.pattern.specs.Kinds.{kind_in, kind_of}
use Rattle.pattern.specs.Reader.{nothing_begun, start, joined, with_item, settled, alternation_of, elements, opened, closed, divided, marked, byte_read, class_read, range_read, moved, move, ended, means, read_from, says, read_pattern}
use Rattle.pattern.specs.House.{codes, along, word, parish, Sample, house}
use Rattle.pattern.specs.Examples.{Row, bad_texts, good_texts}
use Rattle.pattern.proofs.Nullable.{nullable, matches_null}
use Rattle.pattern.proofs.Sound.{read_pattern_lem}
use Rattle.pattern.proofs.Bad.{bad_place, place_bad, place_good}

-- lengths past the end of the bytes lent
pub past_the_end : patterns_of (codes "abcde") (3 ∷ 9 ∷ 1 ∷ []) ≡ codes "abc" ∷ codes "de" ∷ [] ∷ []
unfolding patterns_of
past_the_end = refl

-- what two functions have alike of a list, they have alike of each element
each : {A B : Type 0} (f g : A → B) (l : List A)
    → map f l ≡ map g l
    → (j : ℕ) (a : A)
    → get_elem? l j ≡ some a
    → f a ≡ g a
each f g [] e j a h = let bad : ◌≡◌ {A = ℕ} 0 1 = cc in absurd (omega arith)
each f g (b ∷ l) e zero a h = cc
each f g (b ∷ l) e (suc j) a h = each f g l (cc) j a h

-- what the reader computes of the examples
record Computed : Type 0 where
  pub meanings : map (λ p. read_pattern p.text) house ≡ map (λ p. means p.meaning) house
  pub not_empty : map (λ p. nullable p.meaning) house ≡ map (λ p. false) house
  pub bad_places : map (λ r. bad_place r.text) bad_texts ≡ map (λ r. some r.place) bad_texts
  pub no_places : map bad_place good_texts ≡ map (λ s. none) good_texts

computed : Computed
unfolding house parish word along bad_texts good_texts bad_place nullable read_pattern says read_from start nothing_begun kind_of kind_in move moved marked opened closed divided byte_read class_read range_read settled with_item joined alternation_of elements ended
computed = record { meanings = refl; not_empty = refl; bad_places = refl; no_places = refl }

pub house_meanings : (k : ℕ) (p : Sample)
    → get_elem? house k ≡ some p
    → IsPattern p.text p.meaning × ¬ Matches p.meaning []
house_meanings k p h = (
  read_pattern_lem (each (λ q. read_pattern q.text) (λ q. means q.meaning) house computed.meanings k p h),
  λ m. let bad : ◌≡◌ {A = ℕ} 0 1 = cc (matches_null m, each (λ q. nullable q.meaning) (λ q. false) house computed.not_empty k p h) in omega arith,
)

pub bad_places : (j : ℕ) (r : Row) → get_elem? bad_texts j ≡ some r → BadAt r.text r.place
bad_places j r h = place_bad r.text (each (λ q. bad_place q.text) (λ q. some q.place) bad_texts computed.bad_places j r h)

pub good_texts_lem : AllGood good_texts
good_texts_lem = record { good = λ j s h. place_good s (each bad_place (λ t. none) good_texts computed.no_places j s h) }
