-- What is promised of patterns, one page: each theorem under the sentence that it proves.
use mathlib.Core.Path.{◌≡◌}
use mathlib.Core.Logic.{◌↔◌, ◌⊎◌}
use mathlib.Core.List.{List, [], ◌∷◌, ◌++◌, map}
use mathlib.Core.Option.{some}
use Prim.Native.Nat.{ℕ, suc, ◌≤◌, ◌<◌}
use lib.ListN.{length, take, get_elem?}
use Rattle.pattern.specs.Pattern.{Expression, Matches, star, Pattern}
use Rattle.pattern.specs.Marks.{most_open_groups}
use Rattle.pattern.specs.Written.{IsPattern, Viable, Malformed, BadAt, Good, patterns_of, FirstBad, AllGood}
use Rattle.pattern.specs.Written.{Written, alternation}
use Rattle.pattern.specs.Reader.{Standing, start, after, means, refused, read_pattern}
use Rattle.pattern.specs.Text.{Bytes, Writable, text_of, groups_of}
use Rattle.pattern.specs.House.{Sample, house, codes, house_patterns}
use Rattle.pattern.specs.Examples.{Row, bad_texts, good_texts}
use Rattle.pattern.specs.Positions.{size, Null, positions, Point, position, end_of, Start, Onward, ReadsIn, Moved}
use Rattle.pattern.specs.Positions.{After}
use Rattle.pattern.proofs.Complete.{pattern_read}
use Rattle.pattern.proofs.Sound.{read_pattern_lem}
use Rattle.pattern.proofs.Place as place
use Rattle.pattern.proofs.Bad as bad
use Rattle.pattern.proofs.Drafts.{drafted_written}
use Rattle.pattern.proofs.Depth.{depth_needed}
use Rattle.pattern.proofs.TextBytes.{drafted_bytes, written_writable}
use Rattle.pattern.proofs.Examples as examples
use Rattle.pattern.proofs.NullExact as empty
use Rattle.pattern.proofs.PlacedPatterns as placed
use Rattle.pattern.proofs.StateSound.{after_pattern}
use Rattle.pattern.proofs.StateComplete.{pattern_after}
use Rattle.pattern.proofs.StateLaws as state
use Rattle.pattern.proofs.HousePositions as example

-- `star x` matches u exactly if u is empty, or a match of x followed by a match of `star x`
pub star_iff : {x : Expression} {u : List ℕ}
    → Matches (star x) u
    ↔ ((u ≡ []) ⊎ ((v : List ℕ) × (w : List ℕ) × (u ≡ v ++ w) × Matches x v × Matches (star x) w))
star_iff = empty.star_iff

-- x is `Null` exactly if it matches the empty string
pub null_exact : {x : Expression} → Null x ↔ Matches x []
null_exact = empty.null_exact

module _ (rs : List Expression) where
  -- the end of pattern k can come next once w was read, exactly if pattern k matches w
  pub state_exact : (w : List ℕ) (k : ℕ) → After rs w (end_of k) ↔ Pattern rs k w
  state_exact w k = (after_pattern w, pattern_after w)

  -- it can come first exactly if pattern k matches the empty string
  pub start_null : (k : ℕ) → Start rs (end_of k) ↔ Pattern rs k []
  start_null = state.start_null rs

  -- before any byte, what can come next is what can come first
  pub after_empty : (t : Point) → After rs [] t ↔ Start rs t
  after_empty = state.after_empty rs

  -- one byte more moves the points
  pub after_append : (w : List ℕ) (b : ℕ) (t : Point) → After rs (w ++ (b ∷ [])) t ↔ Moved rs (After rs w) b t
  after_append = state.after_append rs

  -- what can come next is a position below the count of all, or the end of a pattern of the list
  pub after_position_below : (w : List ℕ) (p : ℕ) → After rs w (position p) → p < positions rs
  after_position_below w p = state.after_point_of rs w (position p)

  pub after_end_below : (w : List ℕ) (k : ℕ) → After rs w (end_of k) → k < length rs
  after_end_below w k = state.after_point_of rs w (end_of k)

module _ {rs : List Expression} where
  -- sets of the same points move to the same points
  pub moved_same : {S R : Point → Type 0} {b : ℕ} {t : Point}
      → ((s : Point) → S s ↔ R s)
      → Moved rs S b t ↔ Moved rs R b t
  moved_same = state.moved_same

  -- and so is what can come first
  pub start_position_below : {p : ℕ} → Start rs (position p) → p < positions rs
  start_position_below = placed.start_point_of

  pub start_end_below : {k : ℕ} → Start rs (end_of k) → k < length rs
  start_end_below = placed.start_point_of

  -- and what can come after a position
  pub onward_position_below : {p q : ℕ} → Onward rs p (position q) → q < positions rs
  onward_position_below = placed.onward_point_of

  pub onward_end_below : {p k : ℕ} → Onward rs p (end_of k) → k < length rs
  onward_end_below = placed.onward_point_of

  -- only positions below the count of all lead on and read
  pub onward_below : {p : ℕ} {t : Point} → Onward rs p t → p < positions rs
  onward_below = placed.onward_below

  pub reads_below : {p b : ℕ} → ReadsIn rs p b → p < positions rs
  reads_below = placed.reads_in_below

-- a text has at most one meaning
pub meaning_unique : {s : List ℕ} {x y : Expression} → IsPattern s x → IsPattern s y → x ≡ y
meaning_unique w v = place.same_meaning w v

-- the reader ends with the meaning x exactly if the text is a pattern with it
pub read_exact : (s : List ℕ) {x : Expression} → (read_pattern s ≡ means x) ↔ IsPattern s x
read_exact s = (λ e. read_pattern_lem e, λ w. pattern_read w)

-- it cannot go on at place i exactly if the text is malformed there
pub refused_exact : (s : List ℕ) {i : ℕ} → (read_pattern s ≡ refused i) ↔ Malformed s i
refused_exact s = (λ e. place.refused_malformed s e, λ m. place.malformed_refused s m)

-- it goes on exactly as long as some pattern begins so
pub viable_exact : (u : List ℕ) → Viable u ↔ ((s : Standing) × (after start u ≡ some s))
viable_exact u = (λ v. place.viable_read u v, λ e. place.read_viable u e.1)

-- and a text of bytes that begins a pattern begins one of bytes
pub viable_bytes : (u : List ℕ)
    → Viable u
    → Bytes u
    → (rest : List ℕ) × Bytes rest × ((x : Expression) × IsPattern (u ++ rest) x)
viable_bytes u v k = place.viable_bytes u v k

-- a meaning whose classes are not empty, of ranges of bytes, rising or equal, has a text of bytes,
-- if the groups that it needs nest no deeper than allowed
pub text_read : (x : Expression)
    → Writable x
    → groups_of x ≤ most_open_groups
    → IsPattern (text_of x) x × Bytes (text_of x)
unfolding text_of groups_of
text_read x w h = (drafted_written alternation w most_open_groups h, drafted_bytes alternation w)

-- every meaning of a text of bytes is such a one
pub meaning_writable : {s : List ℕ} {x : Expression} → IsPattern s x → Bytes s → Writable x
meaning_writable w k = written_writable w k

-- and no text with the meaning nests fewer groups
pub groups_needed : {d : ℕ} {s : List ℕ} {x : Expression} → Written alternation d s x → groups_of x ≤ d
unfolding groups_of
groups_needed w = depth_needed w

-- each text is a pattern or malformed
pub pattern_or_malformed : (s : List ℕ) → ((x : Expression) × IsPattern s x) ⊎ ((i : ℕ) × Malformed s i)
pattern_or_malformed s = place.pattern_or_refused s

-- never both
pub pattern_not_malformed : {s : List ℕ} {x : Expression} {i : ℕ} → IsPattern s x → ¬ Malformed s i
pattern_not_malformed {x = x} w m = m.not_pattern x w

-- and at one place only
pub malformed_unique : {s : List ℕ} {i j : ℕ} → Malformed s i → Malformed s j → i ≡ j
malformed_unique m n = place.malformed_place m n

-- a bad text's place: below the length the bytes before it begin a pattern, and with its byte they begin none;
-- at the length the whole begins a pattern
pub pattern_place : {s : List ℕ} {i : ℕ}
    → BadAt s i
    → (i ≤ length s) × (i < length s → Viable (take i s) × ¬ Viable (take (suc i) s)) × (i ≡ length s → Viable s)
pattern_place b = (bad.bad_inside b, bad.bad_below b, bad.bad_at_length b)

-- each text is good or bad, never both, and bad at one place only
pub good_or_bad : (s : List ℕ) → Good s ⊎ ((i : ℕ) × BadAt s i)
good_or_bad s = bad.good_or_bad s

pub good_not_bad : {s : List ℕ} {i : ℕ} → Good s → ¬ BadAt s i
good_not_bad g b = bad.good_not_bad g b

pub bad_unique : {s : List ℕ} {i j : ℕ} → BadAt s i → BadAt s j → i ≡ j
bad_unique a b = bad.bad_place_lem a b

-- all texts are good or one is the first bad one, never both; its place and its number are determined
pub all_good_or_first_bad : (texts : List (List ℕ)) → AllGood texts ⊎ ((i : ℕ) × (k : ℕ) × FirstBad texts i k)
all_good_or_first_bad texts = bad.first_bad_exists texts

pub first_bad_not_all_good : {texts : List (List ℕ)} {i k : ℕ} → FirstBad texts i k → ¬ AllGood texts
first_bad_not_all_good b = bad.first_bad_not_all_good b

pub first_bad_unique : {texts : List (List ℕ)} {i j k l : ℕ}
    → FirstBad texts i k
    → FirstBad texts j l
    → (i ≡ j) × (k ≡ l)
first_bad_unique a b = bad.first_bad_place a b

-- the texts lent are as many as the lengths, and past the end of the bytes they are shorter
pub patterns_length : (bytes lengths : List ℕ) → length (patterns_of bytes lengths) ≡ length lengths
patterns_length bytes lengths = bad.patterns_length bytes lengths

pub past_the_end : patterns_of (codes "abcde") (3 ∷ 9 ∷ 1 ∷ []) ≡ codes "abc" ∷ codes "de" ∷ [] ∷ []
past_the_end = examples.past_the_end

-- the house patterns are patterns with their meanings, and none matches the empty string
pub house_patterns_lem : (k : ℕ) (p : Sample)
    → get_elem? house k ≡ some p
    → IsPattern p.text p.meaning × ¬ Matches p.meaning []
house_patterns_lem k p e = examples.house_meanings k p e

-- each bad text of the examples is bad at its place, and each good one is good
pub bad_texts_lem : (j : ℕ) (r : Row) → get_elem? bad_texts j ≡ some r → BadAt r.text r.place
bad_texts_lem j r e = examples.bad_places j r e

pub good_texts_lem : AllGood good_texts
good_texts_lem = examples.good_texts_lem

-- the house patterns have 7 + 5 + 2 + 3 positions
pub house_sizes : (map size house_patterns ≡ 7 ∷ 5 ∷ 2 ∷ 3 ∷ []) × (positions house_patterns ≡ 17)
house_sizes = (example.house_sizes, example.house_positions)

-- none of them matches the empty string
pub house_none_empty : (k : ℕ) → ¬ Pattern house_patterns k []
house_none_empty k m = example.house_not_null k m.at (null_exact.1 m.matches)

-- strings that they match, and a state that holds the end of one
pub house_matches : Pattern house_patterns 0 (codes "restore") × Pattern house_patterns 1 (codes "St Anne")
house_matches = (example.house_restore, example.house_saint_anne)

pub house_state : After house_patterns (codes "Anne") (end_of 1)
house_state = (state_exact house_patterns (codes "Anne") 1).1 example.house_anne
