-- What reading patterns answers and leaves in the two tables, whatever bytes, lengths and tables are lent.
-- Document 02, W3.
use Rattle.std.specs.Prelude.{◌≡◌, cond, List, [], ◌∷◌, ℕ, ◌+◌, ◌-◌, ◌*◌, ◌≤◌, ◌<◌, ltb, length, get_or}
use Rattle.sets.specs.Sets.{Exactly}
use Rattle.sets.specs.Words.{places, AreWords}
use Rattle.points.specs.Points.{points_at}
use Rattle.answers.specs.declared.Answer.{Answer}
use Rattle.answers.specs.Answers.{done, refusal}
use Rattle.answers.specs.Buffers.{cleared}
use Rattle.answers.specs.Limits.{most_patterns, most_positions, position_words, point_words}
use Rattle.answers.specs.Refusals.{limit, room, pattern}
use Rattle.pattern.specs.Pattern.{Expression}
use Rattle.pattern.specs.Written.{IsPattern, patterns_of, FirstBad, AllGood}
use Rattle.pattern.specs.Positions.{positions, Point, position, end_of, Start, Onward, ReadsIn}

-- what the texts mean, one meaning each
pub data Meanings : List (List ℕ) → List Expression → Type 0 where
  no_texts : Meanings [] []
  text_means : {s : List ℕ} {texts : List (List ℕ)} {x : Expression} {rs : List Expression}
      → IsPattern s x
      → Meanings texts rs
      → Meanings (s ∷ texts) (x ∷ rs)

module _ (patterns lengths : List ℕ) where
  -- the patterns are not too many, each is good, and their positions are not too many
  pub record Accepted (rs : List Expression) : Type 0 where
    pub few : length lengths ≤ most_patterns
    pub means : Meanings (patterns_of patterns lengths) rs
    pub good : AllGood (patterns_of patterns lengths)
    pub fit : positions rs ≤ most_positions

  -- the first of these that is not so
  pub data RefusesPatterns : Answer → Type 0 where
    many_patterns : most_patterns < length lengths → RefusesPatterns (refusal limit most_patterns 0)
    bad_pattern : {i k : ℕ}
        → length lengths ≤ most_patterns
        → FirstBad (patterns_of patterns lengths) i k
        → RefusesPatterns (refusal pattern i k)
    many_positions : {rs : List Expression}
        → length lengths ≤ most_patterns
        → Meanings (patterns_of patterns lengths) rs
        → AllGood (patterns_of patterns lengths)
        → most_positions < positions rs
        → RefusesPatterns (refusal limit most_positions 0)

  pub data JudgePatterns : Answer → Type 0 where
    refused : {a : Answer} → RefusesPatterns a → JudgePatterns a
    accepted : {rs : List Expression} → Accepted rs → JudgePatterns (done 0)

-- the point at a place of a set of points: position q at place q, the end of pattern k behind all positions
unfoldable pub point_at : ℕ → Point
point_at place = cond (ltb place most_positions) (position place) (end_of (place - most_positions))

-- how many words a table has: a set of positions for each byte; a set of points for each position, and one more
abbrev pub readers_length : ℕ
readers_length = 256 * position_words

abbrev pub follow_length : ℕ
follow_length = (most_positions + 1) * point_words

-- for byte b the positions that read it; for position p the points that can come after it, and behind them those that
-- can come first; every other word is 0
pub record TablesOf (rs : List Expression) (readers follow : List ℕ) : Type 0 where
  pub readers_words : AreWords readers
  pub follow_words : AreWords follow
  pub reads : (b : ℕ)
      → b < 256
      → Exactly (places position_words) (points_at readers (b * position_words) position_words) (λ p. ReadsIn rs p b)
  pub onward : (p : ℕ)
      → p < most_positions
      → Exactly (places point_words) (points_at follow (p * point_words) point_words) (λ q. Onward rs p (point_at q))
  pub start :
      Exactly (places point_words) (points_at follow (most_positions * point_words) point_words) (λ q. Start rs (point_at q))
  pub readers_beyond : (i : ℕ) → readers_length ≤ i → get_or readers i 0 ≡ 0
  pub follow_beyond : (i : ℕ) → follow_length ≤ i → get_or follow i 0 ≡ 0

-- the tables lent are long enough
pub record TablesFit (readers follow : List ℕ) : Type 0 where
  pub readers_fit : readers_length ≤ length readers
  pub follow_fit : follow_length ≤ length follow

-- tables that are too short are told before all else and not changed; with any other refusal every word is 0
pub data ReadOutcome (patterns lengths readers follow : List ℕ) : Answer → List ℕ → List ℕ → Type 0 where
  no_room : ¬ TablesFit readers follow → ReadOutcome patterns lengths readers follow (refusal room 0 0) readers follow
  refused : {a : Answer}
      → TablesFit readers follow
      → RefusesPatterns patterns lengths a
      → ReadOutcome patterns lengths readers follow a (cleared readers) (cleared follow)
  served : {rs : List Expression} {xs ys : List ℕ}
      → TablesFit readers follow
      → Accepted patterns lengths rs
      → length xs ≡ length readers
      → length ys ≡ length follow
      → TablesOf rs xs ys
      → ReadOutcome patterns lengths readers follow (done 0) xs ys

-- what a call of read leaves: the answer and both tables
abbrev pub ReadResult : Type 0
ReadResult = Answer × List ℕ × List ℕ
