-- Patterns read one after the other: how far they were judged, and what the tables have of them.
-- Working definitions, which no public contract cites.
use Rattle.std.specs.Prelude.{◌≡◌, true, List, ◌++◌, ℕ, ◌+◌, ◌≤◌, ◌<◌, length, drop, ⊤, Result, MatchResult}
use Rattle.sets.specs.Sets.{member}
use Rattle.answers.specs.declared.Answer.{Answer}
use Rattle.answers.specs.Limits.{most_positions, position_words, point_words}
use Rattle.pattern.specs.Pattern.{Expression}
use Rattle.pattern.specs.Written.{patterns_of, FirstBad, AllGood}
use Rattle.pattern.specs.Positions.{positions, Start, Onward, ReadsIn}
use Rattle.parts.specs.declared.Part.{Part}
use Rattle.parts.specs.Rows.{Rows}
use Rattle.parts.specs.Parts.{positions_in, capped}
use Rattle.patterns.specs.declared.gathering.BadPattern.{BadPattern}
pub use Rattle.patterns.specs.Calls.{TablesFit}
use Rattle.patterns.specs.Calls.{Meanings, Accepted, RefusesPatterns, point_at}
use Rattle.patterns.specs.Promised.{ReadServed}

-- what a pattern adds: its end behind each position that can come last, and to the start what can come first
pub data Finishes (last first number : ℕ) : ℕ → ℕ → Type 0 where
  ends : {p : ℕ} → member p last ≡ true → Finishes last first number p (most_positions + number)
  starts : {q : ℕ} → member q first ≡ true → Finishes last first number most_positions q

abbrev pub Finished : Part → ℕ → List ℕ → List ℕ → Type 0
Finished part number follow after =
    Rows point_words follow after (Finishes (positions_in part.last) (positions_in part.first) number)

-- what each row of the second table has: for a position what can come after it, and behind the positions what can
-- come first
pub data NextIn (rs : List Expression) : ℕ → ℕ → Type 0 where
  after_position : {p q : ℕ} → p < most_positions → Onward rs p (point_at q) → NextIn rs p q
  at_the_start : {q : ℕ} → Start rs (point_at q) → NextIn rs most_positions q

-- the patterns before number `number`, whose bytes begin at `start`, are good and have `count` positions
pub record GoodSoFar (patterns lengths readers follow : List ℕ) (number start count : ℕ)
    (readers_after follow_after : List ℕ) : Type 0 where
  pub gone : List (List ℕ)
  pub meanings : List Expression
  pub texts : patterns_of patterns lengths ≡ gone ++ patterns_of (drop start patterns) (drop number lengths)
  pub gone_length : length gone ≡ number
  pub start_inside : start ≤ length patterns
  pub means : Meanings gone meanings
  pub good : AllGood gone
  pub counted : count ≡ capped (positions meanings)
  pub reads : positions meanings ≤ most_positions
      → Rows position_words readers readers_after (λ b p. ReadsIn meanings p b)
  pub follows : positions meanings ≤ most_positions → Rows point_words follow follow_after (NextIn meanings)

-- all patterns are good and have so many positions
pub record AllMeant (patterns lengths readers follow : List ℕ) (count : ℕ)
    (readers_after follow_after : List ℕ) : Type 0 where
  pub end : ℕ
  pub judged : GoodSoFar patterns lengths readers follow (length lengths) end count readers_after follow_after

-- they are, or one is the first bad one
abbrev pub AllJudged : (patterns lengths readers follow : List ℕ) → Result ℕ BadPattern
    → (readers_after follow_after : List ℕ) → Type 0
AllJudged patterns lengths readers follow r readers_after follow_after =
    MatchResult r (λ count. AllMeant patterns lengths readers follow count readers_after follow_after)
    (λ bad. FirstBad (patterns_of patterns lengths) bad.place bad.number)

-- the patterns are accepted, and the tables have what they add
pub record Gathered (patterns lengths readers follow readers_after follow_after : List ℕ) : Type 0 where
  pub meanings : List Expression
  pub accepted : Accepted patterns lengths meanings
  pub reads : Rows position_words readers readers_after (λ b p. ReadsIn meanings p b)
  pub follows : Rows point_words follow follow_after (NextIn meanings)

-- they are, or refused
abbrev pub GatherOutcome : (patterns lengths readers follow readers_after follow_after : List ℕ)
    → Result ⊤ Answer → Type 0
GatherOutcome patterns lengths readers follow readers_after follow_after r =
    MatchResult r (λ _. Gathered patterns lengths readers follow readers_after follow_after)
    (RefusesPatterns patterns lengths)

-- tables of the same lengths, for patterns that are refused
pub record FillRefused (patterns lengths readers follow : List ℕ) (a : Answer) (xs ys : List ℕ) : Type 0 where
  pub refuses : RefusesPatterns patterns lengths a
  pub readers_sized : length xs ≡ length readers
  pub follow_sized : length ys ≡ length follow

-- tables that are long enough, cleared and filled
abbrev pub FillOutcome : (patterns lengths readers follow : List ℕ) → Result ⊤ Answer → List ℕ → List ℕ → Type 0
FillOutcome patterns lengths readers follow r xs ys =
    MatchResult r (λ _. ReadServed patterns lengths readers follow xs ys)
    (λ a. FillRefused patterns lengths readers follow a xs ys)
