-- What crates above learn of patterns that were read: the text of each meaning, which limit was passed, and what a call
-- leaves.
use Rattle.std.specs.Prelude.{◌≡◌, List, ℕ, ◌≤◌, ◌<◌, length}
use Rattle.std.proofs.Math.Option.{some}
use Rattle.std.proofs.Math.ListN.{get_elem?}
use Rattle.answers.specs.declared.Answer.{Answer}
use Rattle.answers.specs.Buffers.{cleared}
use Rattle.answers.specs.Limits.{most_patterns, most_positions}
use Rattle.pattern.specs.Pattern.{Expression}
use Rattle.pattern.specs.Written.{IsPattern, patterns_of, AllGood}
use Rattle.pattern.specs.Positions.{positions}
use Rattle.patterns.specs.Calls.{Meanings, Accepted, RefusesPatterns, TablesOf}

-- text number k, which means x
pub record TextOf (texts : List (List ℕ)) (k : ℕ) (x : Expression) : Type 0 where
  pub text : List ℕ
  pub at : get_elem? texts k ≡ some text
  pub pattern : IsPattern text x

module _ (patterns lengths : List ℕ) where
  -- too many patterns, told at 62; or all are good and have too many positions, told at 256
  pub data OverLimit : ℕ → Type 0 where
    over_patterns : most_patterns < length lengths → OverLimit most_patterns
    over_positions : {rs : List Expression}
        → length lengths ≤ most_patterns
        → Meanings (patterns_of patterns lengths) rs
        → AllGood (patterns_of patterns lengths)
        → most_positions < positions rs
        → OverLimit most_positions

  -- served: what the texts mean, and the rows of both tables
  pub record ReadServed (readers follow xs ys : List ℕ) : Type 0 where
    pub meanings : List Expression
    pub accepted : Accepted patterns lengths meanings
    pub readers_sized : length xs ≡ length readers
    pub follow_sized : length ys ≡ length follow
    pub tables : TablesOf meanings xs ys

  -- refused for what the patterns are, with every word 0
  pub record ReadRefused (readers follow : List ℕ) (a : Answer) (xs ys : List ℕ) : Type 0 where
    pub refuses : RefusesPatterns patterns lengths a
    pub readers_cleared : xs ≡ cleared readers
    pub follow_cleared : ys ≡ cleared follow
