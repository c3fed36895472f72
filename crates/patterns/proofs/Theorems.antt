-- What is promised of patterns lent together, one page: each theorem under the sentence that it proves.
use mathlib.Core.Path.{◌≡◌}
use mathlib.Core.List.{List, [], ◌∷◌}
use mathlib.Core.Option.{some}
use Prim.Native.Nat.{ℕ, suc, ◌≤◌, ◌<◌}
use lib.ListN.{length, take, get_elem?}
use Rattle.answers.specs.declared.Answer.{Answer}
use Rattle.answers.specs.Answers.{refusal}
use Rattle.answers.specs.Refusals.{limit, pattern}
use Rattle.pattern.specs.Pattern.{Expression, Pattern}
use Rattle.pattern.specs.Written.{Viable, patterns_of, FirstBad}
use Rattle.pattern.specs.Positions.{positions}
use Rattle.pattern.specs.House.{house_patterns}
use Rattle.pattern.specs.Examples.{Row, bad_texts}
use Rattle.pattern.proofs.Promise as pattern-theorems
use Rattle.patterns.specs.Calls.{Accepted, RefusesPatterns, JudgePatterns, ReadOutcome, ReadResult}
use Rattle.patterns.specs.Promised.{TextOf, OverLimit}
use Rattle.patterns.specs.Examples.{Example, house_bytes, house_lengths, examples}
use Rattle.patterns.proofs.Unique as unique
use Rattle.patterns.proofs.Promise as promise
use Rattle.patterns.proofs.Judging.{judged_of, judged_of_lem}
use Rattle.patterns.proofs.Worked as worked

module _ {patterns lengths : List ℕ} where
  -- whatever bytes and lengths are lent, something is told of them
  pub judge_patterns_exists : (a : Answer) × JudgePatterns patterns lengths a
  judge_patterns_exists = (judged_of patterns lengths, judged_of_lem patterns lengths)

  -- and nothing else
  pub judge_patterns_unique : {a b : Answer}
      → JudgePatterns patterns lengths a
      → JudgePatterns patterns lengths b
      → a ≡ b
  judge_patterns_unique = unique.judge_patterns_unique

  -- reading them leaves one answer and one content of both tables
  pub read_outcome_unique : {readers follow : List ℕ} {a b : Answer} {xs ys zs ws : List ℕ}
      → ReadOutcome patterns lengths readers follow a xs ys
      → ReadOutcome patterns lengths readers follow b zs ws
      → ◌≡◌ {A = ReadResult} (a, xs, ys) (b, zs, ws)
  read_outcome_unique = unique.read_outcome_unique

  -- patterns that are accepted have one list of meanings, as many as lengths; each is the meaning of its text; none
  -- matches the empty string
  pub accepted_unique : {rs qs : List Expression}
      → Accepted patterns lengths rs
      → Accepted patterns lengths qs
      → qs ≡ rs
  accepted_unique accept other = promise.accepted_unique accept other

  pub accepted_length : {rs : List Expression} → Accepted patterns lengths rs → length rs ≡ length lengths
  accepted_length = promise.accepted_length

  pub accepted_text : {rs : List Expression}
      → Accepted patterns lengths rs
      → (k : ℕ) {x : Expression}
      → get_elem? rs k ≡ some x
      → TextOf (patterns_of patterns lengths) k x
  accepted_text = promise.accepted_text

  pub accepted_none_empty : {rs : List Expression} → Accepted patterns lengths rs → (k : ℕ) → ¬ Pattern rs k []
  accepted_none_empty = promise.accepted_none_empty

  -- refusal 14 tells the place and the number of the first bad pattern
  pub refuses_bad : {a : Answer}
      → RefusesPatterns patterns lengths a
      → a.number ≡ pattern
      → FirstBad (patterns_of patterns lengths) a.place a.detail
  refuses_bad = promise.refuses_bad

  -- refusal 4 tells by its place which limit is passed
  pub refuses_limit : {a : Answer}
      → RefusesPatterns patterns lengths a
      → a.number ≡ limit
      → OverLimit patterns lengths a.place
  refuses_limit = promise.refuses_limit

-- the place in the text of the first bad pattern: below its length the bytes before the place begin a pattern, and with
-- its byte they begin none; at the length the whole begins one
pub first_bad_place : {texts : List (List ℕ)} {i k : ℕ} (b : FirstBad texts i k)
    → (i ≤ length b.text)
    × (i < length b.text → Viable (take i b.text) × ¬ Viable (take (suc i) b.text))
    × (i ≡ length b.text → Viable b.text)
first_bad_place b = pattern-theorems.pattern_place b.bad

-- the house patterns are accepted with their meanings, which have 17 positions
pub house_accepted : Accepted house_bytes house_lengths house_patterns
house_accepted = worked.house_accepted

pub house_positions : positions house_patterns ≡ 17
house_positions = (pattern-theorems.house_sizes).1

-- each bad text of the examples, lent alone, is told at its place
pub bad_texts_told : (j : ℕ) (r : Row)
    → get_elem? bad_texts j ≡ some r
    → JudgePatterns r.text (length r.text ∷ []) (refusal pattern r.place 0)
bad_texts_told j r e = worked.one_bad (pattern-theorems.bad_texts_lem j r e)

-- and of each worked list its answer is told
pub examples_judged : (j : ℕ) (e : Example)
    → get_elem? examples j ≡ some e
    → JudgePatterns e.patterns e.lengths e.answer
examples_judged = worked.examples_judged
