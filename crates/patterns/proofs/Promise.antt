-- What crates above cite of reading patterns: done gives what the texts mean, none of it matching the empty string, at
-- most 256 positions, and the rows of both tables; each refusal says what is wrong.
use mathlib.Core.Path.{◌≡◌, refl, ◌∙◌, subst}
use mathlib.Core.Logic.{◌≢◌, ◌⊎◌, inl, inr}
use mathlib.Core.List.{List, []}
use mathlib.Core.Option.{some}
use Prim.Native.Nat.{ℕ, zero, suc, ◌≤◌, max}
use native.Mathlib.Omega.{arith}
use lib.ListN.{length, get_elem?}
use Rattle.answers.specs.declared.Answer.{Answer}
use Rattle.answers.specs.Answers.{done, refusal}
use Rattle.answers.specs.Limits.{most_patterns, most_positions}
use Rattle.answers.specs.Refusals.{served, limit, room, pattern}
use Rattle.pattern.specs.Pattern.{Expression, Matches, Pattern}
use Rattle.pattern.specs.Written.{IsPattern, patterns_of, FirstBad}
use Rattle.pattern.proofs.Promise.{meaning_unique, pattern_place, patterns_length}
use Rattle.patterns.specs.Calls.{Meanings, no_texts, text_means, Accepted, RefusesPatterns, many_patterns}
use Rattle.patterns.specs.Calls.{bad_pattern, many_positions, JudgePatterns, refused, accepted, TablesFit}
use Rattle.patterns.specs.Calls.{ReadOutcome, no_room, refused as tables_refused, served as tables_served}
use Rattle.patterns.specs.Promised.{TextOf, OverLimit, over_patterns, over_positions, ReadServed, ReadRefused}
use Rattle.patterns.proofs.Texts.{meanings_length, text_length, text_below}
pub use Rattle.patterns.proofs.Unique.{meanings_unique, refuses_unique, refused_not_accepted}
pub use Rattle.patterns.proofs.Judging.{judged_of, judged_of_lem}
pub use Rattle.patterns.proofs.Worked.{examples_judged, house_accepted}
pub use Rattle.patterns.proofs.Unique.{judge_patterns_unique, tables_unique, read_outcome_unique}

text_of : {texts : List (List ℕ)} {rs : List Expression} → Meanings texts rs → (k : ℕ) {x : Expression}
    → get_elem? rs k ≡ some x
    → TextOf texts k x
text_of no_texts k e = let bad : ◌≡◌ {A = ℕ} 0 1 = cc in absurd (omega arith)
text_of (text_means {s = s} p m) zero {x} e = record { text = s; at = refl; pattern = subst (IsPattern s) (cc) p }
text_of (text_means p m) (suc k) e =
    let t = text_of m k e in
    record { text = t.text; at = t.at; pattern = t.pattern }

module _ {patterns lengths : List ℕ} where
  -- patterns that are accepted: as many meanings as lengths, each the meaning of its text, and none matches the empty
  -- string
  module _ {rs : List Expression} (accept : Accepted patterns lengths rs) where
    pub accepted_length : length rs ≡ length lengths
    accepted_length = meanings_length accept.means ∙ patterns_length patterns lengths

    pub accepted_text : (k : ℕ) {x : Expression} → get_elem? rs k ≡ some x → TextOf (patterns_of patterns lengths) k x
    accepted_text = text_of accept.means

    pub accepted_none_empty : (k : ℕ) → ¬ Pattern rs k []
    accepted_none_empty k p =
        let t = accepted_text k p.at in
        let g = accept.good.good k t.text t.at in
        g.not_empty (subst (λ (y : Expression). Matches y []) (meaning_unique t.pattern g.pattern) p.matches)

    pub accepted_unique : {qs : List Expression} → Accepted patterns lengths qs → qs ≡ rs
    accepted_unique other = meanings_unique other.means accept.means

  -- a refusal by what the patterns are is 4 or 14
  pub refuses_number : {a : Answer}
      → RefusesPatterns patterns lengths a
      → (a.number ≡ limit) ⊎ (a.number ≡ pattern)
  unfolding refusal
  refuses_number (many_patterns past) = inl refl
  refuses_number (bad_pattern few bad) = inr refl
  refuses_number (many_positions few means good past) = inl refl

  -- 14 tells the first bad pattern's place and number
  pub refuses_bad : {a : Answer}
      → RefusesPatterns patterns lengths a
      → a.number ≡ pattern
      → FirstBad (patterns_of patterns lengths) a.place a.detail
  unfolding refusal
  refuses_bad (many_patterns past) e = absurd (omega arith)
  refuses_bad (bad_pattern few bad) e = bad
  refuses_bad (many_positions few means good past) e = absurd (omega arith)

  -- 4 tells by its place which limit is passed
  pub refuses_limit : {a : Answer}
      → RefusesPatterns patterns lengths a
      → a.number ≡ limit
      → OverLimit patterns lengths a.place
  unfolding refusal
  refuses_limit (many_patterns past) e = over_patterns past
  refuses_limit (bad_pattern few bad) e = absurd (omega arith)
  refuses_limit (many_positions few means good past) e = over_positions few means good past

  -- a refusal's place lies within the bytes lent or is a limit, and its detail is the number of a pattern or 0
  pub refuses_bounded : {a : Answer}
      → RefusesPatterns patterns lengths a
      → (a.place ≤ max (length patterns) most_positions) × (a.detail ≤ most_patterns)
  unfolding refusal
  refuses_bounded (many_patterns past) = (omega arith, omega arith)
  refuses_bounded (bad_pattern {k = k} few bad) = (
    omega (arith, (pattern_place bad.bad).0, text_length patterns lengths k bad.at),
    omega (arith, text_below (patterns_of patterns lengths) k bad.at, patterns_length patterns lengths),
  )
  refuses_bounded (many_positions few means good past) = (omega arith, omega arith)

  not_served : {a : Answer} → RefusesPatterns patterns lengths a → a.number ≢ served
  not_served r = go (refuses_number r)
    where
      go : {n : ℕ} → (n ≡ limit) ⊎ (n ≡ pattern) → n ≢ served
      go (inl four) e = omega arith
      go (inr fourteen) e = omega arith

  not_room : {a : Answer} → RefusesPatterns patterns lengths a → a.number ≢ room
  not_room r = go (refuses_number r)
    where
      go : {n : ℕ} → (n ≡ limit) ⊎ (n ≡ pattern) → n ≢ room
      go (inl four) e = omega arith
      go (inr fourteen) e = omega arith

  -- judged: accepted, or refused
  pub judged_done : {a : Answer}
      → JudgePatterns patterns lengths a
      → a.number ≡ served
      → (rs : List Expression) × Accepted patterns lengths rs
  judged_done (refused r) e = absurd (not_served r e)
  judged_done (accepted {rs = rs} accept) e = (rs, accept)

  pub judged_refused : {a : Answer}
      → JudgePatterns patterns lengths a
      → a.number ≢ served
      → RefusesPatterns patterns lengths a
  unfolding done
  judged_refused (refused r) other = r
  judged_refused (accepted accept) other = absurd (other refl)

  -- read: by the number, the meanings with the rows of both tables, no room and nothing changed, or a refusal with no
  -- word other than 0; with tables long enough it is what the patterns are judged
  module _ {readers follow : List ℕ} where
    pub read_done : {a : Answer} {xs ys : List ℕ}
        → ReadOutcome patterns lengths readers follow a xs ys
        → a.number ≡ served
        → ReadServed patterns lengths readers follow xs ys
    unfolding refusal
    read_done (no_room lack) e = absurd (omega arith)
    read_done (tables_refused fit r) e = absurd (not_served r e)
    read_done (tables_served {rs = rs} fit accept k l tables) e =
        record { meanings = rs; accepted = accept; readers_sized = k; follow_sized = l; tables = tables }

    pub read_no_room : {a : Answer} {xs ys : List ℕ}
        → ReadOutcome patterns lengths readers follow a xs ys
        → a.number ≡ room
        → ¬ TablesFit readers follow × (xs ≡ readers) × (ys ≡ follow)
    unfolding done
    read_no_room (no_room lack) e = (lack, refl, refl)
    read_no_room (tables_refused fit r) e = absurd (not_room r e)
    read_no_room (tables_served fit accept k l tables) e = absurd (omega arith)

    pub read_refused : {a : Answer} {xs ys : List ℕ}
        → ReadOutcome patterns lengths readers follow a xs ys
        → a.number ≢ served
        → a.number ≢ room
        → ReadRefused patterns lengths readers follow a xs ys
    unfolding done refusal
    read_refused (no_room lack) other fits = absurd (fits refl)
    read_refused (tables_refused fit r) other fits =
        record { refuses = r; readers_cleared = refl; follow_cleared = refl }
    read_refused (tables_served fit accept k l tables) other fits = absurd (other refl)

    pub read_judged : {a : Answer} {xs ys : List ℕ}
        → ReadOutcome patterns lengths readers follow a xs ys
        → TablesFit readers follow
        → JudgePatterns patterns lengths a
    read_judged (no_room lack) fit = absurd (lack fit)
    read_judged (tables_refused fit r) also = refused r
    read_judged (tables_served fit accept k l tables) also = accepted accept
