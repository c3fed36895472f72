-- No contract of the crate allows a second outcome.
use mathlib.Core.Path.{◌≡◌, refl, sym, ap, ◌∙◌}
use mathlib.Core.List.{List}
use Prim.Native.Nat.{ℕ, ◌+◌, ◌*◌, ◌/◌, ◌%◌, ◌≤◌, ◌<◌}
use native.Mathlib.Decide.{dec_lt}
use native.Mathlib.Nat.{div-add-mod', mod-lt, div-lt_iff_lt-mul}
use native.Mathlib.Omega.{arith}
use lib.ListN.{length, get_or}
use lib.Seq.{ext_get_or}
use Rattle.sets.specs.Words.{AreWords}
use Rattle.sets.proofs.Promise.{exactly_unique}
use Rattle.points.specs.Points.{points_at}
use Rattle.points.proofs.Promise.{points_same}
use Rattle.answers.specs.declared.Answer.{Answer}
use Rattle.answers.specs.Limits.{most_positions, position_words, point_words}
use Rattle.pattern.specs.Pattern.{Expression}
use Rattle.pattern.specs.Positions.{positions}
use Rattle.pattern.proofs.Promise.{meaning_unique, first_bad_unique, first_bad_not_all_good}
use Rattle.patterns.specs.Calls.{Meanings, no_texts, text_means, Accepted, RefusesPatterns, many_patterns}
use Rattle.patterns.specs.Calls.{bad_pattern, many_positions, JudgePatterns, refused, accepted, TablesOf}
use Rattle.patterns.specs.Calls.{ReadOutcome, no_room, ReadResult, refused as tables_refused, served}

-- texts have at most one list of meanings
pub meanings_unique : {texts : List (List ℕ)} {rs qs : List Expression} → Meanings texts rs → Meanings texts qs → rs ≡ qs
meanings_unique no_texts no_texts = refl
meanings_unique (text_means p m) (text_means q n) = rw (meaning_unique p q, meanings_unique m n)

module _ {patterns lengths : List ℕ} where
  pub refuses_unique : {a b : Answer} → RefusesPatterns patterns lengths a → RefusesPatterns patterns lengths b → a ≡ b
  refuses_unique (many_patterns m) (many_patterns n) = refl
  refuses_unique (many_patterns m) (bad_pattern few bad) = absurd (omega arith)
  refuses_unique (many_patterns m) (many_positions few means good past) = absurd (omega arith)
  refuses_unique (bad_pattern few bad) (many_patterns n) = absurd (omega arith)
  refuses_unique (bad_pattern few bad) (bad_pattern few' other) =
      let same = first_bad_unique bad other in
      rw (same.0, same.1)
  refuses_unique (bad_pattern few bad) (many_positions few' means good past) = absurd (first_bad_not_all_good bad good)
  refuses_unique (many_positions few means good past) (many_patterns n) = absurd (omega arith)
  refuses_unique (many_positions few means good past) (bad_pattern few' bad) = absurd (first_bad_not_all_good bad good)
  refuses_unique (many_positions few means good past) (many_positions few' means' good' past') = refl

  -- what is refused is not accepted
  pub refused_not_accepted : {a : Answer} {rs : List Expression}
      → RefusesPatterns patterns lengths a
      → ¬ Accepted patterns lengths rs
  refused_not_accepted (many_patterns m) accept = omega (arith, accept.few)
  refused_not_accepted (bad_pattern few bad) accept = first_bad_not_all_good bad accept.good
  refused_not_accepted (many_positions few means good past) accept =
      omega (arith, accept.fit, ap positions (meanings_unique means accept.means))

  pub judge_patterns_unique : {a b : Answer} → JudgePatterns patterns lengths a → JudgePatterns patterns lengths b → a ≡ b
  judge_patterns_unique (refused r) (refused s) = refuses_unique r s
  judge_patterns_unique (refused r) (accepted accept) = absurd (refused_not_accepted r accept)
  judge_patterns_unique (accepted accept) (refused s) = absurd (refused_not_accepted s accept)
  judge_patterns_unique (accepted accept) (accepted other) = refl

-- a table is determined by its rows and the words behind them
same_rows : (n count : ℕ) (xs ys : List ℕ)
    → 0 < n
    → AreWords xs
    → AreWords ys
    → length xs ≡ length ys
    → ((i : ℕ) → i < count → points_at xs (i * n) n ≡ points_at ys (i * n) n)
    → ((k : ℕ) → count * n ≤ k → get_or xs k 0 ≡ get_or ys k 0)
    → xs ≡ ys
same_rows n count xs ys some words_xs words_ys long rows beyond =
    ext_get_or 0 xs ys long (λ k inside. go k (dec_lt k (count * n)))
  where
    go : (k : ℕ) → Dec (k < count * n) → get_or xs k 0 ≡ get_or ys k 0
    go k (yes below) =
        let i = k / n in
        let there : i * n + k % n ≡ k = div-add-mod' k n in
        let row : i < count = (div-lt_iff_lt-mul some).1 below in
        rw (← there)
        ((points_same xs (i * n) ys (i * n) n words_xs words_ys).1 (rows i row) (k % n) (mod-lt k some))
    go k (no past) = beyond k (omega arith)

module _ {rs : List Expression} {xs ys zs ws : List ℕ} (a : TablesOf rs xs ys) (b : TablesOf rs zs ws) where
  readers_unique : length xs ≡ length zs → xs ≡ zs
  readers_unique long =
      same_rows position_words 256 xs zs (omega arith) a.readers_words b.readers_words long
      (λ i below.
      exactly_unique (points_at xs (i * position_words) position_words) (points_at zs (i * position_words) position_words)
      (a.reads i below) (b.reads i below))
      (λ k past. a.readers_beyond k past ∙ sym (b.readers_beyond k past))

  follow_unique : length ys ≡ length ws → ys ≡ ws
  follow_unique long =
      same_rows point_words (most_positions + 1) ys ws (omega arith) a.follow_words b.follow_words long
      (λ i below. row i (dec_lt i most_positions) below)
      (λ k past. a.follow_beyond k past ∙ sym (b.follow_beyond k past))
    where
      row : (i : ℕ) → Dec (i < most_positions) → i < most_positions + 1
          → points_at ys (i * point_words) point_words ≡ points_at ws (i * point_words) point_words
      row i (yes inside) below =
          exactly_unique (points_at ys (i * point_words) point_words) (points_at ws (i * point_words) point_words)
          (a.onward i inside) (b.onward i inside)
      row i (no past) below =
          let last : i ≡ most_positions = omega arith in
          rw last
          (exactly_unique (points_at ys (most_positions * point_words) point_words) (points_at ws (most_positions * point_words) point_words)
          a.start b.start)

  pub tables_unique : length xs ≡ length zs → length ys ≡ length ws → (xs ≡ zs) × (ys ≡ ws)
  tables_unique long_readers long_follow = (readers_unique long_readers, follow_unique long_follow)

module _ {patterns lengths readers follow : List ℕ} where
  pub read_outcome_unique : {a b : Answer} {xs ys zs ws : List ℕ}
      → ReadOutcome patterns lengths readers follow a xs ys
      → ReadOutcome patterns lengths readers follow b zs ws
      → ◌≡◌ {A = ReadResult} (a, xs, ys) (b, zs, ws)
  read_outcome_unique (no_room lack) (no_room lack') = refl
  read_outcome_unique (no_room lack) (tables_refused fit s) = absurd (lack fit)
  read_outcome_unique (no_room lack) (served fit accept k l tables) = absurd (lack fit)
  read_outcome_unique (tables_refused fit r) (no_room lack) = absurd (lack fit)
  read_outcome_unique (tables_refused fit r) (tables_refused fit' s) = rw (refuses_unique r s)
  read_outcome_unique (tables_refused fit r) (served fit' accept k l tables) = absurd (refused_not_accepted r accept)
  read_outcome_unique (served fit accept k l tables) (no_room lack) = absurd (lack fit)
  read_outcome_unique (served fit accept k l tables) (tables_refused fit' s) = absurd (refused_not_accepted s accept)
  read_outcome_unique (served fit accept k l tables) (served fit' accept' k' l' tables') =
      let means = meanings_unique accept'.means accept.means in
      let same = tables_unique tables (rw means at tables') (k ∙ sym k') (l ∙ sym l') in
      rw (same.0, same.1)
