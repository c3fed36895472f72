-- Patterns judged one after the other: none yet, one more, and what is told of all.
use mathlib.Core.Path.{◌≡◌, refl, sym, ◌∙◌, subst}
use mathlib.Core.List.{List, [], ◌∷◌, ◌++◌, append_assoc, append-nil}
use Prim.Native.Nat.{ℕ, suc, ◌+◌, ◌-◌, ◌≤◌, ◌<◌, min}
use native.Mathlib.Numerals.{add-one}
use native.Mathlib.Omega.{arith}
use lib.ListN.{length, take, drop, get_or, length-append, drop_of_length-le}
use Rattle.answers.specs.Answers.{refusal}
use Rattle.answers.specs.Limits.{most_patterns, most_positions, position_words, point_words}
use Rattle.answers.specs.Refusals.{limit}
use Rattle.pattern.specs.Pattern.{Expression}
use Rattle.pattern.specs.Written.{BadAt, Good, patterns_of, FirstBad, AllGood}
use Rattle.pattern.specs.Positions.{size, positions, Point, Start, start_position, start_end, ReadsIn}
use Rattle.pattern.proofs.Promise.{positions_append, reads_in_more}
use Rattle.pattern.proofs.Promise.{null_exact, onward_below, reads_below}
use Rattle.parts.specs.declared.Part.{Part}
use Rattle.parts.specs.Rows.{Rows}
use Rattle.parts.specs.Parts.{Told, Tabled}
use Rattle.parts.proofs.Promise.{rows_none, rows_then, rows_alike}
use Rattle.positions.specs.Whole.{PatternMeant}
use Rattle.patterns.specs.Calls.{Meanings, no_texts, RefusesPatterns, many_positions, point_at}
use Rattle.patterns.specs.Gathering.{Finished, NextIn, after_position, at_the_start, GoodSoFar, AllMeant, Gathered}
use Rattle.patterns.proofs.Pointing.{next_more}
use Rattle.patterns.proofs.Texts.{next_text, all_good_more, meanings_more, meanings_length, first_bad_there}

-- with no pattern nothing can come first or next
no_start : (t : Point) → ¬ Start [] t
no_start t (start_position a f) = let bad : ◌≡◌ {A = ℕ} 0 1 = cc a.at in omega arith
no_start t (start_end a f) = let bad : ◌≡◌ {A = ℕ} 0 1 = cc a.at in omega arith

no_next : (p q : ℕ) → ¬ NextIn [] p q
unfolding positions
no_next p q (after_position below o) = omega (arith, onward_below o)
no_next p q (at_the_start s) = no_start (point_at q) s

no_reads : (b p : ℕ) → ¬ ReadsIn [] p b
unfolding positions
no_reads b p r = omega (arith, reads_below r)

-- the positions with one pattern more
one_more : (rs : List Expression) (x : Expression) → positions (rs ++ (x ∷ [])) ≡ positions rs + size x
unfolding positions
one_more rs x = omega (arith, positions_append rs (x ∷ []))

module _ {patterns lengths R F : List ℕ} where
  pub judged_none : GoodSoFar patterns lengths R F 0 0 0 R F
  unfolding positions
  judged_none =
      record {
        gone = [];
        meanings = [];
        texts = refl;
        gone_length = refl;
        start_inside = omega arith;
        means = no_texts;
        good = record { good = λ j t e. let bad : ◌≡◌ {A = ℕ} 0 1 = cc in absurd (omega arith) };
        counted = refl;
        reads = λ few. rows_none R no_reads;
        follows = λ few. rows_none F no_next;
      }

  module _ {number start count : ℕ} {R₁ F₁ : List ℕ} (g : GoodSoFar patterns lengths R F number start count R₁ F₁)
      (below : number < length lengths) {end : ℕ}
      (ends : end ≡ start + min (get_or lengths number 0) (length patterns - start)) where
    -- the bytes of the next pattern, and the patterns behind it
    abbrev text : List ℕ
    text = take (end - start) (drop start patterns)

    abbrev behind : List (List ℕ)
    behind = patterns_of (drop end patterns) (drop (suc number) lengths)

    all_texts : patterns_of patterns lengths ≡ g.gone ++ (text ∷ behind)
    all_texts = rw (← next_text patterns lengths start number end below ends) g.texts

    more_texts : patterns_of patterns lengths ≡ (g.gone ++ (text ∷ [])) ++ behind
    more_texts = rw append_assoc all_texts

    -- a bad pattern is the first bad one
    pub bad_more : {place : ℕ} → BadAt text place → FirstBad (patterns_of patterns lengths) place number
    bad_more bad = first_bad_there behind all_texts g.gone_length g.good bad

    -- a good one stands behind the others
    module _ {part : Part} {R₂ F₂ : List ℕ} (m : PatternMeant text count R₁ F₁ part R₂ F₂) where
      abbrev meanings_then : List Expression
      meanings_then = g.meanings ++ (m.meaning ∷ [])

      from_there : positions meanings_then ≤ most_positions → count ≡ positions g.meanings
      from_there fit = omega (arith, g.counted, one_more g.meanings m.meaning)

      told_there : positions meanings_then ≤ most_positions → Told (positions g.meanings) m.meaning part
      told_there fit = subst (λ (n : ℕ). Told n m.meaning part) (from_there fit) m.told

      tabled_there : positions meanings_then ≤ most_positions
          → Tabled (positions g.meanings) m.meaning R₁ F₁ R₂ F₂
      tabled_there fit = subst (λ (n : ℕ). Tabled n m.meaning R₁ F₁ R₂ F₂) (from_there fit) m.tabled

      reads_then : positions meanings_then ≤ most_positions
          → Rows position_words R R₂ (λ b p. ReadsIn meanings_then p b)
      reads_then fit =
          let size_fits : positions g.meanings + size m.meaning ≤ most_positions =
          omega (arith, one_more g.meanings m.meaning) in
          rows_alike (λ b p. ((reads_in_more g.meanings m.meaning).1, (reads_in_more g.meanings m.meaning).0))
          (rows_then (g.reads (omega arith)) ((tabled_there fit).reads size_fits))

      follows_then : {F₃ : List ℕ}
          → Finished part number F₂ F₃
          → positions meanings_then ≤ most_positions
          → Rows point_words F F₃ (NextIn meanings_then)
      follows_then finished fit =
          let size_fits : positions g.meanings + size m.meaning ≤ most_positions =
          omega (arith, one_more g.meanings m.meaning) in
          let t = told_there fit in
          let there : number ≡ length g.meanings = sym g.gone_length ∙ sym (meanings_length g.means) in
          rows_alike (next_more g.meanings m.meaning size_fits m.not_null (t.last size_fits) (t.first size_fits))
          (rows_then (g.follows (omega arith)) (rows_then ((tabled_there fit).follows size_fits) (rw there at finished)))

      is_good : Good text
      is_good =
          record {
            meaning = m.meaning;
            pattern = m.pattern;
            not_empty = λ matches. m.not_null (null_exact.1 matches);
          }

      pub good_more : {F₃ : List ℕ}
          → Finished part number F₂ F₃
          → GoodSoFar patterns lengths R F (number + 1) end part.count R₂ F₃
      good_more finished =
          record {
            gone = g.gone ++ (text ∷ []);
            meanings = meanings_then;
            texts = rw add-one more_texts;
            gone_length = omega (arith, length-append g.gone (text ∷ []), g.gone_length);
            start_inside = omega (arith, g.start_inside);
            means = meanings_more g.means m.pattern;
            good = all_good_more g.good is_good;
            counted = omega (arith, m.told.count, g.counted, one_more g.meanings m.meaning);
            reads = reads_then;
            follows = follows_then finished;
          }

  -- all of them
  module _ {count : ℕ} {R₁ F₁ : List ℕ} (few : length lengths ≤ most_patterns)
      (all : AllMeant patterns lengths R F count R₁ F₁) where
    all_gone : patterns_of patterns lengths ≡ all.judged.gone
    unfolding patterns_of
    all_gone =
        all.judged.texts ∙ rw (drop_of_length-le lengths {i = length lengths} (omega arith), append-nil)

    means_all : Meanings (patterns_of patterns lengths) all.judged.meanings
    means_all = rw all_gone all.judged.means

    good_all : AllGood (patterns_of patterns lengths)
    good_all = rw all_gone all.judged.good

    pub too_many : most_positions < count → RefusesPatterns patterns lengths (refusal limit most_positions 0)
    too_many past = many_positions few means_all good_all (omega (arith, all.judged.counted))

    pub gathered : count ≤ most_positions → Gathered patterns lengths R F R₁ F₁
    gathered within =
        let g = all.judged in
        let fit : positions g.meanings ≤ most_positions = omega (arith, g.counted) in
        record {
          meanings = g.meanings;
          accepted = record { few = few; means = means_all; good = good_all; fit = fit };
          reads = g.reads fit;
          follows = g.follows fit;
        }
