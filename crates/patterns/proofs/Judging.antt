-- What is told of any patterns, by computing: an answer for each bytes and lengths, which the contract of judging allows.
use mathlib.Core.Path.{◌≡◌, refl, subst}
use mathlib.Core.Bool.{Bool, true, false}
use mathlib.Core.List.{List, [], ◌∷◌}
use mathlib.Core.Option.{some}
use Prim.Native.Nat.{ℕ, zero, suc, ◌<◌}
use native.Mathlib.Decide.{dec_lt}
use native.Mathlib.Omega.{arith}
use lib.Dec.{ltb}
use lib.ListN.{length, get_elem?}
use borrow.Author.Tests.{lt-ltb, le-ltb}
use Rattle.answers.specs.declared.Answer.{Answer}
use Rattle.answers.specs.Answers.{done, refusal}
use Rattle.answers.specs.Limits.{most_patterns, most_positions}
use Rattle.answers.specs.Refusals.{limit, pattern}
use Rattle.pattern.specs.Pattern.{Expression}
use Rattle.pattern.specs.Written.{BadAt, malformed, empty, Good, patterns_of, FirstBad, AllGood}
use Rattle.pattern.specs.Reader.{Outcome, means, refused, read_pattern}
use Rattle.pattern.specs.Positions.{positions}
use Rattle.pattern.proofs.Promise.{nullable, null_matches, matches_null}
use Rattle.pattern.proofs.Promise.{read_exact, refused_exact}
use Rattle.patterns.specs.Calls.{Meanings, no_texts, text_means, many_patterns, bad_pattern, many_positions}
use Rattle.patterns.specs.Calls.{JudgePatterns, accepted, refused as told_refused}

-- the place and the number of the first bad text, or what all mean
pub data Scanned : Type 0 where
  bad : ℕ → ℕ → Scanned
  meant : List Expression → Scanned

unfoldable pub behind : Expression → Scanned → Scanned
behind x (bad i k) = bad i (suc k)
behind x (meant rs) = meant (x ∷ rs)

unfoldable pub scan : List (List ℕ) → Scanned
scan [] = meant []
scan (s ∷ texts) =
    elim (read_pattern s) [
      | refused i ↦ bad i 0
      | means x ↦ elim (nullable x) [ true ↦ bad (length s) 0 | false ↦ behind x (scan texts) ]
    ]

unfoldable pub found_answer : Scanned → Answer
found_answer (bad i k) = refusal pattern i k
found_answer (meant rs) = elim (ltb most_positions (positions rs)) [ true ↦ refusal limit most_positions 0 | false ↦ done 0 ]

unfoldable pub judged_of : (patterns lengths : List ℕ) → Answer
judged_of patterns lengths =
    elim (ltb most_patterns (length lengths)) [
      | true ↦ refusal limit most_patterns 0
      | false ↦ found_answer (scan (patterns_of patterns lengths))
    ]

-- what is found is so
data ScannedIn (texts : List (List ℕ)) : Scanned → Type 0 where
  found_bad : {i k : ℕ} → FirstBad texts i k → ScannedIn texts (bad i k)
  found_meant : {rs : List Expression} → Meanings texts rs → AllGood texts → ScannedIn texts (meant rs)

found_first : {s : List ℕ} {texts : List (List ℕ)} {i : ℕ} → BadAt s i → ScannedIn (s ∷ texts) (bad i 0)
found_first {s} b = found_bad (record { text = s; at = refl; bad = b; lower = λ j (h : j < 0) t e. absurd (omega arith) })

good_more : {s : List ℕ} (texts : List (List ℕ))
    → Good s
    → (k : ℕ)
    → ((j : ℕ) → j < k → (t : List ℕ) → get_elem? texts j ≡ some t → Good t)
    → (j : ℕ) → j < suc k → (t : List ℕ) → get_elem? (s ∷ texts) j ≡ some t → Good t
good_more texts g k lower zero h t e = subst Good (cc) g
good_more texts g k lower (suc j) h t e = lower j (omega arith) t e

is_good : {s : List ℕ} {x : Expression} → read_pattern s ≡ means x → nullable x ≡ false → Good s
is_good {s} {x} means_x full =
    record {
      meaning = x;
      pattern = (read_exact s).0 means_x;
      not_empty = λ m. let bad : ◌≡◌ {A = ℕ} 0 1 = cc (matches_null m) in omega arith;
    }

module _ {s : List ℕ} {texts : List (List ℕ)} {x : Expression}
    (means_x : read_pattern s ≡ means x) (full : nullable x ≡ false) where
  found_behind : {f : Scanned} → ScannedIn texts f → ScannedIn (s ∷ texts) (behind x f)
  unfolding behind
  found_behind (found_bad {i = i} {k = k} b) =
      found_bad (record { text = b.text; at = b.at; bad = b.bad; lower = good_more texts (is_good means_x full) k b.lower })
  found_behind (found_meant m all) =
      found_meant (text_means ((read_exact s).0 means_x) m)
      (record { good = λ j t e. good_more texts (is_good means_x full) j (λ i h u f. all.good i u f) j (omega arith) t e })

found : (texts : List (List ℕ)) → ScannedIn texts (scan texts)
unfolding scan
found [] = found_meant no_texts (record { good = λ j t e. let bad : ◌≡◌ {A = ℕ} 0 1 = cc in absurd (omega arith) })
found (s ∷ texts) = go (read_pattern s) refl (found texts)
  where
    by_null : (x : Expression) (t : Bool)
        → nullable x ≡ t
        → read_pattern s ≡ means x
        → ScannedIn texts (scan texts)
        → ScannedIn (s ∷ texts) (elim t as (λ b. Scanned) [ true ↦ bad (length s) 0 | false ↦ behind x (scan texts) ])
    by_null x true null e rest = found_first (empty ((read_exact s).0 e) (null_matches x null))
    by_null x false full e rest = found_behind e full rest

    go : (o : Outcome)
        → read_pattern s ≡ o
        → ScannedIn texts (scan texts)
        → ScannedIn (s ∷ texts)
        (elim o as (λ p. Scanned) [
          | refused i ↦ bad i 0
          | means x ↦ elim (nullable x) as (λ b. Scanned) [ true ↦ bad (length s) 0 | false ↦ behind x (scan texts) ]
        ])
    go (means x) e rest = by_null x (nullable x) refl e rest
    go (refused i) e rest = found_first (malformed ((refused_exact s).0 e))

-- texts of which the meanings were found
pub scan_meant : {texts : List (List ℕ)} {rs : List Expression}
    → scan texts ≡ meant rs
    → Meanings texts rs × AllGood texts
scan_meant {texts} {rs} e = go (subst (ScannedIn texts) e (found texts))
  where
    go : ScannedIn texts (meant rs) → Meanings texts rs × AllGood texts
    go (found_meant m all) = (m, all)

module _ {patterns lengths : List ℕ} (few : length lengths < suc most_patterns) where
  found_told : {f : Scanned} → ScannedIn (patterns_of patterns lengths) f → JudgePatterns patterns lengths (found_answer f)
  unfolding found_answer
  found_told (found_bad b) = told_refused (bad_pattern (omega arith) b)
  found_told (found_meant {rs = rs} m all) = go (dec_lt most_positions (positions rs))
    where
      go : Dec (most_positions < positions rs) → JudgePatterns patterns lengths (found_answer (meant rs))
      go (yes past) =
          rw (found_answer, lt-ltb most_positions (positions rs) past) (told_refused (many_positions (omega arith) m all past))
      go (no within) =
          rw (found_answer, le-ltb most_positions (positions rs) (omega arith))
          (accepted (record { few = omega arith; means = m; good = all; fit = omega arith }))

-- the answer computed is allowed
pub judged_of_lem : (patterns lengths : List ℕ) → JudgePatterns patterns lengths (judged_of patterns lengths)
unfolding judged_of
judged_of_lem patterns lengths = go (dec_lt most_patterns (length lengths))
  where
    go : Dec (most_patterns < length lengths) → JudgePatterns patterns lengths (judged_of patterns lengths)
    go (yes past) = rw (judged_of, lt-ltb most_patterns (length lengths) past) (told_refused (many_patterns past))
    go (no within) =
        rw (judged_of, le-ltb most_patterns (length lengths) (omega arith)) (found_told (omega arith) (found (patterns_of patterns lengths)))
