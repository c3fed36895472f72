-- The texts of patterns one after the other: the next one of them, and what holds of all with one more.
use mathlib.Core.Path.{◌≡◌, refl, ap, subst}
use mathlib.Core.List.{List, [], ◌∷◌, ◌++◌}
use mathlib.Core.Option.{some}
use Prim.Native.Nat.{ℕ, zero, suc, ◌+◌, ◌-◌, ◌≤◌, ◌<◌, min}
use native.Mathlib.Decide.{dec_lt}
use native.Mathlib.Omega.{arith}
use lib.ListN.{length, take, drop, get_or, get_elem?, length-take, length-drop, drop_of_length-le}
use lib.Seq.{drop-cons, take_all, drop-drop}
use Rattle.pattern.specs.Pattern.{Expression}
use Rattle.pattern.specs.Written.{IsPattern, BadAt, Good, patterns_of, FirstBad, AllGood}
use Rattle.patterns.specs.Calls.{Meanings, no_texts, text_means}

-- so many of the elements as there are
take_min : (n : ℕ) (l : List ℕ) → take n l ≡ take (min n (length l)) l
take_min n l = go (dec_lt n (length l))
  where
    go : Dec (n < length l) → take n l ≡ take (min n (length l)) l
    go (yes below) = let same : min n (length l) ≡ n = omega arith in rw same
    go (no past) =
        let all : min n (length l) ≡ length l = omega arith in
        rw (all, take_all n l (omega arith), take_all (length l) l (omega arith))

drop_min : (n : ℕ) (l : List ℕ) → drop n l ≡ drop (min n (length l)) l
drop_min n l = go (dec_lt n (length l))
  where
    go : Dec (n < length l) → drop n l ≡ drop (min n (length l)) l
    go (yes below) = let same : min n (length l) ≡ n = omega arith in rw same
    go (no past) =
        let all : min n (length l) ≡ length l = omega arith in
        rw (all, drop_of_length-le l {i = n} (omega arith), drop_of_length-le l {i = length l} (omega arith))

-- the next pattern ends where its length says, or where the bytes do
pub next_text : (patterns lengths : List ℕ) (start number end : ℕ)
    → number < length lengths
    → end ≡ start + min (get_or lengths number 0) (length patterns - start)
    → patterns_of (drop start patterns) (drop number lengths)
    ≡ take (end - start) (drop start patterns) ∷ patterns_of (drop end patterns) (drop (suc number) lengths)
unfolding patterns_of
next_text patterns lengths start number end below ends =
    let n = get_or lengths number 0 in
    let rest = drop start patterns in
    let size : min n (length rest) ≡ end - start = omega (arith, length-drop start patterns) in
    let whole : start + min n (length rest) ≡ end = omega (arith, length-drop start patterns) in
    rw (drop-cons lengths number 0 below, take_min n rest, drop_min n rest, drop-drop (min n (length rest)) start patterns, whole, size)

pub text_below : (texts : List (List ℕ)) (k : ℕ) {s : List ℕ} → get_elem? texts k ≡ some s → k < length texts
text_below [] k e = let bad : ◌≡◌ {A = ℕ} 0 1 = cc in absurd (omega arith)
text_below (t ∷ texts) zero e = omega arith
text_below (t ∷ texts) (suc k) e = omega (arith, text_below texts k e)

-- no text is longer than the bytes lent
pub text_length : (patterns lengths : List ℕ) (k : ℕ) {s : List ℕ}
    → get_elem? (patterns_of patterns lengths) k ≡ some s
    → length s ≤ length patterns
unfolding patterns_of
text_length patterns [] k e = let bad : ◌≡◌ {A = ℕ} 0 1 = cc in absurd (omega arith)
text_length patterns (n ∷ lengths) zero {s} e =
    let first : take n patterns ≡ s = cc in
    omega (arith, ap length first, length-take n patterns)
text_length patterns (n ∷ lengths) (suc k) e =
    omega (arith, text_length (drop n patterns) lengths k e, length-drop n patterns)

-- the text right behind others
pub text_there : (gone : List (List ℕ)) (s : List ℕ) (rest : List (List ℕ))
    → get_elem? (gone ++ (s ∷ rest)) (length gone) ≡ some s
text_there [] s rest = refl
text_there (g ∷ gone) s rest = text_there gone s rest

-- and one of the others
text_before : (gone rest : List (List ℕ)) (j : ℕ) {t : List ℕ}
    → j < length gone
    → get_elem? (gone ++ rest) j ≡ some t
    → get_elem? gone j ≡ some t
text_before [] rest j below e = absurd (omega arith)
text_before (g ∷ gone) rest zero below e = e
text_before (g ∷ gone) rest (suc j) below e = text_before gone rest j (omega arith) e

good_at : (gone : List (List ℕ)) {s : List ℕ}
    → ((j : ℕ) (t : List ℕ) → get_elem? gone j ≡ some t → Good t)
    → Good s
    → (j : ℕ) (t : List ℕ)
    → get_elem? (gone ++ (s ∷ [])) j ≡ some t
    → Good t
good_at [] all good zero t e = subst Good (cc) good
good_at [] all good (suc j) t e = let bad : ◌≡◌ {A = ℕ} 0 1 = cc in absurd (omega arith)
good_at (g ∷ gone) all good zero t e = all zero t e
good_at (g ∷ gone) all good (suc j) t e = good_at gone (λ i u f. all (suc i) u f) good j t e

pub all_good_more : {gone : List (List ℕ)} {s : List ℕ} → AllGood gone → Good s → AllGood (gone ++ (s ∷ []))
all_good_more {gone} all good = record { good = good_at gone all.good good }

pub meanings_more : {gone : List (List ℕ)} {rs : List Expression} {s : List ℕ} {x : Expression}
    → Meanings gone rs
    → IsPattern s x
    → Meanings (gone ++ (s ∷ [])) (rs ++ (x ∷ []))
meanings_more no_texts p = text_means p no_texts
meanings_more (text_means q m) p = text_means q (meanings_more m p)

pub meanings_length : {gone : List (List ℕ)} {rs : List Expression} → Meanings gone rs → length rs ≡ length gone
meanings_length no_texts = refl
meanings_length (text_means p m) = ap suc (meanings_length m)

-- the first bad text stands behind good ones
pub first_bad_there : {texts gone : List (List ℕ)} (rest : List (List ℕ)) {s : List ℕ} {i k : ℕ}
    → texts ≡ gone ++ (s ∷ rest)
    → length gone ≡ k
    → AllGood gone
    → BadAt s i
    → FirstBad texts i k
first_bad_there {gone = gone} rest {s} {k = k} texts number all bad =
    record {
      text = s;
      at = rw (texts, ← number) (text_there gone s rest);
      bad = bad;
      lower = λ j below t e. all.good j t (text_before gone (s ∷ rest) j (omega arith) (rw texts at e));
    }
