-- Which text is bad, and where: one place a text, one text a list.
use mathlib.Core.Path.{◌≡◌, refl, ap, ◌∙◌, subst}
use mathlib.Core.Logic.{◌⊎◌, inl, inr}
use mathlib.Core.Bool.{Bool, true, false}
use mathlib.Core.List.{List, [], ◌∷◌, append-nil}
use mathlib.Core.Option.{Option, some, none}
use Prim.Native.Nat.{ℕ, zero, suc, ◌<◌, ◌≤◌}
use native.Mathlib.Omega.{arith}
use lib.ListN.{length, take, drop, get_elem?}
use lib.Seq.{take-length}
use Rattle.pattern.specs.Pattern.{Expression, Matches}
use Rattle.pattern.specs.Written.{Viable, BadAt, malformed, empty, Good, patterns_of, FirstBad, AllGood}
use Rattle.pattern.specs.Reader.{Outcome, means, refused, read_pattern}
use Rattle.pattern.proofs.Nullable.{nullable, null_matches, matches_null}
use Rattle.pattern.proofs.Place.{malformed_place, refused_malformed, same_meaning}
use Rattle.pattern.proofs.Sound.{read_pattern_lem}

-- the place at which a text is bad, by computing
unfoldable pub bad_place : List ℕ → Option ℕ
bad_place s = elim (read_pattern s) [ means x ↦ elim (nullable x) [ true ↦ some (length s) | false ↦ none ] | refused i ↦ some i ]

-- a text is good, or bad at a place
data Judged (s : List ℕ) : Option ℕ → Type 0 where
  judged_good : Good s → Judged s none
  judged_bad : {i : ℕ} → BadAt s i → Judged s (some i)

judged : (s : List ℕ) → Judged s (bad_place s)
unfolding bad_place
judged s = go (read_pattern s) refl
  where
    by_null : (x : Expression) (t : Bool)
        → nullable x ≡ t
        → read_pattern s ≡ means x
        → Judged s (elim t as (λ b. Option ℕ) [ true ↦ some (length s) | false ↦ none ])
    by_null x true n e = judged_bad (empty (read_pattern_lem e) (null_matches x n))
    by_null x false n e = judged_good (record { meaning = x; pattern = read_pattern_lem e; not_empty = λ m. let bad : ◌≡◌ {A = ℕ} 0 1 = cc (matches_null m) in omega arith })

    go : (o : Outcome)
        → read_pattern s ≡ o
        → Judged s (elim o as (λ p. Option ℕ) [ means x ↦ elim (nullable x) as (λ b. Option ℕ) [ true ↦ some (length s) | false ↦ none ] | refused i ↦ some i ])
    go (means x) e = by_null x (nullable x) refl e
    go (refused i) e = judged_bad (malformed (refused_malformed s e))

-- the place is one, and a good text has none
pub bad_place_lem : {s : List ℕ} {i j : ℕ} → BadAt s i → BadAt s j → i ≡ j
bad_place_lem (malformed m) (malformed n) = malformed_place m n
bad_place_lem (malformed m) (empty {x = x} w e) = absurd (m.not_pattern x w)
bad_place_lem (empty {x = x} w e) (malformed n) = absurd (n.not_pattern x w)
bad_place_lem (empty w e) (empty v f) = refl

pub good_not_bad : {s : List ℕ} {i : ℕ} → Good s → ¬ BadAt s i
good_not_bad g (malformed m) = m.not_pattern g.meaning g.pattern
good_not_bad g (empty {x = x} w e) = g.not_empty (subst (λ (y : Expression). Matches y []) (same_meaning w g.pattern) e)

-- below the length the bytes before the place begin a pattern, and with its byte they begin none
pub bad_below : {s : List ℕ} {i : ℕ} → BadAt s i → i < length s → Viable (take i s) × ¬ Viable (take (suc i) s)
bad_below (malformed m) h = (m.begun, m.blocked h)
bad_below (empty w e) h = absurd (omega arith)

-- at the length the whole begins a pattern
pub bad_at_length : {s : List ℕ} {i : ℕ} → BadAt s i → i ≡ length s → Viable s
bad_at_length {s} (malformed {i = i} m) e = subst Viable (ap (λ (n : ℕ). take n s) e ∙ take-length s) m.begun
bad_at_length {s} (empty {x = x} w f) e = record { rest = []; meaning = x; pattern = rw append-nil w }

pub bad_inside : {s : List ℕ} {i : ℕ} → BadAt s i → i ≤ length s
bad_inside (malformed m) = m.inside
bad_inside (empty w e) = omega arith

-- the place computed is the place, and none is computed exactly of a good text
pub place_bad : (s : List ℕ) {i : ℕ} → bad_place s ≡ some i → BadAt s i
place_bad s {i} e = go (judged s) e
  where
    go : {o : Option ℕ} → Judged s o → o ≡ some i → BadAt s i
    go (judged_good g) f = let bad : ◌≡◌ {A = ℕ} 0 1 = cc in absurd (omega arith)
    go (judged_bad b) f = subst (BadAt s) (cc) b

pub place_good : (s : List ℕ) → bad_place s ≡ none → Good s
place_good s e = go (judged s) e
  where
    go : {o : Option ℕ} → Judged s o → o ≡ none → Good s
    go (judged_good g) f = g
    go (judged_bad b) f = let bad : ◌≡◌ {A = ℕ} 0 1 = cc in absurd (omega arith)

pub good_or_bad : (s : List ℕ) → Good s ⊎ ((i : ℕ) × BadAt s i)
good_or_bad s = go (judged s)
  where
    go : {o : Option ℕ} → Judged s o → Good s ⊎ ((i : ℕ) × BadAt s i)
    go (judged_good g) = inl g
    go (judged_bad {i = i} b) = inr (i, b)

-- the first bad text is one, and it exists unless all are good
no_lower_bad : {texts : List (List ℕ)} {i j k l : ℕ} → FirstBad texts i k → FirstBad texts j l → ¬ (k < l)
no_lower_bad {k = k} a b h = good_not_bad (b.lower k h a.text a.at) a.bad

pub first_bad_place : {texts : List (List ℕ)} {i j k l : ℕ}
    → FirstBad texts i k
    → FirstBad texts j l
    → (i ≡ j) × (k ≡ l)
first_bad_place {texts} {i} {j} {k} {l} a b =
    let same : k ≡ l = omega (arith, no_lower_bad a b, no_lower_bad b a) in
    let text : a.text ≡ b.text = cc (ap (λ (n : ℕ). get_elem? texts n) same, a.at, b.at) in
    (bad_place_lem (subst (λ (s : List ℕ). BadAt s i) text a.bad) b.bad, same)

first_bad_later : {s : List ℕ} {texts : List (List ℕ)} {i k : ℕ}
    → Good s
    → FirstBad texts i k
    → FirstBad (s ∷ texts) i (suc k)
first_bad_later {s} {texts} {i} {k} g b = record { text = b.text; at = b.at; bad = b.bad; lower = below }
  where
    below : (j : ℕ) → j < suc k → (t : List ℕ) → get_elem? (s ∷ texts) j ≡ some t → Good t
    below zero h t e = subst Good (cc) g
    below (suc j) h t e = b.lower j (omega arith) t e

all_good_more : {s : List ℕ} {texts : List (List ℕ)} → Good s → AllGood texts → AllGood (s ∷ texts)
all_good_more {s} {texts} g all = record { good = each }
  where
    each : (j : ℕ) (t : List ℕ) → get_elem? (s ∷ texts) j ≡ some t → Good t
    each zero t e = subst Good (cc) g
    each (suc j) t e = all.good j t e

pub first_bad_exists : (texts : List (List ℕ)) → AllGood texts ⊎ ((i : ℕ) × (k : ℕ) × FirstBad texts i k)
first_bad_exists [] = inl (record { good = λ j t e. let bad : ◌≡◌ {A = ℕ} 0 1 = cc in absurd (omega arith) })
first_bad_exists (s ∷ texts) = go (good_or_bad s) (first_bad_exists texts)
  where
    go : Good s ⊎ ((i : ℕ) × BadAt s i)
        → AllGood texts ⊎ ((i : ℕ) × (k : ℕ) × FirstBad texts i k)
        → AllGood (s ∷ texts) ⊎ ((i : ℕ) × (k : ℕ) × FirstBad (s ∷ texts) i k)
    go (inr b) rest = inr (b.0, 0, record { text = s; at = refl; bad = b.1; lower = λ j h t e. absurd (omega arith) })
    go (inl g) (inl all) = inl (all_good_more g all)
    go (inl g) (inr b) = inr (b.0, suc b.1, first_bad_later g b.2)

pub first_bad_not_all_good : {texts : List (List ℕ)} {i k : ℕ} → FirstBad texts i k → ¬ AllGood texts
first_bad_not_all_good {k = k} b all = good_not_bad (all.good k b.text b.at) b.bad

-- each length has its text
pub patterns_length : (bytes lengths : List ℕ) → length (patterns_of bytes lengths) ≡ length lengths
unfolding patterns_of
patterns_length bytes [] = refl
patterns_length bytes (n ∷ lengths) = ap suc (patterns_length (drop n bytes) lengths)
