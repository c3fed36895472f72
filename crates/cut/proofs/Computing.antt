-- The sets of points of patterns by computing, each exactly what its relation says.
use mathlib.Core.Path.{◌≡◌, refl, sym, ◌∙◌}
use mathlib.Core.Bool.{Bool, true, false, ◌&&◌, ◌||◌, not, false≢true}
use mathlib.Core.Logic.{◌⊎◌, inl, inr}
use mathlib.Core.List.{[], ◌∷◌}
use Prim.Native.Nat.{ℕ, ◌+◌, ◌≤◌, ◌<◌}
use native.Mathlib.Decide.{dec_le}
use native.Mathlib.Omega.{arith}
use borrow.Author.Tests.{eqb-true, eq-eqb, lt-ltb, le-ltb}
use lib.Dec.{ltb}
use Rattle.sets.specs.Sets.{member, Exactly, only, united}
use Rattle.sets.specs.Words.{places}
use Rattle.sets.proofs.Promise.{member_only, only_fits, exactly_alike, exactly_none, exactly_united, places_are}
use Rattle.answers.specs.Limits.{most_patterns, most_positions, point_words}
use Rattle.pattern.specs.Pattern.{Class, InClass, here, there, Expression, one, cat, alt, plus, opt}
use Rattle.pattern.specs.Positions.{size, Null, FirstPosition, LastPosition, FollowPosition, Reads}
use Rattle.pattern.proofs.Promise.{first_of_one, first_of_cat, first_of_alt, first_of_plus, first_of_opt}
use Rattle.pattern.proofs.Promise.{last_of_one, last_of_cat, last_of_alt, last_of_plus, last_of_opt}
use Rattle.pattern.proofs.Promise.{follow_of_one, follow_of_cat, follow_of_alt, follow_of_plus, follow_of_opt}
use Rattle.pattern.proofs.Promise.{reads_of_one, reads_of_cat, reads_of_alt, reads_of_plus, reads_of_opt}
use Rattle.pattern.proofs.Promise.{nullable, null_exact, null_matches, matches_null}

-- whether a class has a byte
unfoldable pub in_class : Class → ℕ → Bool
in_class [] b = false
in_class (r ∷ c) b = (not (ltb b r.low) && not (ltb r.high b)) || in_class c b

class_sound : (c : Class) (b : ℕ) → in_class c b ≡ true → InClass c b
unfolding in_class
class_sound [] b e = absurd (false≢true e)
class_sound (r ∷ c) b e = go (dec_le r.low b) (dec_le b r.high) (class_sound c b)
  where
    go : Dec (r.low ≤ b) → Dec (b ≤ r.high) → (in_class c b ≡ true → InClass c b) → InClass (r ∷ c) b
    go (yes low) (yes high) rest = here low high
    go (yes low) (no past) rest =
        there (rest (rw (le-ltb b r.low low, lt-ltb r.high b (omega arith)) at e))
    go (no short) high rest = there (rest (rw (lt-ltb b r.low (omega arith)) at e))

or_true : (t : Bool) → t || true ≡ true
or_true true = refl
or_true false = refl

class_complete : {c : Class} {b : ℕ} → InClass c b → in_class c b ≡ true
unfolding in_class
class_complete (here {r = r} {b = b} low high) = rw (le-ltb b r.low low, le-ltb r.high b high)
class_complete (there {r = r} {b = b} i) = rw (class_complete i) (or_true (not (ltb b r.low) && not (ltb r.high b)))

-- a set if there is a way to it, else none
unfoldable pub given : Bool → ℕ → ℕ
given true x = x
given false x = 0

unfoldable pub first_set : ℕ → Expression → ℕ
first_set n (one c) = only n
first_set n (cat x y) = united (first_set n x) (given (nullable x) (first_set (n + size x) y))
first_set n (alt x y) = united (first_set n x) (first_set (n + size x) y)
first_set n (plus x) = first_set n x
first_set n (opt x) = first_set n x

unfoldable pub last_set : ℕ → Expression → ℕ
last_set n (one c) = only n
last_set n (cat x y) = united (last_set (n + size x) y) (given (nullable y) (last_set n x))
last_set n (alt x y) = united (last_set n x) (last_set (n + size x) y)
last_set n (plus x) = last_set n x
last_set n (opt x) = last_set n x

-- what follows position p
unfoldable pub follow_set : ℕ → Expression → ℕ → ℕ
follow_set n (one c) p = 0
follow_set n (cat x y) p =
    united (united (follow_set n x p) (follow_set (n + size x) y p)) (given (member p (last_set n x)) (first_set (n + size x) y))
follow_set n (alt x y) p = united (follow_set n x p) (follow_set (n + size x) y p)
follow_set n (plus x) p = united (follow_set n x p) (given (member p (last_set n x)) (first_set n x))
follow_set n (opt x) p = follow_set n x p

-- the positions that read byte b
unfoldable pub reads_set : ℕ → Expression → ℕ → ℕ
reads_set n (one c) b = given (in_class c b) (only n)
reads_set n (cat x y) b = united (reads_set n x b) (reads_set (n + size x) y b)
reads_set n (alt x y) b = united (reads_set n x b) (reads_set (n + size x) y b)
reads_set n (plus x) b = reads_set n x b
reads_set n (opt x) b = reads_set n x b

-- in the width of a set of points
abbrev pub Points : ℕ → (ℕ → Type 0) → Type 0
Points x P = Exactly (places point_words) x P

pub only_exact : (n : ℕ) → n < most_positions + most_patterns → Points (only n) (λ k. k ≡ n)
only_exact n below =
    record {
      fits = only_fits (places point_words) n (omega (arith, places_are point_words));
      sound = λ k m. eqb-true k n (sym (member_only k n) ∙ m);
      complete = λ k e. member_only k n ∙ eq-eqb k n e;
    }

-- of a set that is given where A holds
pub given_exact : {A : Type 0} {x : ℕ} {P : ℕ → Type 0} (t : Bool) → (t ≡ true → A) → (A → t ≡ true) → Points x P
    → Points (given t x) (λ k. A × P k)
unfolding given
given_exact true sound complete exact = exactly_alike (λ k. (λ p. (sound refl, p), λ p. p.1)) exact
given_exact false sound complete exact = exactly_none (places point_words) (λ k p. false≢true (complete p.0))

-- of a set that is given where x can be passed without a byte
pub passed_exact : {y : ℕ} {P : ℕ → Type 0} (x : Expression) → Points y P → Points (given (nullable x) y) (λ k. Null x × P k)
passed_exact x exact =
    given_exact (nullable x) (λ e. null_exact.1 (null_matches x e)) (λ null. matches_null (null_exact.0 null)) exact

-- with the numbers of their positions in the range of positions
pub first_exact : (n : ℕ) (x : Expression) → n + size x ≤ most_positions → Points (first_set n x) (FirstPosition n x)
unfolding first_set size
first_exact n (one c) fits =
    exactly_alike (λ k. (first_of_one.1, first_of_one.0)) (only_exact n (omega arith))
first_exact n (cat x y) fits =
    exactly_alike (λ k. (first_of_cat.1, first_of_cat.0))
    (exactly_united (first_exact n x (omega arith)) (passed_exact x (first_exact (n + size x) y (omega arith))))
first_exact n (alt x y) fits =
    exactly_alike (λ k. (first_of_alt.1, first_of_alt.0))
    (exactly_united (first_exact n x (omega arith)) (first_exact (n + size x) y (omega arith)))
first_exact n (plus x) fits = exactly_alike (λ k. (first_of_plus.1, first_of_plus.0)) (first_exact n x fits)
first_exact n (opt x) fits = exactly_alike (λ k. (first_of_opt.1, first_of_opt.0)) (first_exact n x fits)

pub last_exact : (n : ℕ) (x : Expression) → n + size x ≤ most_positions → Points (last_set n x) (LastPosition n x)
unfolding last_set size
last_exact n (one c) fits =
    exactly_alike (λ k. (last_of_one.1, last_of_one.0)) (only_exact n (omega arith))
last_exact n (cat x y) fits =
    exactly_alike (λ k. (λ p. last_of_cat.1 (swapped p), λ p. back (last_of_cat.0 p)))
    (exactly_united (last_exact (n + size x) y (omega arith)) (passed_exact y (last_exact n x (omega arith))))
  where
    swapped : {A B C : Type 0} → A ⊎ (B × C) → A ⊎ (C × B)
    swapped (inl a) = inl a
    swapped (inr p) = inr (p.1, p.0)

    back : {A B C : Type 0} → A ⊎ (C × B) → A ⊎ (B × C)
    back (inl a) = inl a
    back (inr p) = inr (p.1, p.0)
last_exact n (alt x y) fits =
    exactly_alike (λ k. (last_of_alt.1, last_of_alt.0))
    (exactly_united (last_exact n x (omega arith)) (last_exact (n + size x) y (omega arith)))
last_exact n (plus x) fits = exactly_alike (λ k. (last_of_plus.1, last_of_plus.0)) (last_exact n x fits)
last_exact n (opt x) fits = exactly_alike (λ k. (last_of_opt.1, last_of_opt.0)) (last_exact n x fits)

-- a set that is given behind the last positions of x
pub behind_last : {n : ℕ} {x : Expression} {y : ℕ} {P : ℕ → Type 0} (p : ℕ) → n + size x ≤ most_positions → Points y P
    → Points (given (member p (last_set n x)) y) (λ k. LastPosition n x p × P k)
behind_last {n} {x} p fits exact =
    let last = last_exact n x fits in
    given_exact (member p (last_set n x)) (last.sound p) (last.complete p) exact

pub follow_exact : (n : ℕ) (x : Expression) (p : ℕ) → n + size x ≤ most_positions → Points (follow_set n x p) (FollowPosition n x p)
unfolding follow_set size
follow_exact n (one c) p fits = exactly_none (places point_words) (λ k f. follow_of_one f)
follow_exact n (cat x y) p fits =
    exactly_alike (λ k. (follow_of_cat.1, follow_of_cat.0))
    (exactly_united (exactly_united (follow_exact n x p (omega arith)) (follow_exact (n + size x) y p (omega arith)))
    (behind_last p (omega arith) (first_exact (n + size x) y (omega arith))))
follow_exact n (alt x y) p fits =
    exactly_alike (λ k. (follow_of_alt.1, follow_of_alt.0))
    (exactly_united (follow_exact n x p (omega arith)) (follow_exact (n + size x) y p (omega arith)))
follow_exact n (plus x) p fits =
    exactly_alike (λ k. (follow_of_plus.1, follow_of_plus.0))
    (exactly_united (follow_exact n x p fits) (behind_last p fits (first_exact n x fits)))
follow_exact n (opt x) p fits = exactly_alike (λ k. (follow_of_opt.1, follow_of_opt.0)) (follow_exact n x p fits)

pub reads_exact : (n : ℕ) (x : Expression) (b : ℕ) → n + size x ≤ most_positions → Points (reads_set n x b) (λ p. Reads n x p b)
unfolding reads_set size
reads_exact n (one c) b fits =
    exactly_alike (λ k. (λ p. reads_of_one.1 (p.1, p.0), λ r. let (e, i) = reads_of_one.0 r in (i, e)))
    (given_exact (in_class c b) (class_sound c b) class_complete (only_exact n (omega arith)))
reads_exact n (cat x y) b fits =
    exactly_alike (λ k. (reads_of_cat.1, reads_of_cat.0))
    (exactly_united (reads_exact n x b (omega arith)) (reads_exact (n + size x) y b (omega arith)))
reads_exact n (alt x y) b fits =
    exactly_alike (λ k. (reads_of_alt.1, reads_of_alt.0))
    (exactly_united (reads_exact n x b (omega arith)) (reads_exact (n + size x) y b (omega arith)))
reads_exact n (plus x) b fits = exactly_alike (λ k. (reads_of_plus.1, reads_of_plus.0)) (reads_exact n x b fits)
reads_exact n (opt x) b fits = exactly_alike (λ k. (reads_of_opt.1, reads_of_opt.0)) (reads_exact n x b fits)
