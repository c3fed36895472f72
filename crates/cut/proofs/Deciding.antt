-- Every relation on the positions of patterns can be decided, and so can whether there is a set of points.
use mathlib.Core.Path.{◌≡◌, refl, sym, subst, ◌∙◌}
use mathlib.Core.Bool.{Bool, true, false, false≢true}
use mathlib.Core.Logic.{◌↔◌, ◌⊎◌, inl, inr}
use mathlib.Core.List.{List, [], ◌∷◌}
use mathlib.Core.Option.{Option, some, none, none-ne-some, some-injective}
use Prim.Native.Nat.{ℕ, zero, suc, ◌+◌, ◌≤◌, ◌<◌}
use native.Mathlib.Decide.{dec_le, ℕ_discrete}
use native.Mathlib.Omega.{arith}
use lib.ListN.{length, take, get_elem?}
use Rattle.sets.specs.Sets.{Exactly, added}
use Rattle.sets.proofs.Promise.{exactly_alike, exactly_none, exactly_added}
use Rattle.pattern.specs.Pattern.{Class, InClass, here, there, Expression, one, cat, alt, plus, opt}
use Rattle.pattern.specs.Positions.{size, Null, null_opt, FirstPosition, LastPosition, FollowPosition, Reads}
use Rattle.pattern.specs.Positions.{positions, Point, position, end_of, Placed, Start, start_position, start_end}
use Rattle.pattern.specs.Positions.{Onward, onward_position, onward_end, ReadsIn, reads_in}
use Rattle.pattern.proofs.Promise.{null_of_one, null_of_cat, null_of_alt, null_of_plus}
use Rattle.pattern.proofs.Promise.{first_of_one, first_of_cat, first_of_alt, first_of_plus, first_of_opt}
use Rattle.pattern.proofs.Promise.{last_of_one, last_of_cat, last_of_alt, last_of_plus, last_of_opt}
use Rattle.pattern.proofs.Promise.{follow_of_one, follow_of_cat, follow_of_alt, follow_of_plus, follow_of_opt}
use Rattle.pattern.proofs.Promise.{reads_of_one, reads_of_cat, reads_of_alt, reads_of_plus, reads_of_opt}
use Rattle.pattern.proofs.Promise.{below_length}

-- what is decided of parts is decided of the whole
pub as_decided : {A B : Type 0} → A ↔ B → Dec B → Dec A
as_decided same (yes b) = yes (same.1 b)
as_decided same (no n) = no (λ a. n (same.0 a))

pub both_decided : {A B : Type 0} → Dec A → Dec B → Dec (A × B)
both_decided (yes a) (yes b) = yes (a, b)
both_decided (yes a) (no n) = no (λ p. n p.1)
both_decided (no n) b = no (λ p. n p.0)

either_decided : {A B : Type 0} → Dec A → Dec B → Dec (A ⊎ B)
either_decided (yes a) b = yes (inl a)
either_decided (no n) (yes b) = yes (inr b)
either_decided {A} {B} (no n) (no m) = no neither
  where
    neither : A ⊎ B → ⊥
    neither (inl a) = n a
    neither (inr b) = m b

pub true_decided : (b : Bool) → Dec (b ≡ true)
true_decided true = yes refl
true_decided false = no (λ e. false≢true e)

-- some number below a bound
pub below_decided : {Q : ℕ → Type 0} (n : ℕ) → ((k : ℕ) → Dec (Q k)) → Dec ((k : ℕ) × (k < n) × Q k)
below_decided zero decide = no (λ (k, below, q). omega arith)
below_decided {Q} (suc n) decide = go (decide n) (below_decided n decide)
  where
    go : Dec (Q n) → Dec ((k : ℕ) × (k < n) × Q k) → Dec ((k : ℕ) × (k < suc n) × Q k)
    go (yes q) d = yes (n, omega arith, q)
    go (no last) (yes (k, below, q)) = yes (k, omega arith, q)
    go (no last) (no lower) = no (λ (k, below, q). other k below q (ℕ_discrete k n))
      where
        other : (k : ℕ) → k < suc n → Q k → Dec (k ≡ n) → ⊥
        other k below q (yes same) = last (subst Q same q)
        other k below q (no less) = lower (k, omega arith, q)

class_decided : (c : Class) (b : ℕ) → Dec (InClass c b)
class_decided [] b = no (λ i. elim i [ ])
class_decided (r ∷ c) b = go (dec_le r.low b) (dec_le b r.high) (class_decided c b)
  where
    in_first : InClass (r ∷ c) b → ((r.low ≤ b) × (b ≤ r.high)) ⊎ InClass c b
    in_first (here low high) = inl (low, high)
    in_first (there i) = inr i

    go : Dec (r.low ≤ b) → Dec (b ≤ r.high) → Dec (InClass c b) → Dec (InClass (r ∷ c) b)
    go low high (yes i) = yes (there i)
    go (yes low) (yes high) (no n) = yes (here low high)
    go (yes low) (no past) (no n) = no (λ i. elim (in_first i) [ inl p ↦ past p.1 | inr j ↦ n j ])
    go (no short) high (no n) = no (λ i. elim (in_first i) [ inl p ↦ short p.0 | inr j ↦ n j ])

null_decided : (x : Expression) → Dec (Null x)
null_decided (one c) = no null_of_one
null_decided (cat x y) = as_decided null_of_cat (both_decided (null_decided x) (null_decided y))
null_decided (alt x y) = as_decided null_of_alt (either_decided (null_decided x) (null_decided y))
null_decided (plus x) = as_decided null_of_plus (null_decided x)
null_decided (opt x) = yes null_opt

first_decided : (n : ℕ) (x : Expression) (p : ℕ) → Dec (FirstPosition n x p)
first_decided n (one c) p = as_decided first_of_one (ℕ_discrete p n)
first_decided n (cat x y) p =
    as_decided first_of_cat
    (either_decided (first_decided n x p) (both_decided (null_decided x) (first_decided (n + size x) y p)))
first_decided n (alt x y) p = as_decided first_of_alt (either_decided (first_decided n x p) (first_decided (n + size x) y p))
first_decided n (plus x) p = as_decided first_of_plus (first_decided n x p)
first_decided n (opt x) p = as_decided first_of_opt (first_decided n x p)

last_decided : (n : ℕ) (x : Expression) (p : ℕ) → Dec (LastPosition n x p)
last_decided n (one c) p = as_decided last_of_one (ℕ_discrete p n)
last_decided n (cat x y) p =
    as_decided last_of_cat
    (either_decided (last_decided (n + size x) y p) (both_decided (last_decided n x p) (null_decided y)))
last_decided n (alt x y) p = as_decided last_of_alt (either_decided (last_decided n x p) (last_decided (n + size x) y p))
last_decided n (plus x) p = as_decided last_of_plus (last_decided n x p)
last_decided n (opt x) p = as_decided last_of_opt (last_decided n x p)

follow_decided : (n : ℕ) (x : Expression) (p q : ℕ) → Dec (FollowPosition n x p q)
follow_decided n (one c) p q = no follow_of_one
follow_decided n (cat x y) p q =
    as_decided follow_of_cat
    (either_decided (either_decided (follow_decided n x p q) (follow_decided (n + size x) y p q))
    (both_decided (last_decided n x p) (first_decided (n + size x) y q)))
follow_decided n (alt x y) p q =
    as_decided follow_of_alt (either_decided (follow_decided n x p q) (follow_decided (n + size x) y p q))
follow_decided n (plus x) p q =
    as_decided follow_of_plus
    (either_decided (follow_decided n x p q) (both_decided (last_decided n x p) (first_decided n x q)))
follow_decided n (opt x) p q = as_decided follow_of_opt (follow_decided n x p q)

reads_decided : (n : ℕ) (x : Expression) (p b : ℕ) → Dec (Reads n x p b)
reads_decided n (one c) p b = as_decided reads_of_one (both_decided (ℕ_discrete p n) (class_decided c b))
reads_decided n (cat x y) p b = as_decided reads_of_cat (either_decided (reads_decided n x p b) (reads_decided (n + size x) y p b))
reads_decided n (alt x y) p b = as_decided reads_of_alt (either_decided (reads_decided n x p b) (reads_decided (n + size x) y p b))
reads_decided n (plus x) p b = as_decided reads_of_plus (reads_decided n x p b)
reads_decided n (opt x) p b = as_decided reads_of_opt (reads_decided n x p b)

module _ (rs : List Expression) where
  -- pattern k of the list has Q, with its positions from n on
  Of : (ℕ → ℕ → Expression → Type 0) → ℕ → Type 0
  Of Q k = (n : ℕ) × (x : Expression) × Placed rs k n x × Q k n x

  of_decided : {Q : ℕ → ℕ → Expression → Type 0} → ((k n : ℕ) (x : Expression) → Dec (Q k n x)) → (k : ℕ) → Dec (Of Q k)
  unfolding Of
  of_decided {Q} decide k = go (get_elem? rs k) refl
    where
      at : (x : Expression) → get_elem? rs k ≡ some x → Dec (Q k (positions (take k rs)) x) → Dec (Of Q k)
      at x e (yes q) = yes (positions (take k rs), x, record { at = e; from = refl }, q)
      at x e (no n) = no (λ (m, y, placed, q).
          n (subst (λ (z : Expression). Q k (positions (take k rs)) z) (some-injective y x (sym placed.at ∙ e))
          (subst (λ (i : ℕ). Q k i y) placed.from q)))

      go : (o : Option Expression) → get_elem? rs k ≡ o → Dec (Of Q k)
      go none e = no (λ (n, x, placed, q). none-ne-some x (sym e ∙ placed.at))
      go (some x) e = at x e (decide k (positions (take k rs)) x)

  some_decided : {Q : ℕ → ℕ → Expression → Type 0} → ((k n : ℕ) (x : Expression) → Dec (Q k n x)) → Dec ((k : ℕ) × (k < length rs) × Of Q k)
  some_decided decide = below_decided (length rs) (of_decided decide)

  pub start_decided : (t : Point) → Dec (Start rs t)
  unfolding Of
  start_decided (position p) = as_decided (to, from) (some_decided {Q = λ k n x. FirstPosition n x p} (λ k n x. first_decided n x p))
    where
      to : Start rs (position p) → (k : ℕ) × (k < length rs) × Of (λ k n x. FirstPosition n x p) k
      to (start_position {k = k} {n = n} {x = x} at first) = (k, below_length rs k at.at, (n, x, at, first))

      from : ((k : ℕ) × (k < length rs) × Of (λ k n x. FirstPosition n x p) k) → Start rs (position p)
      from (k, below, (n, x, at, first)) = start_position at first
  start_decided (end_of k) = as_decided (to, from) (of_decided {Q = λ k n x. Null x} (λ k n x. null_decided x) k)
    where
      to : Start rs (end_of k) → Of (λ k n x. Null x) k
      to (start_end {n = n} {x = x} at null) = (n, x, at, null)

      from : Of (λ k n x. Null x) k → Start rs (end_of k)
      from (n, x, at, null) = start_end at null

  pub onward_decided : (p : ℕ) (t : Point) → Dec (Onward rs p t)
  unfolding Of
  onward_decided p (position q) =
      as_decided (to, from) (some_decided {Q = λ k n x. FollowPosition n x p q} (λ k n x. follow_decided n x p q))
    where
      to : Onward rs p (position q) → (k : ℕ) × (k < length rs) × Of (λ k n x. FollowPosition n x p q) k
      to (onward_position {k = k} {n = n} {x = x} at follows) = (k, below_length rs k at.at, (n, x, at, follows))

      from : ((k : ℕ) × (k < length rs) × Of (λ k n x. FollowPosition n x p q) k) → Onward rs p (position q)
      from (k, below, (n, x, at, follows)) = onward_position at follows
  onward_decided p (end_of k) = as_decided (to, from) (of_decided {Q = λ k n x. LastPosition n x p} (λ k n x. last_decided n x p) k)
    where
      to : Onward rs p (end_of k) → Of (λ k n x. LastPosition n x p) k
      to (onward_end {n = n} {x = x} at last) = (n, x, at, last)

      from : Of (λ k n x. LastPosition n x p) k → Onward rs p (end_of k)
      from (n, x, at, last) = onward_end at last

  pub reads_in_decided : (p b : ℕ) → Dec (ReadsIn rs p b)
  unfolding Of
  reads_in_decided p b = as_decided (to, from) (some_decided {Q = λ k n x. Reads n x p b} (λ k n x. reads_decided n x p b))
    where
      to : ReadsIn rs p b → (k : ℕ) × (k < length rs) × Of (λ k n x. Reads n x p b) k
      to (reads_in {k = k} {n = n} {x = x} at reads) = (k, below_length rs k at.at, (n, x, at, reads))

      from : ((k : ℕ) × (k < length rs) × Of (λ k n x. Reads n x p b) k) → ReadsIn rs p b
      from (k, below, (n, x, at, reads)) = reads_in at reads

-- where each place can be decided there is a set
module _ (w : ℕ) {P : ℕ → Type 0} (decide : (k : ℕ) → Dec (P k)) where
  -- the members below n
  abbrev Low : ℕ → ℕ → Type 0
  Low n k = (k < n) × P k

  low_set : (n : ℕ) → n ≤ w → (x : ℕ) × Exactly w x (Low n)
  low_set zero few = (0, exactly_none w (λ k p. omega (arith, p.0)))
  low_set (suc n) few = go (decide n) (low_set n (omega arith))
    where
      lower : ¬ P n → (k : ℕ) → Low (suc n) k → Dec (k ≡ n) → Low n k
      lower lack k p (yes same) = absurd (lack (subst P same p.1))
      lower lack k p (no other) = (omega (arith, p.0), p.1)

      up : P n → (k : ℕ) → Low n k ⊎ (k ≡ n) → Low (suc n) k
      up last k (inl p) = (omega (arith, p.0), p.1)
      up last k (inr same) = (omega arith, subst P (sym same) last)

      down : (k : ℕ) → Low (suc n) k → Dec (k ≡ n) → Low n k ⊎ (k ≡ n)
      down k p (yes same) = inr same
      down k p (no other) = inl (omega (arith, p.0), p.1)

      go : Dec (P n) → (x : ℕ) × Exactly w x (Low n) → (x : ℕ) × Exactly w x (Low (suc n))
      go (yes last) (x, exact) =
          (added n x, exactly_alike (λ k. (λ p. up last k p, λ p. down k p (ℕ_discrete k n))) (exactly_added n (omega arith) exact))
      go (no lack) (x, exact) =
          (x, exactly_alike (λ k. (λ p. (omega (arith, p.0), p.1), λ p. lower lack k p (ℕ_discrete k n))) exact)

  -- of those k that P holds of, which all are below w
  pub set_of_lem : ((k : ℕ) → P k → k < w) → (x : ℕ) × Exactly w x P
  set_of_lem below =
      let (x, exact) = low_set w (omega arith) in
      (x, exactly_alike (λ k. (λ p. p.1, λ p. (below k p, p))) exact)
