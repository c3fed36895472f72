-- Families of sets that grow: two that lie in each other are the same, steps that only add, passes of such steps and where one
-- changes nothing, and that a pass which changes something makes the sum of the sets larger.
use mathlib.Core.Path.{◌≡◌, refl, sym, ap, ◌∙◌, subst}
use mathlib.Core.Bool.{Bool, true, false, ◌&&◌}
use mathlib.Core.Logic.{◌≢◌, ◌⊎◌, inl, inr}
use mathlib.Core.List.{List, [], ◌∷◌}
use Prim.Native.Nat.{ℕ, zero, suc, ◌+◌, ◌*◌, ◌≤◌, ◌<◌}
use native.Mathlib.Decide.{ℕ_discrete, dec_lt}
use native.Mathlib.Nat.{suc-mul}
use native.Mathlib.Numerals.{add-one}
use native.Mathlib.Omega.{arith}
use lib.ListN.{length, get_or, set, replicate, length-set}
use lib.Seq.{ext_get_or, get_or-set_same, get_or-set_other, set-get_or, set_out}
use Rattle.sets.specs.Sets.{member, Subset, united}
use Rattle.sets.specs.Calls.{Decides, set_at, stored}
use Rattle.sets.proofs.Promise.{subset_le, or_left, or_right}
use Rattle.first.specs.Trail.{Grown}
use Rattle.first.specs.Steps.{Made, united_at, passed}

-- a family without members
pub no_member : (n A : ℕ) → ◌≡◌ {A = ℕ} (get_or (replicate n 0) A 0) 0
no_member zero A = refl
no_member (suc n) zero = refl
no_member (suc n) (suc A) = no_member n A

-- no set from number n on has a member
pub record Ends (n : ℕ) (cells : List ℕ) : Type 0 where
  pub beyond : (A : ℕ) → n ≤ A → get_or cells A 0 ≡ 0

pub ends_none : (n m : ℕ) → Ends n (replicate m 0)
ends_none n m = record { beyond = λ A past. no_member m A }

pub ends_stored : {n B : ℕ} {cells : List ℕ} → B < n → (x : ℕ) → Ends n cells → Ends n (stored cells B x)
ends_stored {B = B} {cells = cells} below x ends = record { beyond = λ A past. rw (get_or-set_other cells B A x 0 (λ same. omega arith)) (ends.beyond A past) }

pub grown_same : {fs : List ℕ} → Grown fs fs
grown_same = record { keeps = λ A k m. m }

pub grown_further : {fs gs hs : List ℕ} → Grown fs gs → Grown gs hs → Grown fs hs
grown_further f h = record { keeps = λ A k m. h.keeps A k (f.keeps A k m) }

-- a set united with more has lost nothing
pub grown_united : (fs : List ℕ) (B x : ℕ) → Grown fs (stored fs B (united (set_at fs B) x))
grown_united fs B x = record { keeps = λ A k m. go A k m (ℕ_discrete A B) (dec_lt B (length fs)) }
  where
    y : ℕ
    y = united (set_at fs B) x

    go : (A k : ℕ) → member k (get_or fs A 0) ≡ true → Dec (A ≡ B) → Dec (B < length fs) → member k (get_or (stored fs B y) A 0) ≡ true
    go A k m (no d) inside = rw (get_or-set_other fs B A y 0 d) m
    go A k m (yes e) (yes i) = rw (e, get_or-set_same fs B y 0 i) (or_left k (set_at fs B) x (rw e at m))
    go A k m (yes e) (no o) = rw (set_out fs B y (omega arith)) m

-- families that lie in each other are the same
pub grown_both : (xs ys : List ℕ) → length xs ≡ length ys → Grown xs ys → Grown ys xs → xs ≡ ys
grown_both xs ys e h k = ext_get_or 0 xs ys e (λ A inside. omega (arith, subset_le (get_or xs A 0) (get_or ys A 0) (h.keeps A), subset_le (get_or ys A 0) (get_or xs A 0) (k.keeps A)))

-- where uniting changes nothing, the addition was there already
pub united_nothing : (cells : List ℕ) (n x : ℕ) → n < length cells → united_at cells n x ≡ cells → Subset x (get_or cells n 0)
united_nothing cells n x inside e k m =
    let there : united (set_at cells n) x ≡ get_or cells n 0 = sym (get_or-set_same cells n (united (set_at cells n) x) 0 inside) ∙ ap (λ (xs : List ℕ). get_or xs n 0) e in
    rw there at (or_right k (set_at cells n) x m)

-- and where it is inside, it is there afterwards
pub united_there : (cells : List ℕ) (n x : ℕ) → n < length cells → Subset x (get_or (united_at cells n x) n 0)
united_there cells n x inside k m = rw (get_or-set_same cells n (united (set_at cells n) x) 0 inside) (or_right k (set_at cells n) x m)

-- a step that only adds
pub record Expands (f : List ℕ → List ℕ) : Type 0 where
  pub grows : (cells : List ℕ) → Grown cells (f cells)
  pub keeps : (cells : List ℕ) → length (f cells) ≡ length cells

pub expands_united : (n : ℕ) (x : List ℕ → ℕ) → Expands (λ cells. united_at cells n (x cells))
expands_united n x = record { grows = λ cells. grown_united cells n (x cells); keeps = λ cells. length-set cells n (united (set_at cells n) (x cells)) }

pub expands_then : {f h : List ℕ → List ℕ} → Expands f → Expands h → Expands (λ cells. h (f cells))
expands_then {f} {h} e d = record { grows = λ cells. grown_further (e.grows cells) (d.grows (f cells)); keeps = λ cells. d.keeps (f cells) ∙ e.keeps cells }

-- uniting changes nothing if the set stays as it was
pub made_united : (cells : List ℕ) (n x : ℕ) {after : List ℕ} (r : Bool)
    → after ≡ united_at cells n x
    → Decides r (get_or after n 0 ≡ get_or cells n 0)
    → Made (λ xs. united_at xs n x) cells after r
made_united cells n x {after} r made there = record { made = made; same = go r there }
  where
    stays : Dec (n < length cells) → get_or (united_at cells n x) n 0 ≡ get_or cells n 0 → united_at cells n x ≡ cells
    stays (yes inside) e = ap (set cells n) (sym (get_or-set_same cells n (united (set_at cells n) x) 0 inside) ∙ e) ∙ set-get_or cells n 0
    stays (no out) e = set_out cells n (united (set_at cells n) x) (omega arith)

    go : (r : Bool) → Decides r (get_or after n 0 ≡ get_or cells n 0) → Decides r (after ≡ cells)
    go true e = made ∙ stays (dec_lt n (length cells)) (rw made at e)
    go false d = λ same. d (ap (λ (xs : List ℕ). get_or xs n 0) same)

-- where one step after another changes nothing, neither does
pub nothing_then : {f h : List ℕ → List ℕ}
    → Expands f
    → Expands h
    → (cells : List ℕ)
    → h (f cells) ≡ cells
    → (f cells ≡ cells) × (h cells ≡ cells)
nothing_then {f} {h} e d cells same =
    let back : Grown (f cells) cells = subst (λ (xs : List ℕ). Grown (f cells) xs) same (d.grows (f cells)) in
    let first : f cells ≡ cells = grown_both (f cells) cells (e.keeps cells) back (e.grows cells) in
    (first, ap h (sym first) ∙ same)

-- one step after another changes nothing if neither does
pub made_then : {f h : List ℕ → List ℕ}
    → Expands f
    → Expands h
    → {xs ys zs : List ℕ} (a b : Bool)
    → Made f xs ys a
    → Made h ys zs b
    → Made (λ cells. h (f cells)) xs zs (a && b)
made_then {f} {h} e d {xs} {ys} {zs} a b m n = record { made = made; same = both a b m.same n.same }
  where
    made : zs ≡ h (f xs)
    made = n.made ∙ ap h m.made

    both : (a b : Bool) → Decides a (ys ≡ xs) → Decides b (zs ≡ ys) → Decides (a && b) (zs ≡ xs)
    both true true p q = q ∙ p
    both true false p q = λ same. q (same ∙ sym p)
    both false b p q = λ same. p (m.made ∙ (nothing_then e d xs (sym made ∙ same)).0)

module _ {step : ℕ → List ℕ → List ℕ} where
  -- what every step keeps, a pass keeps
  pub passed_keeps : (S : List ℕ → Type 0) (n : ℕ)
      → ((p : ℕ) → p < n → (cells : List ℕ) → S cells → S (step p cells))
      → (cells : List ℕ)
      → S cells
      → S (passed step n cells)
  unfolding passed
  passed_keeps S zero h cells s = s
  passed_keeps S (suc n) h cells s = h n (omega arith) (passed step n cells) (passed_keeps S n (λ p below. h p (omega arith)) cells s)

  module _ (expands : (p : ℕ) → Expands (step p)) where
    pub passed_expands : (n : ℕ) → Expands (passed step n)
    unfolding passed
    passed_expands zero = record { grows = λ cells. grown_same; keeps = λ cells. refl }
    passed_expands (suc n) = expands_then (passed_expands n) (expands n)

    -- one step more, and whether the pass so far changed nothing
    pub made_next : (n : ℕ) {xs ys zs : List ℕ} (a b : Bool)
        → Made (passed step n) xs ys a
        → Made (step n) ys zs b
        → Made (passed step (n + 1)) xs zs (a && b)
    unfolding passed
    made_next n a b pass next = rw add-one (made_then (passed_expands n) (expands n) a b pass next)

    -- what holds after a step, and of whatever grows from there, holds after the pass
    pub passed_fires : {Q : ℕ → List ℕ → Type 0}
        → ((p : ℕ) (xs ys : List ℕ) → Grown xs ys → Q p xs → Q p ys)
        → (n : ℕ) (cells : List ℕ)
        → ((p : ℕ) → p < n → (xs : List ℕ) → length xs ≡ length cells → Q p (step p xs))
        → (p : ℕ)
        → p < n
        → Q p (passed step n cells)
    unfolding passed
    passed_fires grows zero cells fires p h = absurd (omega arith)
    passed_fires grows (suc n) cells fires p h =
        elim (ℕ_discrete p n) [
          | yes e ↦ rw e (fires n (omega arith) (passed step n cells) ((passed_expands n).keeps cells))
          | no d ↦ grows p (passed step n cells) (step n (passed step n cells)) ((expands n).grows (passed step n cells)) (passed_fires grows n cells (λ q b. fires q (omega arith)) p (omega arith))
        ]

    -- a pass that changes nothing is one of which no step changes anything
    pub passed_nothing : (n : ℕ) (cells : List ℕ) → passed step n cells ≡ cells → (p : ℕ) → p < n → step p cells ≡ cells
    unfolding passed
    passed_nothing zero cells same p h = absurd (omega arith)
    passed_nothing (suc n) cells same p h =
        let (before, last) = nothing_then (passed_expands n) (expands n) cells same in
        elim (ℕ_discrete p n) [ yes e ↦ rw e last | no d ↦ passed_nothing n cells before p (omega arith) ]

-- the sum of the sets
pub total : List ℕ → ℕ
total [] = 0
total (x ∷ cells) = x + total cells

pub total_bound : (M : ℕ) (cells : List ℕ) → ((A : ℕ) → get_or cells A 0 < M) → total cells ≤ length cells * M
unfolding total
total_bound M [] h = omega arith
total_bound M (x ∷ cells) h = rw suc-mul (omega (arith, h 0, total_bound M cells (λ A. h (suc A))))

sum_grows : (xs ys : List ℕ) → length xs ≡ length ys → ((A : ℕ) → get_or xs A 0 ≤ get_or ys A 0) → (xs ≡ ys) ⊎ (total xs < total ys)
unfolding total
sum_grows [] [] e h = inl refl
sum_grows [] (y ∷ ys) e h = absurd (omega arith)
sum_grows (x ∷ xs) [] e h = absurd (omega arith)
sum_grows (x ∷ xs) (y ∷ ys) e h = go (sum_grows xs ys (omega arith) (λ A. h (suc A))) (ℕ_discrete x y)
  where
    go : (xs ≡ ys) ⊎ (total xs < total ys) → Dec (x ≡ y) → (x ∷ xs ≡ y ∷ ys) ⊎ (total (x ∷ xs) < total (y ∷ ys))
    go (inl rest) (yes head) = inl (cc)
    go (inl rest) (no d) = inr (omega (arith, h 0, ap total rest))
    go (inr rest) head = inr (omega (arith, h 0))

-- a family that grew and is another has a larger sum
pub total_grows : (xs ys : List ℕ) → length xs ≡ length ys → Grown xs ys → xs ≢ ys → total xs < total ys
total_grows xs ys e grown d = go (sum_grows xs ys e (λ A. subset_le (get_or xs A 0) (get_or ys A 0) (grown.keeps A)))
  where
    go : (xs ≡ ys) ⊎ (total xs < total ys) → total xs < total ys
    go (inl same) = absurd (d same)
    go (inr less) = less
