-- How many states there are: more than a limit can be found exactly if more can be reached.
use mathlib.Core.Path.{◌≡◌, refl, ap}
use mathlib.Core.Logic.{◌⊎◌, inl, inr, ◌≢◌}
use mathlib.Core.List.{List, [], ◌∷◌}
use mathlib.Core.Option.{Option, some, none-ne-some, some-injective}
use Prim.Native.Nat.{ℕ, zero, suc, ◌≤◌, ◌<◌}
use native.Mathlib.Decide.{ℕ_discrete}
use native.Mathlib.Omega.{arith}
use lib.ListN.{length, get_elem?}
use Rattle.numbering.specs.Numbering.{Automaton, Lawful, IsState, Distinct, FoundAll, TooMany, Ending, whole, too_many, Reached, ManyReached}
use Rattle.numbering.proofs.Places.{element}
use Rattle.numbering.proofs.Agreement.{is_itself, is_inside, is_same, same_state}
use Rattle.numbering.proofs.Beginning.{shorter_begins, begins_length, no_longer}
use Rattle.numbering.proofs.Reaching.{state_reached, reached_state}

-- without hole n, who sat there takes hole h
Reseated : (ℕ → ℕ → Type 0) → ℕ → ℕ → ℕ → ℕ → Type 0
Reseated R n h i j = ((j ≢ h) × R i j) ⊎ ((j ≡ h) × R i n)

module _ {R : ℕ → ℕ → Type 0} (one : (i k j : ℕ) → R i j → R k j → i ≡ k) where
  moved_one : (n h i k j : ℕ) → Reseated R n h i j → Reseated R n h k j → i ≡ k
  unfolding Reseated
  moved_one n h i k j (inl a) (inl b) = one i k j a.1 b.1
  moved_one n h i k j (inl a) (inr b) = absurd (a.0 b.0)
  moved_one n h i k j (inr a) (inl b) = absurd (b.0 a.0)
  moved_one n h i k j (inr a) (inr b) = one i k n a.1 b.1

  -- when the last takes hole h away with it, the others still have a hole below n
  moved_hole : (n h last : ℕ) → h ≤ n → R last h → (i j : ℕ) → i < last → j ≤ n → R i j → (k : ℕ) × (k < n) × Reseated R n h i k
  unfolding Reseated
  moved_hole n h last below sits i j lower le r = go (ℕ_discrete j n) (ℕ_discrete h n) (ℕ_discrete j h)
    where
      clash : j ≡ h → ⊥
      clash e = omega (arith, one i last h (rw e at r) sits)

      go : Dec (j ≡ n) → Dec (h ≡ n) → Dec (j ≡ h) → (k : ℕ) × (k < n) × Reseated R n h i k
      go a b (yes c) = absurd (clash c)
      go (yes a) (yes b) (no c) = absurd (c (omega arith))
      go (yes a) (no b) (no c) = (h, omega arith, inr (refl, rw a at r))
      go (no a) b (no c) = (j, omega arith, inl (c, r))

-- the pigeonhole: those that sit each in a hole of their own are no more than the holes
pigeonhole : (m n : ℕ) (R : ℕ → ℕ → Type 0) → ((i k j : ℕ) → R i j → R k j → i ≡ k)
    → ((i : ℕ) → i < m → (j : ℕ) × (j < n) × R i j)
    → m ≤ n
pigeonhole zero n R one sits = omega arith
pigeonhole (suc m) zero R one sits = let (j, below, r) = sits m (omega arith) in absurd (omega arith)
pigeonhole (suc m) (suc n) R one sits =
    let (h, below, last) = sits m (omega arith) in
    let others : (i : ℕ) → i < m → (j : ℕ) × (j < n) × Reseated R n h i j =
    λ i lower. let (j, low, r) = sits i (omega arith) in moved_hole one n h m (omega arith) last i j lower (omega arith) r in
    omega (arith, pigeonhole m n (Reseated R n h) (moved_one one n h) others)

-- what there is for each number below n, gathered in a list
gathered : {A : Type 0} (Q : ℕ → A → Type 0) (n : ℕ) → ((i : ℕ) → i < n → (x : A) × Q i x)
    → (xs : List A) × (length xs ≡ n) × ((i : ℕ) (x : A) → get_elem? xs i ≡ some x → Q i x)
gathered Q zero have = ([], refl, λ i x e. absurd (none-ne-some x e))
gathered {A} Q (suc n) have =
    let (x, q) = have zero (omega arith) in
    let (xs, size, has) = gathered (λ i. Q (suc i)) n (λ i h. have (suc i) (omega arith)) in
    (x ∷ xs, ap suc size, at x q xs has)
  where
    at : (x : A) → Q zero x → (xs : List A) → ((i : ℕ) (y : A) → get_elem? xs i ≡ some y → Q (suc i) y)
        → (i : ℕ) (y : A)
        → get_elem? (x ∷ xs) i ≡ some y
        → Q i y
    at x q xs has zero y e = rw (← some-injective x y e) q
    at x q xs has (suc i) y e = has i y e

module _ {A : Type 0} {m : Automaton A} (law : Lawful m) where
  -- what stands for states of which no two are the same, each in its place, has no two that are the same
  stand_apart : {states others : List A} → Distinct m states
      → ((i : ℕ) (x : A) → get_elem? others i ≡ some x → IsState m states i x)
      → Distinct m others
  stand_apart distinct stands i j x h k =
      distinct i j x (is_same law h.same (stands i h.state h.at)) (is_same law k.same (stands j k.state k.at))

module _ {A : Type 0} {m : Automaton A} (law : Lawful m) {limit : ℕ} where
  -- where more can be found than the limit, more can be reached
  pub too_many_reached : TooMany m limit → ManyReached m limit
  too_many_reached many =
      let (states, size, has) = gathered (λ i x. Reached m x × IsState m many.states i x) (length many.states) stands in
      record {
        states = states;
        more = omega (arith, many.more);
        reached = λ i x e. (has i x e).0;
        distinct = stand_apart law many.found.distinct (λ i x e. (has i x e).1);
      }
    where
      stands : (i : ℕ) → i < length many.states → (x : A) × (Reached m x × IsState m many.states i x)
      stands i h =
          let (x, e) = element many.states i h in
          let (y, reached, same) = state_reached law many.found i x (is_itself law e) in
          (y, (reached, record { state = x; at = e; same = same }))

  -- those that can be reached are no more than the states of the whole
  pub many_whole : {states : List A} {cells : List (Option ℕ)} → ManyReached m limit
      → FoundAll m states cells
      → limit < length states
  many_whole {states} many f =
      let count : length many.states ≤ length states = pigeonhole (length many.states) (length states) Sits one sits in
      omega (arith, many.more)
    where
      Sits : ℕ → ℕ → Type 0
      Sits i j = (x : A) × (get_elem? many.states i ≡ some x) × IsState m states j x

      one : (i k j : ℕ) → Sits i j → Sits k j → i ≡ k
      one i k j (x, e, is) (y, d, is') = many.distinct i k x (is_itself law e) (record { state = y; at = d; same = same_state law is is' })

      sits : (i : ℕ) → i < length many.states → (j : ℕ) × (j < length states) × Sits i j
      sits i h =
          let (x, e) = element many.states i h in
          let (j, is) = reached_state law f (many.reached i x e) in
          (j, is_inside is, (x, e, is))

  -- no finding has more states than the whole
  pub too_many_whole : {states : List A} {cells : List (Option ℕ)} → TooMany m limit
      → FoundAll m states cells
      → limit < length states
  too_many_whole many f =
      omega (arith, many.more, begins_length law (shorter_begins law many.found f.found (no_longer law many.found f)))

  -- where the search ends, too many are found if too many can be reached
  pub reached_too_many : Ending m limit → ManyReached m limit → TooMany m limit
  reached_too_many (whole f few) many = absurd (omega (arith, many_whole many f))
  reached_too_many (too_many found) many = found
