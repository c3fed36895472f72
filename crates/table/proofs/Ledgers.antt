-- A ledger of claims: what one claim more does to the lowest claimants and the first contest, and the claims of a production that
-- are laid along its row.
use mathlib.Core.Path.{◌≡◌, refl, sym, ◌∙◌}
use mathlib.Core.Bool.{true}
use mathlib.Core.Logic.{◌⊎◌, inl, inr, ◌≢◌}
use mathlib.Core.List.{List}
use Prim.Native.Nat.{ℕ, ◌≤◌, ◌<◌}
use native.Mathlib.Decide.{ℕ_discrete}
use native.Mathlib.Omega.{arith}
use lib.ListN.{length, get_or, set, length-set}
use lib.Seq.{get_or-set_same, get_or-set_other}
use Rattle.std.specs.Prelude.{Option, Some, None, IfSome, IsSomeAnd}
use Rattle.table.specs.declared.claims.Contest.{Contest}
use Rattle.table.specs.Claims.{Rivals, AtMostOne, Holds, lowest, vacant, KnownContest, Ledger, Claimed, enters, contests, follows}

-- the claims D are the claims C, and that of p on a cell
pub record Adds (C D : ℕ → ℕ → Type 0) (cell p : ℕ) : Type 0 where
  pub keeps : (i q : ℕ) → C i q → D i q
  pub new : D cell p
  pub only : (i q : ℕ) → D i q → C i q ⊎ ((i ≡ cell) × (q ≡ p))

-- the same claims, with every cell vacant, or told in another way
module _ {C D : ℕ → ℕ → Type 0} {table : List ℕ} where
  pub ledger_same : {known : Option Contest}
      → ((i q : ℕ) → C i q → D i q)
      → ((i q : ℕ) → i < length table → D i q → C i q)
      → Ledger C table known
      → Ledger D table known
  ledger_same {known} there back l = record { held = λ i h. holds i h (l.held i h); contest = contest known l.contest }
    where
      contest : (known : Option Contest) → KnownContest C (length table) known → KnownContest D (length table) known
      contest None one = λ j h r s dr ds. one j h r s (back j r h dr) (back j s h ds)
      contest (Some first) k =
          let rivals = k.rivals in
          record {
            inside = k.inside;
            rivals = record { lowest = there _ _ rivals.lowest; next = there _ _ rivals.next; order = rivals.order; others = λ r d. rivals.others r (back _ r k.inside d) };
            earlier = λ j h r s dr ds. k.earlier j h r s (back j r (omega (arith, k.inside)) dr) (back j s (omega (arith, k.inside)) ds);
          }

      holds : (i : ℕ) → i < length table → {byte : ℕ} → Holds (C i) byte → Holds (D i) byte
      holds i h (lowest {p = p} c none) = lowest (there i p c) (λ q b d. none q b (back i q h d))
      holds i h (vacant none) = vacant (λ q d. none q (back i q h d))

pub ledger_none : {C : ℕ → ℕ → Type 0} {table : List ℕ}
    → ((i q : ℕ) → ¬ C i q)
    → ((i : ℕ) → i < length table → get_or table i 0 ≡ 255)
    → Ledger C table None
ledger_none none blank =
    record { held = λ i h. rw (blank i h) (vacant (none i)); contest = λ j h r s c d. absurd (none j r c) }

module _ {C D : ℕ → ℕ → Type 0} {cell p : ℕ} (adds : Adds C D cell p) (later : (q : ℕ) → C cell q → q < p) where
  -- on every other cell nothing is new
  elsewhere : {i q : ℕ} → i ≢ cell → D i q → C i q
  elsewhere {i} {q} other d = go (adds.only i q d)
    where
      go : C i q ⊎ ((i ≡ cell) × (q ≡ p)) → C i q
      go (inl c) = c
      go (inr e) = absurd (other e.0)

  module _ {q : ℕ} where
    here : D cell q → C cell q ⊎ (q ≡ p)
    here d = go (adds.only cell q d)
      where
        go : C cell q ⊎ ((cell ≡ cell) × (q ≡ p)) → C cell q ⊎ (q ≡ p)
        go (inl c) = inl c
        go (inr e) = inr e.1

  holds_elsewhere : {i byte : ℕ} → i ≢ cell → Holds (C i) byte → Holds (D i) byte
  holds_elsewhere {i} other (lowest {p = m} c none) = lowest (adds.keeps i m c) (λ q b d. none q b (elsewhere other d))
  holds_elsewhere other (vacant none) = vacant (λ q d. none q (elsewhere other d))

  one_elsewhere : {i : ℕ} → i ≢ cell → AtMostOne (C i) → AtMostOne (D i)
  one_elsewhere other one r s dr ds = one r s (elsewhere other dr) (elsewhere other ds)

  -- a later claimant changes neither the lowest nor the two lowest
  holds_later : {byte : ℕ} → byte ≢ 255 → Holds (C cell) byte → Holds (D cell) byte
  holds_later d (lowest {p = m} c none) = lowest (adds.keeps cell m c) (λ q b k. go q b (here k))
    where
      go : (q : ℕ) → q < m → C cell q ⊎ (q ≡ p) → ⊥
      go q b (inl k) = none q b k
      go q b (inr e) = absurd (omega (arith, later m c))
  holds_later d (vacant none) = absurd (d refl)

  rivals_later : {i m n : ℕ} → Rivals (C i) m n → Rivals (D i) m n
  rivals_later {i} {m} {n} k = record { lowest = adds.keeps i m k.lowest; next = adds.keeps i n k.next; order = k.order; others = λ r d. go r (adds.only i r d) }
    where
      go : (r : ℕ) → C i r ⊎ ((i ≡ cell) × (r ≡ p)) → (r ≡ m) ⊎ (n ≤ r)
      go r (inl c) = k.others r c
      go r (inr e) = let next : C cell n = rw e.0 at k.next in inr (omega (arith, later n next, e.1))

  module _ {table : List ℕ} {known : Option Contest} (l : Ledger C table known) (inside : cell < length table) (small : p < 255) where
    unclaimed : {byte : ℕ} → byte ≡ 255 → Holds (C cell) byte → (q : ℕ) → ¬ C cell q
    unclaimed e (lowest {p = m} c none) q k = omega (arith, later m c)
    unclaimed e (vacant none) q k = none q k

    claimant : {byte : ℕ} → byte ≢ 255 → Holds (C cell) byte → C cell byte
    claimant d (lowest c none) = c
    claimant d (vacant none) = absurd (d refl)

    -- a vacant cell has the new claimant, and no other
    module _ (none : (q : ℕ) → ¬ C cell q) where
      alone : {q : ℕ} → D cell q → q ≡ p
      alone {q} d = go (here d)
        where
          go : C cell q ⊎ (q ≡ p) → q ≡ p
          go (inl c) = absurd (none q c)
          go (inr e) = e

      held_entered : (i : ℕ) → i < length table → Dec (i ≡ cell) → Holds (D i) (get_or (set table cell p) i 0)
      held_entered i h (no d) = rw (get_or-set_other table cell i p 0 d) (holds_elsewhere d (l.held i h))
      held_entered i h (yes e) = rw (e, get_or-set_same table cell p 0 inside) (lowest adds.new (λ q b k. omega (arith, alone k)))

      one_entered : (j : ℕ) → AtMostOne (C j) → Dec (j ≡ cell) → AtMostOne (D j)
      one_entered j one (no d) = one_elsewhere d one
      one_entered j one (yes e) = rw e (λ r s k m. alone k ∙ sym (alone m))

      contest_entered : (n : ℕ) (known : Option Contest) → KnownContest C n known → KnownContest D n known
      contest_entered n None one = λ j h. one_entered j (one j h) (ℕ_discrete j cell)
      contest_entered n (Some first) k =
          record { inside = k.inside; rivals = rivals_later k.rivals; earlier = λ j h. one_entered j (k.earlier j h) (ℕ_discrete j cell) }

    -- a cell that is held keeps its claimant
    held_kept : get_or table cell 0 ≢ 255 → (i : ℕ) → i < length table → Dec (i ≡ cell) → Holds (D i) (get_or table i 0)
    held_kept d i h (no other) = holds_elsewhere other (l.held i h)
    held_kept d i h (yes e) = rw e (holds_later d (l.held cell inside))

    -- no cell up to this one has rivals, where the first that is known lies behind it
    one_before : (known : Option Contest) → KnownContest C (length table) known → IfSome known (λ first. cell < first.cell) → (j : ℕ) → j ≤ cell → AtMostOne (C j)
    one_before None one h j b = one j (omega arith)
    one_before (Some first) k h j b = k.earlier j (omega arith)

    rivals_found : get_or table cell 0 ≢ 255 → AtMostOne (C cell) → Rivals (D cell) (get_or table cell 0) p
    rivals_found d one = record { lowest = adds.keeps cell _ holder; next = adds.new; order = later _ holder; others = λ r k. go r (here k) }
      where
        holder : C cell (get_or table cell 0)
        holder = claimant d (l.held cell inside)

        go : (r : ℕ) → C cell r ⊎ (r ≡ p) → (r ≡ get_or table cell 0) ⊎ (p ≤ r)
        go r (inl c) = inl (one r _ c holder)
        go r (inr e) = inr (omega arith)

    contest_followed : (known : Option Contest) → KnownContest C (length table) known → IsSomeAnd known (λ first. first.cell ≤ cell) → KnownContest D (length table) known
    contest_followed None one h = absurd h
    contest_followed (Some first) k h =
        record { inside = k.inside; rivals = rivals_later k.rivals; earlier = λ j b. one_elsewhere (λ e. omega arith) (k.earlier j b) }

    -- the ledger with one claim more
    pub ledger_claim : {known' : Option Contest} {table' : List ℕ} → Claimed table cell p known true known' table' → Ledger D table' known'
    ledger_claim (enters e) =
        let none : (q : ℕ) → ¬ C cell q = unclaimed e (l.held cell inside) in
        let sized : length (set table cell p) ≡ length table = length-set table cell p in
        record {
          held = λ i h. held_entered none i (omega (arith, h)) (ℕ_discrete i cell);
          contest = contest_entered none _ known (rw (← sized) at l.contest);
        }
    ledger_claim (contests d h) =
        record {
          held = λ i b. held_kept d i b (ℕ_discrete i cell);
          contest =
              let one = one_before known l.contest h in
              record {
                inside = inside;
                rivals = rivals_found d (one cell (omega arith));
                earlier = λ j b. one_elsewhere (λ e. omega arith) (one j (omega arith));
              };
        }
    ledger_claim (follows d h) =
        record { held = λ i b. held_kept d i b (ℕ_discrete i cell); contest = contest_followed known l.contest h }
