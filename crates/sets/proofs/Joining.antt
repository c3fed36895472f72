-- Joining sets in any grouping, one page: the laws of joining, and what a join holds exactly.
use mathlib.Core.Logic.{◌⊎◌, ◌≢◌, ⊎_elim, inl, inr}
use Prim.Native.Nat.{ℕ}
use Rattle.sets.specs.Sets.{Exactly, joined}
use Rattle.sets.specs.Joining.{Joining}
use Rattle.sets.proofs.Operations.{join_keep, join_skip, join_cases}
use Rattle.sets.proofs.Order.{joined_fits}
use Rattle.sets.proofs.Algebra.{join_assoc, join_neutral_left, join_neutral_right, join_distributes_left, join_distributes_right}

-- the laws hold at every place of the empty string, for all numbers
pub joining : (e : ℕ) → Joining e
joining e =
    record {
      assoc = join_assoc e;
      neutral_left = join_neutral_left e;
      neutral_right = join_neutral_right e;
      over_union_left = join_distributes_left e;
      over_union_right = join_distributes_right e;
      within = λ w. joined_fits w e;
    }

-- a join of sets that hold P and Q holds P without the empty string and, if P has the empty string, Q
pub joined_exactly : {w x y : ℕ} {P Q : ℕ → Type 0} (e : ℕ)
    → Exactly w x P
    → Exactly w y Q
    → Exactly w (joined e x y) (λ (k : ℕ). (P k × (k ≢ e)) ⊎ (P e × Q k))
joined_exactly {w} {x} {y} e left right =
    record {
      fits = joined_fits w e x y left.fits right.fits;
      sound = λ k m.
          ⊎_elim (λ l. inl (left.sound k l.0, l.1)) (λ r. inr (left.sound e r.0, right.sound k r.1))
          (join_cases e k x y m);
      complete = λ k p.
          ⊎_elim (λ l. join_keep e k x y (left.complete k l.0) l.1)
          (λ r. join_skip e k x y (left.complete e r.0) (right.complete k r.1)) p;
    }
