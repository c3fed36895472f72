-- How sets and rows of sets grow: by nothing, by one set after the other, and by what `put` and `unite` do to one row.
use mathlib.Core.Path.{◌≡◌, refl, ◌∙◌}
use mathlib.Core.Logic.{◌↔◌, ◌≢◌, ◌⊎◌, inl, inr, ⊎_elim}
use mathlib.Core.Bool.{true}
use mathlib.Core.List.{List}
use Prim.Native.Nat.{ℕ, ◌+◌, ◌*◌, ◌^◌, ◌≤◌, ◌<◌}
use native.Mathlib.Decide.{ℕ_discrete}
use lib.ListN.{length}
use Rattle.sets.specs.Sets.{member, Exactly, united, added}
use Rattle.sets.specs.Words.{places}
use Rattle.sets.proofs.Promise.{or_left, or_right, or_cases, added_new, added_keep, added_cases}
use Rattle.points.specs.Points.{points_at, Put, Unite}
use Rattle.points.proofs.Promise.{rows_apart, put_length, put_elsewhere, put_adds, unite_length, unite_elsewhere, unite_unites}
use Rattle.parts.specs.Rows.{Grown, row_at, Rows}

pub grown_none : (x : ℕ) {P : ℕ → Type 0} → ((k : ℕ) → ¬ P k) → Grown x x P
grown_none x empty =
    record {
      kept = λ k m. m;
      new = λ k p. absurd (empty k p);
      because = λ k m. inl m;
    }

pub grown_then : {x y z : ℕ} {P Q : ℕ → Type 0} → Grown x y P → Grown y z Q → Grown x z (λ (k : ℕ). P k ⊎ Q k)
grown_then g h =
    record {
      kept = λ k m. h.kept k (g.kept k m);
      new = λ k. ⊎_elim (λ p. h.kept k (g.new k p)) (λ q. h.new k q);
      because = λ k m.
          ⊎_elim (λ n. ⊎_elim inl (λ p. inr (inl p)) (g.because k n)) (λ q. inr (inr q)) (h.because k m);
    }

pub grown_alike : {x y : ℕ} {P Q : ℕ → Type 0} → ((k : ℕ) → P k ↔ Q k) → Grown x y P → Grown x y Q
grown_alike alike g =
    record {
      kept = g.kept;
      new = λ k q. g.new k ((alike k).1 q);
      because = λ k m. ⊎_elim inl (λ p. inr ((alike k).0 p)) (g.because k m);
    }

pub grown_united : (x y : ℕ) → Grown x (united x y) (λ (k : ℕ). member k y ≡ true)
grown_united x y =
    record {
      kept = λ k m. or_left k x y m;
      new = λ k m. or_right k x y m;
      because = λ k m. or_cases k x y m;
    }

pub grown_added : (x j : ℕ) → Grown x (added j x) (λ (k : ℕ). k ≡ j)
grown_added x j =
    record {
      kept = λ k m. added_keep k j x m;
      new = λ k e. rw e (added_new j x);
      because = λ k m. added_cases k j x m;
    }

-- a set of which is known what it holds, with what was added
pub grown_exactly : {w x y : ℕ} {P Q : ℕ → Type 0}
    → Exactly w x P
    → Grown x y Q
    → y < 2 ^ w
    → Exactly w y (λ (k : ℕ). P k ⊎ Q k)
grown_exactly exact g fits =
    record {
      fits = fits;
      sound = λ k m. ⊎_elim (λ old. inl (exact.sound k old)) inr (g.because k m);
      complete = λ k. ⊎_elim (λ p. g.kept k (exact.complete k p)) (λ q. g.new k q);
    }

module _ {n : ℕ} where
  pub rows_none : (table : List ℕ) {P : ℕ → ℕ → Type 0} → ((i k : ℕ) → ¬ P i k) → Rows n table table P
  rows_none table empty = record { long = refl; grown = λ i inside. grown_none (row_at table n i) (empty i) }

  pub rows_then : {first second third : List ℕ} {P Q : ℕ → ℕ → Type 0}
      → Rows n first second P
      → Rows n second third Q
      → Rows n first third (λ (i k : ℕ). P i k ⊎ Q i k)
  rows_then f g =
      record {
        long = g.long ∙ f.long;
        grown = λ i inside. grown_then (f.grown i inside) (g.grown i (rw f.long inside));
      }

  pub rows_alike : {before after : List ℕ} {P Q : ℕ → ℕ → Type 0}
      → ((i k : ℕ) → P i k ↔ Q i k)
      → Rows n before after P
      → Rows n before after Q
  rows_alike alike f = record { long = f.long; grown = λ i inside. grown_alike (alike i) (f.grown i inside) }

  -- one row has grown and the others are as they were
  rows_one : (j : ℕ) {before after : List ℕ} {P : ℕ → Type 0}
      → length after ≡ length before
      → ((i : ℕ) → i ≢ j → row_at after n i ≡ row_at before n i)
      → (j * n + n ≤ length before → Grown (row_at before n j) (row_at after n j) P)
      → Rows n before after (λ (i k : ℕ). (i ≡ j) × P k)
  rows_one j {before} {after} {P} long others row =
      record { long = long; grown = λ i inside. go i inside (ℕ_discrete i j) }
    where
      go : (i : ℕ) → i * n + n ≤ length before → Dec (i ≡ j)
          → Grown (row_at before n i) (row_at after n i) (λ (k : ℕ). (i ≡ j) × P k)
      go i inside (yes e) =
          let there : Grown (row_at before n i) (row_at after n i) P =
          rw e (row (rw e at inside)) in
          grown_alike (λ k. (λ p. (e, p), λ p. p.1)) there
      go i inside (no other) =
          rw (others i other) (grown_none (row_at before n i) (λ k p. other p.0))

  pub rows_put : (j : ℕ) {place : ℕ} {before after : List ℕ}
      → Put before (j * n) n place after
      → place < places n
      → Rows n before after (λ (i k : ℕ). (i ≡ j) × (k ≡ place))
  rows_put j {place} {before} put below =
      rows_one j (put_length put)
      (λ i other. put_elsewhere put (i * n) n (rows_apart n i j other))
      (λ inside. rw (put_adds put inside below) (grown_added (row_at before n j) place))

  pub rows_unite : (j : ℕ) {other : List ℕ} {from : ℕ} {before after : List ℕ}
      → Unite before (j * n) n other from after
      → Rows n before after (λ (i k : ℕ). (i ≡ j) × (member k (points_at other from n) ≡ true))
  rows_unite j {other} {from} {before} unite =
      rows_one j (unite_length unite)
      (λ i apart. unite_elsewhere unite (i * n) n (rows_apart n i j apart))
      (λ inside. rw (unite_unites unite inside) (grown_united (row_at before n j) (points_at other from n)))
