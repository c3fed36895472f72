-- What a set holds exactly, at any width: the set with no member, a set with one place more, and a union.
use mathlib.Core.Path.{◌≡◌, sym, ◌∙◌}
use mathlib.Core.Bool.{false≢true}
use mathlib.Core.Logic.{◌↔◌, ◌⊎◌, ⊎_elim, inl, inr}
use Prim.Native.Nat.{ℕ, ◌<◌}
use lib.Pow.{pow_pos}
use Rattle.sets.specs.Sets.{Exactly, united, added}
use Rattle.sets.proofs.Members.{member_none}
use Rattle.sets.proofs.Operations.{or_left, or_right, or_cases, added_new, added_keep, added_cases}
use Rattle.sets.proofs.Order.{united_fits, added_fits}

pub exactly_alike : {w x : ℕ} {P Q : ℕ → Type 0} → ((k : ℕ) → P k ↔ Q k) → Exactly w x P → Exactly w x Q
exactly_alike alike exact =
    record {
      fits = exact.fits;
      sound = λ k m. (alike k).0 (exact.sound k m);
      complete = λ k q. exact.complete k ((alike k).1 q);
    }

pub exactly_none : (w : ℕ) {P : ℕ → Type 0} → ((k : ℕ) → P k → ⊥) → Exactly w 0 P
exactly_none w empty =
    record {
      fits = pow_pos w;
      sound = λ k m. absurd (false≢true (sym (member_none k) ∙ m));
      complete = λ k p. absurd (empty k p);
    }

pub exactly_added : {w x : ℕ} {P : ℕ → Type 0} (j : ℕ) → j < w
    → Exactly w x P
    → Exactly w (added j x) (λ (k : ℕ). P k ⊎ (k ≡ j))
exactly_added {w} {x} j below exact =
    record {
      fits = added_fits w j x below exact.fits;
      sound = λ k m. ⊎_elim (λ old. inl (exact.sound k old)) inr (added_cases k j x m);
      complete = λ k p.
          ⊎_elim (λ old. added_keep k j x (exact.complete k old)) (λ same. rw same (added_new j x)) p;
    }

pub exactly_united : {w x y : ℕ} {P Q : ℕ → Type 0}
    → Exactly w x P
    → Exactly w y Q
    → Exactly w (united x y) (λ (k : ℕ). P k ⊎ Q k)
exactly_united {w} {x} {y} left right =
    record {
      fits = united_fits w x y left.fits right.fits;
      sound = λ k m. ⊎_elim (λ l. inl (left.sound k l)) (λ r. inr (right.sound k r)) (or_cases k x y m);
      complete = λ k p.
          ⊎_elim (λ l. or_left k x y (left.complete k l)) (λ r. or_right k x y (right.complete k r)) p;
    }
