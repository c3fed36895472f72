-- What a part tells of its positions and adds to the tables, for each form of expression.
use mathlib.Core.Path.{◌≡◌, ◌∙◌, subst}
use mathlib.Core.Logic.{◌↔◌, ◌⊎◌, inl, inr, ⊎_elim}
use mathlib.Core.Bool.{Bool, true, false, cond, ◌&&◌, ◌||◌}
use mathlib.Core.List.{List}
use Prim.Native.Nat.{ℕ, ◌+◌, ◌≤◌}
use native.Mathlib.Omega.{arith}
use Rattle.answers.specs.Limits.{most_positions}
use Rattle.sets.specs.Sets.{Exactly, united}
use Rattle.sets.specs.Calls.{Decides}
use Rattle.sets.proofs.Promise.{exactly_alike, exactly_united}
use Rattle.pattern.specs.Pattern.{Expression, cat, alt, plus, opt}
use Rattle.pattern.specs.Positions.{size, Null, null_opt, LastPosition, FollowPosition}
use Rattle.pattern.proofs.Promise.{null_of_cat, null_of_alt, null_of_plus, first_of_cat, first_of_alt, first_of_plus, first_of_opt, last_of_cat, last_of_alt, last_of_plus, last_of_opt, follow_of_cat, follow_of_alt, follow_of_plus, follow_of_opt, reads_of_cat, reads_of_alt, reads_of_plus, reads_of_opt}
use Rattle.parts.specs.declared.Part.{Part}
use Rattle.parts.specs.Parts.{positions_in, Told, Tabled}
use Rattle.parts.specs.Leading.{Leads}
use Rattle.parts.specs.Joins.{LedOn, behind, InTurn, EitherOf}
use Rattle.parts.proofs.Promise.{rows_then, rows_alike}

-- answers put together
both : {A B C : Type 0} (a b : Bool) → C ↔ (A × B) → Decides a A → Decides b B → Decides (a && b) C
both true true iff x y = iff.1 (x, y)
both true false iff x y = λ c. y (iff.0 c).1
both false b iff x y = λ c. x (iff.0 c).0

one_of : {A B C : Type 0} (a b : Bool) → C ↔ (A ⊎ B) → Decides a A → Decides b B → Decides (a || b) C
one_of true b iff x y = iff.1 (inl x)
one_of false true iff x y = iff.1 (inr y)
one_of false false iff x y = λ c. ⊎_elim x y (iff.0 c)

alike : {A B : Type 0} (a : Bool) → A ↔ B → Decides a A → Decides a B
alike true iff x = iff.0 x
alike false iff x = λ b. x (iff.1 b)

-- a set, united with another if A holds
exactly_through : {w own other : ℕ} {A : Type 0} {P Q R : ℕ → Type 0} (passes : Bool)
    → Decides passes A
    → ((k : ℕ) → R k ↔ (P k ⊎ (A × Q k)))
    → Exactly w own P
    → Exactly w other Q
    → Exactly w (cond passes (united own other) own) R
exactly_through true holds iff p q =
    exactly_alike (λ k. (λ s. (iff k).1 (⊎_elim inl (λ other. inr (holds, other)) s), λ r. ⊎_elim inl (λ s. inr s.1) ((iff k).0 r)))
    (exactly_united p q)
exactly_through false holds iff p q =
    exactly_alike (λ k. (λ s. (iff k).1 (inl s), λ r. ⊎_elim (λ s. s) (λ s. absurd (holds s.0)) ((iff k).0 r))) p

-- two parts, the right of which was read behind the left
module _ {n : ℕ} {x y : Expression} {left right : Part} (l : Told n x left) (s : Told left.count y right) where
  from_there : n + (size x + size y) ≤ most_positions → left.count ≡ n + size x
  from_there few = omega (arith, l.count)

  right_told : n + (size x + size y) ≤ most_positions → Told (n + size x) y right
  right_told few = subst (λ (m : ℕ). Told m y right) (from_there few) s

  pub told_cat : {r : Part} {follow after : List ℕ} → InTurn left right follow r after → Told n (cat x y) r
  unfolding size
  told_cat {r} t =
      record {
        count = omega (arith, t.count, s.count, l.count);
        empty = rw t.empty (both left.empty right.empty null_of_cat l.empty s.empty);
        first = λ few.
            rw t.first
            (exactly_through left.empty l.empty (λ k. first_of_cat)
            (l.first (omega arith)) ((right_told few).first (omega arith)));
        last = λ few.
            rw t.last
            (exactly_through right.empty s.empty (λ k. past) ((right_told few).last (omega arith)) (l.last (omega arith)));
      }
    where
      past : {p : ℕ} → LastPosition n (cat x y) p ↔ (LastPosition (n + size x) y p ⊎ (Null y × LastPosition n x p))
      past = (
        λ w. ⊎_elim inl (λ v. inr (v.1, v.0)) (last_of_cat.0 w),
        λ w. last_of_cat.1 (⊎_elim inl (λ v. inr (v.1, v.0)) w),
      )

  pub told_alt : {r : Part} → EitherOf left right r → Told n (alt x y) r
  unfolding size
  told_alt t =
      record {
        count = omega (arith, t.count, s.count, l.count);
        empty = rw t.empty (one_of left.empty right.empty null_of_alt l.empty s.empty);
        first = λ few.
            rw t.first
            (exactly_alike (λ k. (first_of_alt.1, first_of_alt.0))
            (exactly_united (l.first (omega arith)) ((right_told few).first (omega arith))));
        last = λ few.
            rw t.last
            (exactly_alike (λ k. (last_of_alt.1, last_of_alt.0))
            (exactly_united (l.last (omega arith)) ((right_told few).last (omega arith))));
      }

  module _ {R F R₁ F₁ R₂ F₂ : List ℕ} (a : Tabled n x R F R₁ F₁) (b : Tabled left.count y R₁ F₁ R₂ F₂) where
    right_tabled : n + (size x + size y) ≤ most_positions → Tabled (n + size x) y R₁ F₁ R₂ F₂
    right_tabled few = subst (λ (m : ℕ). Tabled m y R₁ F₁ R₂ F₂) (from_there few) b

    pub tabled_cat : {F₃ : List ℕ}
        → LedOn right.count left.last right.first F₂ F₃
        → Tabled n (cat x y) R F R₂ F₃
    unfolding size
    tabled_cat led =
        record {
          reads = λ few.
              rows_alike (λ b p. (reads_of_cat.1, reads_of_cat.0))
              (rows_then (a.reads (omega arith)) ((right_tabled few).reads (omega arith)));
          follows = λ few.
              rows_alike (joins few)
              (rows_then (rows_then (a.follows (omega arith)) ((right_tabled few).follows (omega arith)))
              (led (omega (arith, s.count, l.count))));
        }
      where
        joins : n + (size x + size y) ≤ most_positions
            → (p q : ℕ)
            → ((FollowPosition n x p q ⊎ FollowPosition (n + size x) y p q)
            ⊎ Leads (positions_in left.last) (positions_in right.first) p q)
            ↔ FollowPosition n (cat x y) p q
        joins few p q = (
          ⊎_elim (λ w. follow_of_cat.1 (inl w))
              (λ w.
              follow_of_cat.1
              (inr ((l.last (omega arith)).sound p w.from, ((right_told few).first (omega arith)).sound q w.to))),
          λ w.
              ⊎_elim inl
              (λ v.
              inr (record {
                from = (l.last (omega arith)).complete p v.0;
                to = ((right_told few).first (omega arith)).complete q v.1;
              }))
              (follow_of_cat.0 w),
        )

    pub tabled_alt : Tabled n (alt x y) R F R₂ F₂
    unfolding size
    tabled_alt =
        record {
          reads = λ few.
              rows_alike (λ b p. (reads_of_alt.1, reads_of_alt.0))
              (rows_then (a.reads (omega arith)) ((right_tabled few).reads (omega arith)));
          follows = λ few.
              rows_alike (λ p q. (follow_of_alt.1, follow_of_alt.0))
              (rows_then (a.follows (omega arith)) ((right_tabled few).follows (omega arith)));
        }

-- a part with a sign
module _ {n : ℕ} {x : Expression} {item : Part} (t : Told n x item) where
  pub told_plus : {r : Part}
      → r.count ≡ item.count
      → r.empty ≡ item.empty
      → r.first ≡ item.first
      → r.last ≡ item.last
      → Told n (plus x) r
  unfolding size
  told_plus count empty first last =
      record {
        count = count ∙ t.count;
        empty = rw empty (alike item.empty (null_of_plus.1, null_of_plus.0) t.empty);
        first = λ few. rw first (exactly_alike (λ k. (first_of_plus.1, first_of_plus.0)) (t.first few));
        last = λ few. rw last (exactly_alike (λ k. (last_of_plus.1, last_of_plus.0)) (t.last few));
      }

  pub told_opt : {r : Part}
      → r.count ≡ item.count
      → r.empty ≡ true
      → r.first ≡ item.first
      → r.last ≡ item.last
      → Told n (opt x) r
  unfolding size
  told_opt count empty first last =
      record {
        count = count ∙ t.count;
        empty = rw empty null_opt;
        first = λ few. rw first (exactly_alike (λ k. (first_of_opt.1, first_of_opt.0)) (t.first few));
        last = λ few. rw last (exactly_alike (λ k. (last_of_opt.1, last_of_opt.0)) (t.last few));
      }

  pub tabled_plus : {R F R₁ F₁ F₂ : List ℕ}
      → Tabled n x R F R₁ F₁
      → LedOn item.count item.last item.first F₁ F₂
      → Tabled n (plus x) R F R₁ F₂
  unfolding size
  tabled_plus a led =
      record {
        reads = λ few. rows_alike (λ b p. (reads_of_plus.1, reads_of_plus.0)) (a.reads few);
        follows = λ few. rows_alike (joins few) (rows_then (a.follows few) (led (omega (arith, t.count))));
      }
    where
      joins : n + size x ≤ most_positions
          → (p q : ℕ)
          → (FollowPosition n x p q ⊎ Leads (positions_in item.last) (positions_in item.first) p q)
          ↔ FollowPosition n (plus x) p q
      joins few p q = (
        ⊎_elim (λ w. follow_of_plus.1 (inl w))
            (λ w. follow_of_plus.1 (inr ((t.last few).sound p w.from, (t.first few).sound q w.to))),
        λ w.
            ⊎_elim inl
            (λ v. inr (record { from = (t.last few).complete p v.0; to = (t.first few).complete q v.1 }))
            (follow_of_plus.0 w),
      )

pub tabled_opt : {n : ℕ} {x : Expression} {R F R₁ F₁ : List ℕ} → Tabled n x R F R₁ F₁ → Tabled n (opt x) R F R₁ F₁
unfolding size
tabled_opt a =
    record {
      reads = λ few. rows_alike (λ b p. (reads_of_opt.1, reads_of_opt.0)) (a.reads few);
      follows = λ few. rows_alike (λ p q. (follow_of_opt.1, follow_of_opt.0)) (a.follows few);
    }

-- where the part ends does not matter
pub told_behind : {n : ℕ} {x : Expression} {item : Part} → Told n x item → Told n x (behind item item.empty)
told_behind t = record { count = t.count; empty = t.empty; first = t.first; last = t.last }
