-- The lookaheads of the records, filled in one after the other, are those of the grammar's productions.
use mathlib.Core.Path.{◌≡◌, refl, ◌∙◌}
use mathlib.Core.List.{List}
use Prim.Native.Nat.{ℕ, ◌+◌, ◌<◌}
use native.Mathlib.Omega.{arith}
use lib.ListN.{set, replicate, length-set}
use lib.Seq.{get_or-set_same, get_or-set_other}
use borrow.Author.Count.{below_more}
use Rattle.grammar.specs.Grammar.{Grammar}
use Rattle.answers.specs.Limits.{most_productions}
use Rattle.grammar.proofs.Rules.{below_rule}
use Rattle.first.specs.Numbers.{FirstFamily}
use Rattle.first.specs.Forms.{Lists}
use Rattle.first.proofs.Promise.{no_member, family_at, lists_limits, left_is, right_is}
use Rattle.follow.specs.Families.{FollowFamily, Lookaheads}
use Rattle.follow.specs.Walks.{lookahead_of, AheadFilled}
use Rattle.follow.proofs.Closed.{lookahead_is}

module _ {book places fs ys : List ℕ} where
  pub ahead_none : AheadFilled book places fs ys 0 (replicate most_productions 0)
  ahead_none = record { sized = refl; each = λ p none. absurd (omega arith); beyond = λ p past. no_member most_productions p }

  pub ahead_next : {n x y : ℕ} {cells : List ℕ}
      → n < most_productions
      → AheadFilled book places fs ys n cells
      → x ≡ y
      → y ≡ lookahead_of book places fs ys n
      → AheadFilled book places fs ys (n + 1) (set cells n x)
  ahead_next {n} {x} {cells = cells} inside filled is looks =
      record {
        sized = rw length-set filled.sized;
        each =
            below_more _ n
            (λ p below. rw (get_or-set_other cells n p x 0 (λ same. omega arith)) (filled.each p below))
            (rw (get_or-set_same cells n x 0 (omega (arith, filled.sized))) (is ∙ looks));
        beyond = λ p past. rw (get_or-set_other cells n p x 0 (λ same. omega arith)) (filled.beyond p (omega arith));
      }

  pub ahead_found : {cells : List ℕ} {count : ℕ} {g : Grammar} → Lists book places count g → FirstFamily g fs → FollowFamily g ys
      → AheadFilled book places fs ys count cells → Lookaheads g cells
  ahead_found index first follow filled =
      record {
        sized = filled.sized;
        each = λ {p} rule. rw (filled.each p (omega (arith, index.counted, below_rule rule)), left_is index rule, right_is index rule)
            (lookahead_is (lists_limits index) (family_at first) (family_at follow) rule);
        beyond = λ p past. filled.beyond p (omega (arith, index.counted));
      }
