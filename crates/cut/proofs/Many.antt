-- Refusal 16 is given exactly if more sets of points come after strings than a machine may have states.
use mathlib.Core.Path.{◌≡◌, refl, subst}
use mathlib.Core.Logic.{◌↔◌}
use mathlib.Core.List.{List}
use mathlib.Core.Option.{Option}
use Prim.Native.Nat.{ℕ, ◌≤◌}
use native.Mathlib.Omega.{arith}
use lib.ListN.{length}
use Rattle.answers.specs.declared.Answer.{Answer}
use Rattle.answers.specs.Answers.{refusal}
use Rattle.answers.specs.Limits.{most_patterns, most_states}
use Rattle.answers.specs.Refusals as refusals
use Rattle.numbering.specs.Numbering.{FoundAll}
use Rattle.pattern.specs.Pattern.{Expression}
use Rattle.patterns.specs.Calls.{Accepted}
use Rattle.patterns.proofs.Promise.{accepted_length, accepted_unique, refused_not_accepted}
use Rattle.cut.specs.Patterns.{point_states, ManyAfter}
use Rattle.cut.specs.Calls.{CutOutcome, refused, too_many, no_cells, cut}
use Rattle.cut.specs.Promised.{by_states}
use Rattle.cut.proofs.Outcomes.{refuses_not_states, line_answer, early_or_line}
use Rattle.cut.proofs.Reaching.{many_after, not_many_after}

module _ {patterns lengths : List ℕ} where
  -- patterns that are accepted are not too many
  pub accepted_few : {rs : List Expression} → Accepted patterns lengths rs → length rs ≤ most_patterns
  accepted_few accept = omega (arith, accept.few, accepted_length accept)

  -- where all states were found there are not too many such sets
  found_not_many : {rs : List Expression} {sets : List ℕ} {cells : List (Option ℕ)} → Accepted patterns lengths rs
      → FoundAll (point_states rs) sets cells
      → length sets ≤ most_states
      → ((qs : List Expression) × Accepted patterns lengths qs × ManyAfter qs most_states)
      → ⊥
  found_not_many accept f short (qs, other, many) =
      not_many_after (accepted_few accept) accept.fit f short
      (subst (λ (ps : List Expression). ManyAfter ps most_states) (accepted_unique accept other) many)

  pub too_many_iff : {line machine tokens machine' tokens' : List ℕ} {a : Answer}
      → CutOutcome patterns lengths line machine tokens a machine' tokens'
      → (a.number ≡ refusals.states) ↔ ((rs : List Expression) × Accepted patterns lengths rs × ManyAfter rs most_states)
  unfolding refusal
  too_many_iff (refused r) = (
    λ e. absurd (refuses_not_states r e),
    λ (rs, accept, many). absurd (refused_not_accepted r accept),
  )
  too_many_iff (too_many {rs = rs} accept found) =
      (λ e. (rs, accept, many_after (accepted_few accept) accept.fit found), λ many. refl)
  too_many_iff (no_cells accept f few short) = (λ e. absurd (omega arith), λ many. absurd (found_not_many accept f few many))
  too_many_iff (cut {pieces = pieces} {ending = ending} accept f few fits along) = (
    λ e. absurd (early_or_line (by_states e) (line_answer ending (length pieces))),
    λ many. absurd (found_not_many accept f few many),
  )
