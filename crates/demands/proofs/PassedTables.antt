-- Runs on a table that the check passed, whoever made it: they have all that demand 3 states.
use mathlib.Core.Path.{◌≡◌, subst}
use mathlib.Core.List.{List}
use Prim.Native.Nat.{ℕ, ◌≤◌, ◌<◌}
use lib.ListN.{length, get_or}
use Rattle.grammar.specs.Grammar.{Grammar}
use Rattle.answers.specs.declared.Answer.{Answer}
use Rattle.answers.specs.Limits.{longest_string}
use Rattle.book.specs.Judging.{Serves}
use Rattle.book.proofs.Promise.{serves_unique}
use Rattle.checker.specs.Calls.{CheckOutcome}
use Rattle.checker.proofs.Promise.{check_passes}
use Rattle.demands.specs.Demands.{Ran, MayRun, Premises, RunMeets3}
use Rattle.demands.proofs.Demands.{run_meets3}

module _ {book table : List ℕ} {a : Answer} (outcome : CheckOutcome book table a) (passed : a.number ≡ 0) where
  module _ {g : Grammar} {tokens : List ℕ}
      (serves : Serves book g)
      (short : length tokens ≤ longest_string)
      (known : (i : ℕ) → i < length tokens → get_or tokens i 0 < g.tokens) where
    -- a table that passed and at most 4,096 tokens of its grammar meet the premises of demand 3
    pub passed_premises : Premises book table tokens
    passed_premises =
        let built = (check_passes outcome).0 passed in
        let same : g ≡ built.grammar = serves_unique serves built.serves in
        record {
          built = built;
          short = short;
          known = subst (λ (h : Grammar). (i : ℕ) → i < length tokens → get_or tokens i 0 < h.tokens) same known;
        }

    -- and so every run on it has all that demand 3 states
    pub passed_run_meets3 : (stack list : List ℕ) (r : Ran)
        → MayRun book table tokens stack list r
        → Premises book table tokens × RunMeets3 book table tokens stack list r
    passed_run_meets3 stack list r o = (passed_premises, run_meets3 book table tokens stack list r o)
