-- What the plain profile promises, one page: each theorem under the sentence that it proves. Request W14.
use mathlib.Core.Path.{◌≡◌, refl, ap, subst}
use mathlib.Core.Logic.{◌↔◌, ◌≢◌}
use mathlib.Core.List.{List}
use Prim.Native.Nat.{ℕ, ◌+◌, ◌*◌, ◌≤◌}
use native.Mathlib.Omega.{arith}
use lib.ListN.{length, take}
use Rattle.grammar.specs.Grammar.{Grammar}
use Rattle.grammar.specs.Machine.{Continues}
use Rattle.grammar.specs.Plain.{Plain}
use Rattle.grammar.proofs.Theorems.{plain_no_conflict}
use Rattle.sets.specs.Calls.{number}
use Rattle.answers.specs.declared.Answer.{Answer}
use Rattle.answers.specs.Answers.{done, refusal}
use Rattle.answers.specs.Buffers.{over}
use Rattle.answers.specs.Refusals.{room, conflict, syntax}
use Rattle.book.specs.Judging.{Serves}
use Rattle.book.proofs.Promise.{refuses_number, refuses_not_serves, serves_unique}
use Rattle.first.specs.Numbers.{IsSet}
use Rattle.follow.specs.Calls.{SetsFit, SetsRoom, no_first, no_follow}
use Rattle.table.specs.Calls.{BuildOutcome}
use Rattle.table.specs.Calls as calls
use Rattle.table.specs.Table.{size, FirstConflict, BuiltWithoutConflict}
use Rattle.table.proofs.Promise.{first_is_conflict}
use Rattle.machine.specs.Machine.{final}
use Rattle.offer.specs.Strings.{ran}
use Rattle.run.specs.Running.{RunOutcome}
use Rattle.run.proofs.Promise.{Result}
use Rattle.demands.specs.Demands.{Ran, Premises, RunMeets3}
use Rattle.demands.proofs.Promise.{run_meets3, run_begins}
use Rattle.profile.specs.Plain.{PlainOutcome, PlainRunOutcome, refused, unfit, runs}
use Rattle.profile.specs.Plain as plain
use Rattle.profile.proofs.Unique as unique
use Rattle.profile.proofs.Unique.{break_other, on_built}
use Rattle.profile.proofs.Runs.{lists_few, stop_hints, plain_run_roomy}
-- the books H, I, J and Q, and runs on Q
pub use Rattle.profile.proofs.Examples.{house_unfit, useless_refused, nested_unfit, plain_book_fits}
pub use Rattle.profile.proofs.Examples.{plain_example, plain_runs_given}

-- the test of the profile allows one answer
pub plain_outcome_unique : {book : List ℕ} {a b : Answer}
    → PlainOutcome book a
    → PlainOutcome book b
    → a ≡ b
plain_outcome_unique = unique.plain_outcome_unique

-- the run on a plain book allows one outcome, the answer and both buffers
pub plain_run_outcome_unique : {book tokens stack list : List ℕ} {a b : Answer} {s l t m : List ℕ}
    → PlainRunOutcome book tokens stack list a s l
    → PlainRunOutcome book tokens stack list b t m
    → ◌≡◌ {A = Result} (a, s, l) (b, t, m)
plain_run_outcome_unique = unique.plain_run_outcome_unique

-- once a book is past 1 to 6, the test is done exactly if its grammar is plain
pub plain_passes : {book : List ℕ} {a : Answer} {g : Grammar}
    → PlainOutcome book a
    → Serves book g
    → (a.number ≡ 0) ↔ Plain g
unfolding done refusal
plain_passes {g = g} (plain.refused r) s = absurd (refuses_not_serves r s)
plain_passes (plain.unfit t l) s = (λ e. absurd (omega arith), λ p. absurd (break_other t s l p))
plain_passes (plain.fits t p) s = (λ e. subst (λ (h : Grammar). Plain h) (serves_unique t s) p, λ q. refl)

module _ {book tokens stack list : List ℕ} {a : Answer} {s l : List ℕ}
    (outcome : PlainRunOutcome book tokens stack list a s l) where
  -- of a plain book there is a table built without conflict, and the run is the run on it
  pub plain_run_table : {g : Grammar}
      → Serves book g
      → Plain g
      → (table : List ℕ) × BuiltWithoutConflict book table × RunOutcome book table tokens stack list a s l
  plain_run_table serves p = go outcome
    where
      go : {a : Answer} {s l : List ℕ}
          → PlainRunOutcome book tokens stack list a s l
          → (table : List ℕ) × BuiltWithoutConflict book table × RunOutcome book table tokens stack list a s l
      go (refused r) = absurd (refuses_not_serves r serves)
      go (unfit t m) = absurd (break_other t serves m p)
      go (runs {table = table} b q o) = (table, b, o)

  -- with equal room it gives what the run on the built table gives: answer, stack and list
  pub plain_run_is_run : {table : List ℕ} (b : BuiltWithoutConflict book table)
      → Plain b.grammar
      → RunOutcome book table tokens stack list a s l
  plain_run_is_run b p =
      let (table, c, o) = plain_run_table b.serves p in
      on_built c b o

  -- n list cells and 1 + 15 × n stack cells are always enough for n tokens, whatever the book and the tokens
  pub plain_run_never_room : length tokens ≤ length list
      → 1 + 15 * length tokens ≤ length stack
      → a.number ≢ room
  plain_run_never_room = plain_run_roomy outcome

module _ {book table tokens stack list : List ℕ} {r : Ran}
    (outcome : PlainRunOutcome book tokens stack list r.answer r.stack r.list) where
  -- demand 3, on the table that is built of the book
  pub plain_run_meets3 : (b : BuiltWithoutConflict book table)
      → Plain b.grammar
      → RunMeets3 book table tokens stack list r
  plain_run_meets3 b p = run_meets3 book table tokens stack list r (plain_run_is_run outcome b p)

  module _ (h : Premises book table tokens) (p : Plain h.built.grammar) where
    -- once steps begin, at most as many productions are listed as there are tokens, however the run ends
    pub plain_run_few : 1 ≤ length stack
        → (ps : List ℕ) × (length ps ≤ length tokens) × (r.list ≡ over ps list)
        × (r.answer.steps ≡ length ps + (final (ran h.built.grammar table tokens stack list)).matched)
    plain_run_few =
        lists_few h p stack list (run_begins book table tokens stack list r (plain_run_is_run outcome h.built p) h)

    -- where it stops by syntax, the expected set is just what can come after the tokens matched
    pub plain_run_hints : r.answer.number ≡ syntax
        → IsSet (number r.answer.expected) (Continues h.built.grammar (take r.answer.place tokens))
    plain_run_hints =
        stop_hints h p stack list (run_begins book table tokens stack list r (plain_run_is_run outcome h.built p) h)

-- building such a book is never refused for a conflict
pub plain_never_conflicts : {book first follow table : List ℕ} {a : Answer} {f w t : List ℕ} {g : Grammar}
    → BuildOutcome book first follow table a f w t
    → Serves book g
    → Plain g
    → a.number ≢ conflict
unfolding done refusal
plain_never_conflicts (calls.refused r) s p e = omega (arith, (refuses_number r).1)
plain_never_conflicts (calls.no_room t (no_first h)) s p e = omega arith
plain_never_conflicts (calls.no_room t (no_follow h k)) s p e = omega arith
plain_never_conflicts (calls.no_table t h k) s p e = omega arith
plain_never_conflicts {g = g} (calls.conflict {i = i} {p = m} {q = n} t h k first) s p e =
    plain_no_conflict p (first_is_conflict (subst (λ (x : Grammar). FirstConflict x i m n) (serves_unique t s) first))
plain_never_conflicts (calls.served t h k x y z) s p e = omega arith

-- and with room for the sets and the table it is done
pub plain_builds : {book first follow table : List ℕ} {a : Answer} {f w t : List ℕ} {g : Grammar}
    → BuildOutcome book first follow table a f w t
    → Serves book g
    → Plain g
    → SetsFit g first follow
    → size g ≤ length table
    → a ≡ done 0
plain_builds (calls.refused r) s p fit roomy = absurd (refuses_not_serves r s)
plain_builds {first = first} {follow = follow} {g = g} (calls.no_room {g = other} t short) s p fit roomy =
    absurd (none_short (serves_unique t s) short)
  where
    none_short : {a : Answer} → other ≡ g → SetsRoom other first follow a → ⊥
    none_short same (no_first h) = omega (arith, fit.first_fits, ap (λ (x : Grammar). x.nonterminals) same)
    none_short same (no_follow h k) = omega (arith, fit.follow_fits, ap (λ (x : Grammar). x.nonterminals) same)
plain_builds (calls.no_table t h k) s p fit roomy =
    absurd (omega (arith, ap (λ (x : Grammar). size x) (serves_unique t s)))
plain_builds {g = g} (calls.conflict {i = i} {p = m} {q = n} t h k first) s p fit roomy =
    absurd
    (plain_no_conflict p
    (first_is_conflict (subst (λ (x : Grammar). FirstConflict x i m n) (serves_unique t s) first)))
plain_builds (calls.served t h k x y z) s p fit roomy = refl
