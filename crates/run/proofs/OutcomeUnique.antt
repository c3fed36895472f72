-- Any two outcomes that the promises of running allow of the same inputs are equal, the answer and every buffer.
use Rattle.std.specs.Prelude.{Some, None}
use mathlib.Core.Path.{◌≡◌, refl, ap}
use mathlib.Core.List.{List}
use Prim.Native.Nat.{ℕ}
use native.Mathlib.Omega.{arith}
use lib.ListN.{length, drop}
use Rattle.grammar.specs.Grammar.{Grammar}
use Rattle.answers.specs.declared.Answer.{Answer}
use Rattle.answers.specs.Buffers.{over, cleared}
use Rattle.answers.specs.Lowest.{LowestIn}
use Rattle.answers.proofs.Promise.{Unique, lowest_unique, lowest_or_count}
use Rattle.table.proofs.Promise.{misfit_not_fit, misfit_unique}
use Rattle.machine.specs.Machine.{final}
use Rattle.stack.proofs.Promise.{Call, refused, barred, ended, Apart, call_unique}
use Rattle.offer.specs.Strings.{ran}
use Rattle.offer.specs.Stops.{run_answer}
use Rattle.run.specs.Running.{Strange, FirstStrange, Barred, bad_table, too_long, strange, no_stack, Admits, words_of, RunOutcome, matched_in, BesideOutcome}
use Rattle.run.specs.Running as running

-- the first strange token is determined
pub first_strange_unique : {g : Grammar} {tokens : List ℕ} {i j : ℕ} → FirstStrange g tokens i → FirstStrange g tokens j → i ≡ j
first_strange_unique a b = lowest_unique a.lowest b.lowest

-- and so is the first token that is not below a limit
pub first_above_unique : (limit : ℕ) (tokens : List ℕ) → Unique (LowestIn (Strange limit tokens) (length tokens))
first_above_unique limit tokens None None a b = refl
first_above_unique limit tokens None (Some j) a b = absurd (a j b.inside b.holds)
first_above_unique limit tokens (Some i) None a b = absurd (b i a.inside a.holds)
first_above_unique limit tokens (Some i) (Some j) a b = ap Some (lowest_unique (lowest_or_count (Some i) a) (lowest_or_count (Some j) b))

module _ {g : Grammar} {table tokens stack : List ℕ} where
  -- what is refused before steps is refused with one answer
  pub barred_unique : {a b : Answer} → Barred g table tokens stack a → Barred g table tokens stack b → a ≡ b
  barred_unique (bad_table m) (bad_table n) = rw (misfit_unique m n)
  barred_unique (bad_table m) (too_long f h) = absurd (misfit_not_fit m f)
  barred_unique (bad_table m) (strange f h s) = absurd (misfit_not_fit m f)
  barred_unique (bad_table m) (no_stack f h k e) = absurd (misfit_not_fit m f)
  barred_unique (too_long f h) (bad_table m) = absurd (misfit_not_fit m f)
  barred_unique (too_long f h) (too_long e l) = refl
  barred_unique (too_long f h) (strange e l s) = absurd (omega arith)
  barred_unique (too_long f h) (no_stack e l k n) = absurd (omega arith)
  barred_unique (strange f h s) (bad_table m) = absurd (misfit_not_fit m f)
  barred_unique (strange f h s) (too_long e l) = absurd (omega arith)
  barred_unique (strange f h s) (strange e l t) = rw (first_strange_unique s t)
  barred_unique (strange {i = i} f h s) (no_stack e l k n) = absurd (omega (arith, k i s.inside, s.lowest.found s.inside))
  barred_unique (no_stack f h k e) (bad_table m) = absurd (misfit_not_fit m f)
  barred_unique (no_stack f h k e) (too_long d l) = absurd (omega arith)
  barred_unique (no_stack f h k e) (strange {i = i} d l s) = absurd (omega (arith, k i s.inside, s.lowest.found s.inside))
  barred_unique (no_stack f h k e) (no_stack d l m n) = refl

  -- and then steps do not begin
  pub barred_not_admits : {a : Answer} → Barred g table tokens stack a → Admits g table tokens stack → ⊥
  barred_not_admits (bad_table m) a = misfit_not_fit m a.fits
  barred_not_admits (too_long f h) a = omega (arith, a.short)
  barred_not_admits (strange {i = i} f h s) a = omega (arith, a.known i s.inside, s.lowest.found s.inside)
  barred_not_admits (no_stack f h k e) a = omega (arith, a.stacked)

-- the answer, the stack and the list
abbrev pub Result : Type 0
Result = Answer × List ℕ × List ℕ

-- the answer's words, the part shown, the stack and the list
abbrev pub BesideResult : Type 0
BesideResult = List ℕ × List ℕ × List ℕ × List ℕ

module _ (book table tokens stack list : List ℕ) where
  abbrev Calls : {X : Type 0} → (Answer → X) → (Grammar → X) → X → Type 0
  Calls = Call book (λ g. Barred g table tokens stack) (λ g. Admits g table tokens stack)

  barred_apart : Apart book (λ g. Barred g table tokens stack) (λ g. Admits g table tokens stack)
  barred_apart = record { one = barred_unique; other = barred_not_admits }

  abbrev kept : Answer → Result
  kept a = (a, stack, list)

  abbrev end : Grammar → Result
  end g =
      (run_answer g table (ran g table tokens stack list), cleared stack, over (final (ran g table tokens stack list)).listed list)

  run_call : {a : Answer} {s l : List ℕ} → RunOutcome book table tokens stack list a s l → Calls kept end (a, s, l)
  run_call (running.refused r) = refused r
  run_call (running.barred s b) = barred s b
  run_call (running.ended s a) = ended s a

  -- a run allows one outcome
  pub run_outcome_unique : {a b : Answer} {s l t m : List ℕ}
      → RunOutcome book table tokens stack list a s l
      → RunOutcome book table tokens stack list b t m
      → ◌≡◌ {A = Result} (a, s, l) (b, t, m)
  run_outcome_unique o p = call_unique barred_apart (run_call o) (run_call p)

  abbrev kept_beside : Answer → BesideResult
  kept_beside a = (words_of a, tokens, stack, list)

  abbrev end_beside : Grammar → BesideResult
  end_beside g =
      (words_of (run_answer g table (ran g table tokens stack list)), drop (final (ran g table tokens stack list)).matched tokens, cleared stack, over (final (ran g table tokens stack list)).listed list)

  beside_call : {a r s l : List ℕ} → BesideOutcome book table tokens stack list a r s l → Calls kept_beside end_beside (a, r, s, l)
  unfolding matched_in
  beside_call o = rw (o.told, o.shown) (go o.run)
    where
      go : {a : Answer} {s l : List ℕ} (x : RunOutcome book table tokens stack list a s l)
          → Calls kept_beside end_beside (words_of a, drop (matched_in x) tokens, s, l)
      go (running.refused r) = refused r
      go (running.barred s b) = barred s b
      go (running.ended s a) = ended s a

  -- a run that shows its rest allows one outcome
  pub beside_outcome_unique : {a r s l b q t m : List ℕ}
      → BesideOutcome book table tokens stack list a r s l
      → BesideOutcome book table tokens stack list b q t m
      → ◌≡◌ {A = BesideResult} (a, r, s, l) (b, q, t, m)
  beside_outcome_unique o p = call_unique barred_apart (beside_call o) (beside_call p)
