-- Any two outcomes that the promise of a bottom-up run allows of the same inputs are equal, the answer and every buffer.
use mathlib.Core.Path.{◌≡◌, refl}
use mathlib.Core.List.{List}
use Prim.Native.Nat.{ℕ}
use native.Mathlib.Omega.{arith}
use Rattle.grammar.specs.Grammar.{Grammar}
use Rattle.answers.specs.declared.Answer.{Answer}
use Rattle.answers.specs.Buffers.{over, cleared}
use Rattle.answers.proofs.Promise.{first_failing_unique}
use Rattle.stack.proofs.Promise.{Call, refused, barred, ended, Apart, call_unique}
use Rattle.run.proofs.Promise.{Result, first_strange_unique}
use Rattle.slr.specs.Ends.{slr_final}
use Rattle.slr_run.specs.Fitting.{SlrFits, SlrMisfit, length_given, cell}
use Rattle.slr_run.specs.Running.{slr_ran, slr_answered, SlrBarred, bad_table, too_long, strange, no_stack, SlrAdmits, SlrRunOutcome}
use Rattle.slr_run.specs.Running as running

module _ {g : Grammar} {table : List ℕ} where
  -- a table that fits has no misfit, and the first misfit is determined
  pub misfit_not_fit : {k : ℕ} → SlrMisfit g table k → SlrFits g table → ⊥
  misfit_not_fit (length_given n) f = n f.sized
  misfit_not_fit (cell {i = i} s h first) f = first.fails h (f.cells i h)

  pub misfit_unique : {k j : ℕ} → SlrMisfit g table k → SlrMisfit g table j → k ≡ j
  misfit_unique (length_given n) (length_given m) = refl
  misfit_unique (length_given n) (cell s h first) = absurd (n s)
  misfit_unique (cell s h first) (length_given n) = absurd (n s)
  misfit_unique (cell s h first) (cell t l other) = first_failing_unique first other

module _ {g : Grammar} {table tokens stack : List ℕ} where
  -- what is refused before steps is refused with one answer
  pub barred_unique : {a b : Answer} → SlrBarred g table tokens stack a → SlrBarred g table tokens stack b → a ≡ b
  barred_unique (bad_table m) (bad_table n) = rw (misfit_unique m n)
  barred_unique (bad_table m) (too_long f h) = absurd (misfit_not_fit m f)
  barred_unique (bad_table m) (strange f h s) = absurd (misfit_not_fit m f)
  barred_unique (bad_table m) (no_stack f h k e) = absurd (misfit_not_fit m f)
  barred_unique (too_long f h) (bad_table m) = absurd (misfit_not_fit m f)
  barred_unique (too_long f h) (too_long e l) = refl
  barred_unique (too_long f h) (strange e l s) = absurd (omega arith)
  barred_unique (too_long f h) (no_stack e l k n) = absurd (omega arith)
  barred_unique (strange f h s) (bad_table m) = absurd (misfit_not_fit m f)
  barred_unique (strange f h s) (too_long e l) = absurd (omega arith)
  barred_unique (strange f h s) (strange e l t) = rw (first_strange_unique s t)
  barred_unique (strange {i = i} f h s) (no_stack e l k n) =
      absurd (omega (arith, k i s.inside, s.lowest.found s.inside))
  barred_unique (no_stack f h k e) (bad_table m) = absurd (misfit_not_fit m f)
  barred_unique (no_stack f h k e) (too_long d l) = absurd (omega arith)
  barred_unique (no_stack f h k e) (strange {i = i} d l s) =
      absurd (omega (arith, k i s.inside, s.lowest.found s.inside))
  barred_unique (no_stack f h k e) (no_stack d l m n) = refl

  -- and then steps do not begin
  pub barred_not_admits : {a : Answer} → SlrBarred g table tokens stack a → SlrAdmits g table tokens stack → ⊥
  barred_not_admits (bad_table m) a = misfit_not_fit m a.fits
  barred_not_admits (too_long f h) a = omega (arith, a.short)
  barred_not_admits (strange {i = i} f h s) a = omega (arith, a.known i s.inside, s.lowest.found s.inside)
  barred_not_admits (no_stack f h k e) a = omega (arith, a.stacked)

module _ (book table tokens stack list : List ℕ) where
  abbrev Calls : Result → Type 0
  Calls =
      Call book (λ g. SlrBarred g table tokens stack) (λ g. SlrAdmits g table tokens stack)
      (λ a. (a, stack, list))
      (λ g. (slr_answered g table (slr_ran g table tokens stack list), cleared stack, over (slr_final (slr_ran g table tokens stack list)).listed list))

  run_call : {a : Answer} {s l : List ℕ} → SlrRunOutcome book table tokens stack list a s l → Calls (a, s, l)
  run_call (running.refused r) = refused r
  run_call (running.barred s b) = barred s b
  run_call (running.ended s a) = ended s a

  barred_apart : Apart book (λ g. SlrBarred g table tokens stack) (λ g. SlrAdmits g table tokens stack)
  barred_apart = record { one = barred_unique; other = barred_not_admits }

  -- a run allows one outcome
  pub slr_run_outcome_unique : {a b : Answer} {s l t m : List ℕ}
      → SlrRunOutcome book table tokens stack list a s l
      → SlrRunOutcome book table tokens stack list b t m
      → ◌≡◌ {A = Result} (a, s, l) (b, t, m)
  slr_run_outcome_unique o p = call_unique barred_apart (run_call o) (run_call p)
