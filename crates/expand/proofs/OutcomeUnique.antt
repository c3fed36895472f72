-- Any two outcomes that the promise of expanding allows of the same inputs are equal, the answer and every buffer.
use mathlib.Core.Path.{◌≡◌, refl}
use mathlib.Core.List.{List}
use Prim.Native.Nat.{ℕ, ◌≤◌, ◌<◌}
use native.Mathlib.Omega.{arith}
use lib.ListN.{length}
use Rattle.grammar.specs.Grammar.{Grammar}
use Rattle.answers.specs.declared.Answer.{Answer}
use Rattle.answers.specs.Answers.{refusal}
use Rattle.answers.specs.Limits.{longest_list}
use Rattle.answers.specs.Refusals.{limit, room, stack_room}
use Rattle.answers.specs.Buffers.{over, counted, cleared}
use Rattle.machine.specs.Expansion.{expansion}
use Rattle.stack.proofs.Promise.{Call, refused, barred, ended, call_unique}
use Rattle.expand.specs.Expanding.{ExpandOutcome, expand_answer}
use Rattle.expand.specs.Expanding as expanding

-- what is refused before steps of an expansion whose book serves
data Unopened (list stack : List ℕ) : Answer → Type 0 where
  long_list : longest_list < length list → Unopened list stack (refusal limit longest_list 0)
  stackless : length list ≤ longest_list → length stack ≡ 0 → Unopened list stack (refusal room 0 stack_room)

record Opens (list stack : List ℕ) : Type 0 where
  short : length list ≤ longest_list
  stacked : 1 ≤ length stack

module _ {list stack : List ℕ} where
  unopened_unique : {a b : Answer} → Unopened list stack a → Unopened list stack b → a ≡ b
  unopened_unique (long_list h) (long_list l) = refl
  unopened_unique (long_list h) (stackless l e) = absurd (omega arith)
  unopened_unique (stackless h e) (long_list l) = absurd (omega arith)
  unopened_unique (stackless h e) (stackless l f) = refl

  unopened_not_opens : {a : Answer} → Unopened list stack a → Opens list stack → ⊥
  unopened_not_opens (long_list h) o = omega (arith, o.short)
  unopened_not_opens (stackless h e) o = omega (arith, o.stacked)

-- the answer, the stack and the output
abbrev Result : Type 0
Result = Answer × List ℕ × List ℕ

module _ (book list stack output : List ℕ) where
  abbrev kept : Answer → Result
  kept a = (a, stack, output)

  abbrev end : Grammar → Result
  end g =
      (expand_answer (expansion g (counted stack) (counted output) list), cleared stack, over (expansion g (counted stack) (counted output) list).progress.written output)

  abbrev Expands : Result → Type 0
  Expands = Call book (λ g. Unopened list stack) (λ g. Opens list stack) kept end

  expand_call : {a : Answer} {s w : List ℕ} → ExpandOutcome book list stack output a s w → Expands (a, s, w)
  expand_call (expanding.refused r) = refused r
  expand_call (expanding.too_long s h) = barred s (long_list h)
  expand_call (expanding.no_stack s h e) = barred s (stackless h e)
  expand_call (expanding.ended s h k) = ended s (record { short = h; stacked = k })

  -- an expansion allows one outcome
  pub expand_outcome_unique : {a b : Answer} {s w t v : List ℕ}
      → ExpandOutcome book list stack output a s w
      → ExpandOutcome book list stack output b t v
      → ◌≡◌ {A = Result} (a, s, w) (b, t, v)
  expand_outcome_unique o p =
      call_unique (record { one = unopened_unique; other = unopened_not_opens }) (expand_call o) (expand_call p)
