-- The answer of an expansion from what the code has for its end, and the outcome of a call.
use Rattle.std.specs.Prelude.{⊤, Result, Ok}
use mathlib.Core.Path.{◌≡◌, sym, ◌∙◌, ap, subst}
use mathlib.Core.List.{List}
use Prim.Native.Nat.{ℕ, ◌+◌, ◌^◌, ◌≤◌, ◌<◌}
use native.Mathlib.Omega.{arith}
use lib.ListN.{length, replicate}
use Rattle.grammar.specs.Grammar.{Grammar}
use Rattle.sets.specs.Calls.{None}
use Rattle.sets.specs.declared.Set.{Set}
use Rattle.sets.proofs.Promise.{none_is, number_unique}
use Rattle.answers.specs.Answers.{done, refusal, stop, no_set, at_depth}
use Rattle.answers.specs.Refusals.{limit, room, stack_room}
use Rattle.answers.specs.declared.Answer.{Answer}
use Rattle.answers.specs.Buffers.{counted, cleared}
use Rattle.book.specs.Judging.{Indexes}
use Rattle.book.specs.declared.Index.{Index}
use Rattle.book.specs.Columns.{grammar_in}
use Rattle.book.proofs.Promise.{reading_grammar}
use Rattle.machine.specs.Expansion.{expansion, Expansion}
use Rattle.machine.specs.declared.Obstacle.{Obstacle}
use Rattle.machine.proofs.Promise.{expand_steps}
use Rattle.expand.specs.Expanding.{closing, answered_by, expand_answer, ExpandOutcome, too_long, no_stack, ended}
use Rattle.expand.specs.Turns.{unfolded, Unfolds, ExpandedOn}
use Rattle.expand.specs.declared.Unfolding.{Unfolding}

-- each way to end has its answer
pub closing_done : {f : Result ⊤ Obstacle} (used steps : ℕ) {r : Answer} → r ≡ done steps → f ≡ Ok tt → r ≡ closing f used steps
unfolding closing
closing_done used steps h e = rw e h

pub closing_stop : {f q : Result ⊤ Obstacle} (number used detail steps : ℕ) {set : Set} {r : Answer} → r ≡ stop number used detail steps set → None set → f ≡ q → stop number used detail steps no_set ≡ closing q used steps → r ≡ closing f used steps
closing_stop number used detail steps {set} h empty e same =
    let none : set ≡ no_set = number_unique (none_is empty) in
    h ∙ ap (stop number used detail steps) none ∙ rw e same

module _ (g : Grammar) (list stack output : List ℕ) where
  abbrev end : Expansion
  end = expansion g (counted stack) (counted output) list

module _ {g : Grammar} {list stack output : List ℕ} {u : Unfolding} {stack' output' : List ℕ} (h : Unfolds g list stack output u stack' output') where
  -- productions used and tokens written can be counted together
  pub unfolds_countable : length list < 2 ^ 63 → u.used + u.written < 2 ^ 64
  unfolding unfolded
  unfolds_countable k =
      let counts = expand_steps g (counted stack) (counted output) list in
      omega (arith, ap (λ (x : Unfolding). x.used) h.answer, ap (λ (x : Unfolding). x.written) h.answer, counts.used, counts.written)

  -- the steps answered, and the stack cleared
  pub unfolds_answered : {r : Answer} {cells : List ℕ} → r ≡ at_depth u.deepest (closing u.ending u.used (u.used + u.written)) → cells ≡ cleared stack' → ExpandedOn g list stack output r cells output'
  unfolding unfolded answered_by expand_answer
  unfolds_answered answer clears =
      let e : Expansion = end g list stack output in
      record {
        answer = answer ∙ ap (λ (x : Unfolding). at_depth x.deepest (closing x.ending x.used (x.used + x.written))) h.answer ∙ ap (λ (n : ℕ). at_depth e.progress.height (closing e.ending e.progress.used n)) (sym (expand_steps g (counted stack) (counted output) list).moves);
        stack_cells = clears ∙ ap (λ (n : ℕ). replicate n 0) h.stack_length;
        output_cells = h.written;
      }

module _ {book list stack output : List ℕ} {index : Index} (indexes : Indexes book index) {r : Answer} where
  pub expand_too_long : 65535 < length list → r ≡ refusal limit 65535 0 → ExpandOutcome book list stack output r stack output
  expand_too_long h e = rw e (too_long indexes.serves h)

  pub expand_no_stack : length list ≤ 65535 → length stack ≡ 0 → r ≡ refusal room 0 stack_room → ExpandOutcome book list stack output r stack output
  expand_no_stack h k e = rw e (no_stack indexes.serves h k)

  pub expand_ended : {stack' output' : List ℕ} → length list ≤ 65535 → 1 ≤ length stack → ExpandedOn (grammar_in book index) list stack output r stack' output' → ExpandOutcome book list stack output r stack' output'
  expand_ended {stack'} {output'} h k on =
      let x : ExpandedOn indexes.grammar list stack output r stack' output' = subst (λ (g : Grammar). ExpandedOn g list stack output r stack' output') (reading_grammar indexes.serves indexes.index) on in
      rw (x.answer, x.stack_cells, x.output_cells) (ended indexes.serves h k)
