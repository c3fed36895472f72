-- The answer of a run from the reply that the code has for its outcome.
use mathlib.Core.Path.{◌≡◌, refl, ◌∙◌, ap, subst}
use mathlib.Core.List.{List}
use Prim.Native.Nat.{ℕ, ◌+◌, ◌-◌, ◌^◌, ◌≤◌, ◌<◌}
use native.Mathlib.Omega.{arith}
use lib.ListN.{length, take, drop, length-drop}
use lib.Seq.{take_all}
use Rattle.grammar.specs.Grammar.{Grammar}
use Rattle.answers.specs.Answers.{refusal, stop, at_depth}
use Rattle.answers.specs.declared.Answer.{Answer}
use Rattle.answers.specs.Buffers.{counted}
use Rattle.book.specs.Judging.{Refuses, Indexes}
use Rattle.book.specs.declared.Index.{Index}
use Rattle.book.specs.Columns.{grammar_in, Outlines}
use Rattle.book.specs.declared.columns.Outline.{Outline}
use Rattle.book.proofs.Promise.{reading_grammar}
use Rattle.table.specs.Table.{cell_of}
use Rattle.machine.specs.Machine.{State, Offered, taken, stopped, final}
use Rattle.machine.specs.Room.{right_of}
use Rattle.machine.proofs.Promise.{Counted, run_steps}
use Rattle.machine.proofs.Promise as machine
use Rattle.offer.specs.Strings.{ran, StringOutcome}
use Rattle.offer.specs.Strings as strings
use Rattle.offer.specs.Resuming.{progress_of, reported}
use Rattle.offer.specs.Stops.{expected, run_answer, values_of, deepest_in, answer_of}
use Rattle.offer.specs.declared.Progress.{Progress}
use Rattle.offer.specs.Reply.{Reply}
use Rattle.offer.proofs.Promise.{reply_told}
use Rattle.run.specs.Answering.{progress_in, Answers}
use Rattle.run.specs.Beside.{Shown}
use Rattle.run.specs.Judged.{RanOn, no_stack, ended}
use Rattle.run.specs.Accounting.{AccountedOn, Accounted}
use Rattle.run.specs.Running.{Barred, Admits, RunOutcome, matched_in, words_of}
use Rattle.run.specs.declared.Account.{Account}

progress_reported : (o : Offered) → progress_in (reported o) ≡ progress_of (final o)
unfolding reported final
progress_reported (taken s) = refl
progress_reported (stopped r s) = refl

module _ (g : Grammar) (table tokens stack list : List ℕ) where
  -- where the run leaves the machine
  abbrev last : State
  last = final (ran g table tokens stack list)

  ran_counted : Counted (counted stack) (counted list) last
  unfolding ran
  ran_counted = run_steps (right_of g) (cell_of g table) (counted stack) (counted list) g.start tokens

  pub ran_inside : last.matched ≤ length tokens
  unfolding ran
  ran_inside = machine.run_inside (right_of g) (cell_of g table) (counted stack) (counted list) g.start tokens

  module _ {reply : Reply} (reports : reply ≡ reported (ran g table tokens stack list)) where
    pub reply_matched : (progress_in reply).matched ≡ last.matched
    unfolding progress_of
    reply_matched = ap (λ (x : Reply). (progress_in x).matched) reports ∙ ap (λ (x : Progress). x.matched) (progress_reported (ran g table tokens stack list))

    -- productions listed and tokens matched can be counted together
    pub reply_countable : length tokens < 2 ^ 63 → (progress_in reply).listed + (progress_in reply).matched < 2 ^ 64
    unfolding progress_of
    reply_countable h =
        let listed : (progress_in reply).listed ≡ length last.listed = ap (λ (x : Reply). (progress_in x).listed) reports ∙ ap (λ (x : Progress). x.listed) (progress_reported (ran g table tokens stack list)) in
        omega (arith, reply_matched, ran_inside, ran_counted.list_fits)

    pub ran_answered : {o : Outline} {r : Answer} → Outlines o g → Answers o table reply r → r ≡ run_answer g table (ran g table tokens stack list)
    ran_answered sized a = a.answer g sized ∙ ap (answer_of g table) reports ∙ reply_told g table (ran g table tokens stack list) ran_counted.steps

module _ {g : Grammar} {table tokens stack list : List ℕ} where
  -- productions listed and tokens matched can be counted together
  pub string_countable : {reply : Reply} {stack' list' : List ℕ}
      → StringOutcome g table tokens stack list reply stack' list'
      → length tokens < 2 ^ 63
      → (progress_in reply).listed + (progress_in reply).matched < 2 ^ 64
  string_countable (strings.no_stack e) h = omega arith
  string_countable (strings.ended k) h = reply_countable g table tokens stack list refl h

  -- what is left of a run on a judged book
  pub judged_answered : {o : Outline} {r : Answer} {reply : Reply} {stack' list' : List ℕ}
      → StringOutcome g table tokens stack list reply stack' list'
      → Outlines o g
      → Answers o table reply r
      → RanOn g table tokens stack list r stack' list'
  unfolding answer_of values_of deepest_in expected stop refusal at_depth
  judged_answered (strings.no_stack e) sized a = rw (a.answer g sized) (no_stack e)
  judged_answered (strings.ended h) sized a = rw (ran_answered g table tokens stack list refl sized a) (ended h)

pub account_barred : {g : Grammar} {table tokens stack list : List ℕ} {a : Answer}
    → Barred g table tokens stack a
    → AccountedOn g table tokens stack list (record { answer = a; matched = 0 }) stack list
unfolding matched_in
account_barred barred = record { served = λ serves. record { run = RunOutcome.barred serves barred; matched = refl } }

-- what is left when steps have been made and counted
pub account_stepped : {g : Grammar} {table tokens stack list : List ℕ} {o : Outline} {reply : Reply} {at : Progress} {r : Answer} {stack' list' : List ℕ}
    → Admits g table tokens stack
    → Outlines o g
    → StringOutcome g table tokens stack list reply stack' list'
    → at ≡ progress_in reply
    → Answers o table reply r
    → AccountedOn g table tokens stack list (record { answer = r; matched = at.matched }) stack' list'
unfolding matched_in
account_stepped admits sized (strings.no_stack e) here a = absurd (omega (arith, admits.stacked))
account_stepped {g} {table} {tokens} {stack} {list} admits sized (strings.ended h) here a =
    let matched = ap (λ (x : Progress). x.matched) here ∙ reply_matched g table tokens stack list refl in
    rw (ran_answered g table tokens stack list refl sized a) (record { served = λ serves. record { run = RunOutcome.ended serves admits; matched = matched } })

module _ {book table tokens stack list : List ℕ} where
  pub account_refused : {a : Answer} → Refuses book a → Accounted book table tokens stack list (record { answer = a; matched = 0 }) stack list
  unfolding matched_in
  account_refused refuses = record { run = RunOutcome.refused refuses; matched = refl }

  pub account_served : {index : Index} {r : Account} {stack' list' : List ℕ}
      → Indexes book index
      → AccountedOn (grammar_in book index) table tokens stack list r stack' list'
      → Accounted book table tokens stack list r stack' list'
  account_served {r = r} {stack' = stack'} {list' = list'} indexes on =
      (subst (λ (g : Grammar). AccountedOn g table tokens stack list r stack' list') (reading_grammar indexes.serves indexes.index) on).served indexes.serves

module _ {book table tokens stack list : List ℕ} where
  -- no more tokens are matched than there are
  run_inside : {a : Answer} {stack' list' : List ℕ} (o : RunOutcome book table tokens stack list a stack' list') → matched_in o ≤ length tokens
  unfolding matched_in
  run_inside (RunOutcome.refused h) = omega arith
  run_inside (RunOutcome.barred s h) = omega arith
  run_inside (RunOutcome.ended {g = g} s h) = ran_inside g table tokens stack list

  module _ {r : Account} {stack' list' : List ℕ} (h : Accounted book table tokens stack list r stack' list') where
    pub account_inside : r.matched ≤ length tokens
    account_inside = omega (arith, h.matched, run_inside h.run)

    -- the answer's words beside the part of the tokens that is left, in the caller's memory
    pub account_shown : {words : List ℕ} {memory : ℕ × ℕ}
        → words ≡ words_of r.answer
        → Shown book table tokens stack list words (take (length tokens - r.matched) (drop r.matched tokens)) stack' list' memory (memory.0, r.matched + memory.1)
    account_shown words_are =
        let left : length (drop r.matched tokens) ≡ length tokens - r.matched = length-drop r.matched tokens in
        let all : take (length tokens - r.matched) (drop r.matched tokens) ≡ drop r.matched tokens = take_all (length tokens - r.matched) (drop r.matched tokens) (omega arith) in
        record {
          outcome = record { answer = r.answer; run = h.run; told = words_are; shown = all ∙ ap (λ (n : ℕ). drop n tokens) h.matched };
          own = refl;
          after = omega (arith, account_inside, ap length all);
        }
