-- The calls on a judged book: each allows one outcome, and on what judging gives, a table that fits and tokens of the book's own the judged
-- run is the run.
use Rattle.std.specs.Prelude.{Result}
use mathlib.Core.Path.{◌≡◌, refl, sym, ap, ◌∙◌, subst}
use mathlib.Core.List.{List}
use Prim.Native.Nat.{ℕ, ◌+◌, ◌-◌}
use native.Mathlib.Omega.{arith}
use lib.ListN.{length}
use Rattle.grammar.specs.Grammar.{Grammar}
use Rattle.answers.specs.declared.Answer.{Answer}
use Rattle.answers.specs.Answers.{refusal, at_depth}
use Rattle.book.specs.Judging.{Refuses, misread, useless_one, Serves, Judged}
use Rattle.book.specs.declared.Index.{Index}
use Rattle.book.specs.Columns.{grammar_in}
use Rattle.book.proofs.Promise.{reading_grammar}
use Rattle.run.specs.Beside.{Shown}
use Rattle.run.specs.Judged.{RanOn, no_stack, ended, JudgedRun, refused, ran_on}
use Rattle.run.specs.Running.{Admits, RunOutcome}
use Rattle.run.specs.Running as running
use Rattle.run.proofs.OutcomeUnique.{BesideResult, beside_outcome_unique}
use Rattle.run.proofs.OutcomeUnique as unique

-- a run on a grammar allows one outcome
ran_on_unique : {g : Grammar} {table tokens stack list : List ℕ} {a b : Answer} {s l t m : List ℕ}
    → RanOn g table tokens stack list a s l
    → RanOn g table tokens stack list b t m
    → ◌≡◌ {A = unique.Result} (a, s, l) (b, t, m)
ran_on_unique (no_stack e) (no_stack f) = refl
ran_on_unique (no_stack e) (ended h) = absurd (omega arith)
ran_on_unique (ended h) (no_stack e) = absurd (omega arith)
ran_on_unique (ended h) (ended k) = refl

-- and so does one on a judged book
pub judged_run_unique : {book : List ℕ} {reading : Result Index Answer} {table tokens stack list : List ℕ} {a b : Answer} {s l t m : List ℕ}
    → JudgedRun book reading table tokens stack list a s l
    → JudgedRun book reading table tokens stack list b t m
    → ◌≡◌ {A = unique.Result} (a, s, l) (b, t, m)
judged_run_unique (refused {answer = a} e) (refused {answer = b} f) = let same : a ≡ b = cc in rw same
judged_run_unique (refused e) (ran_on f p) = let bad : ◌≡◌ {A = ℕ} 0 1 = cc in absurd (omega arith)
judged_run_unique (ran_on e o) (refused f) = let bad : ◌≡◌ {A = ℕ} 0 1 = cc in absurd (omega arith)
judged_run_unique {book} {table = table} {tokens = tokens} {stack = stack} {list = list} {a = a} {s = s} {l = l} (ran_on {index = i} e o) (ran_on {index = j} f p) =
    let same : i ≡ j = cc in
    ran_on_unique (subst (λ (x : Index). RanOn (grammar_in book x) table tokens stack list a s l) same o) p

abbrev pub ShownResult : Type 0
ShownResult = List ℕ × List ℕ × List ℕ × List ℕ × ℕ × ℕ

-- and a run that shows its rest, the memory shown included
pub shown_unique : {book table tokens stack list : List ℕ} {memory p q : ℕ × ℕ} {a r s l b u t m : List ℕ}
    → Shown book table tokens stack list a r s l memory p → Shown book table tokens stack list b u t m memory q → ◌≡◌ {A = ShownResult} (a, r, s, l, p.0, p.1) (b, u, t, m, q.0, q.1)
shown_unique {book} {table} {tokens} {stack} {list} {memory} x y =
    let same = beside_outcome_unique book table tokens stack list x.outcome y.outcome in
    let part = ap (λ (z : BesideResult). length tokens - length z.1) same in
    λ i. ((same i).0, (same i).1, (same i).2, (same i).3, (x.own ∙ sym y.own) i, (x.after ∙ ap (λ (n : ℕ). memory.1 + n) part ∙ sym y.after) i)

ran_serves : {book table tokens stack list : List ℕ} {g : Grammar}
    → Serves book g
    → Admits g table tokens stack
    → {a : Answer} {s l : List ℕ}
    → RanOn g table tokens stack list a s l
    → RunOutcome book table tokens stack list a s l
ran_serves serves admits (no_stack e) = absurd (omega (arith, admits.stacked))
ran_serves serves admits (ended h) = running.ended serves admits

-- a book's refusal has depth 0
refuses_flat : {book : List ℕ} {a : Answer} → Refuses book a → at_depth 0 a ≡ a
unfolding refusal at_depth
refuses_flat (misread e) = refl
refuses_flat (useless_one e l) = refl

-- on what judging the book gives, with a table, tokens and a stack cell that pass the checks where it serves, a run on the judged book is
-- the run
pub judged_run_run : {book table tokens stack list : List ℕ} {reading : Result Index Answer}
    → Judged book reading
    → ((g : Grammar) → Serves book g → Admits g table tokens stack)
    → {a : Answer} {s l : List ℕ}
    → JudgedRun book reading table tokens stack list a s l
    → RunOutcome book table tokens stack list a s l
judged_run_run {book} judged admits (refused e) =
    let refuses = subst (λ (r : Result Index Answer). Judged book r) e judged in
    rw (refuses_flat refuses) (running.refused refuses)
judged_run_run {book} {table = table} {tokens = tokens} {stack = stack} {list = list} judged admits {a} {s} {l} (ran_on e o) =
    let indexes = subst (λ (r : Result Index Answer). Judged book r) e judged in
    ran_serves indexes.serves (admits indexes.grammar indexes.serves) (subst (λ (x : Grammar). RanOn x table tokens stack list a s l) (reading_grammar indexes.serves indexes.index) o)
