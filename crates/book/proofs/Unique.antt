-- Judging allows one outcome only. (A leaf whose contract says `r ≡ f inputs` allows one by `value_unique` of crate sets.)
use mathlib.Core.Path.{◌≡◌, sym, ap, ap₂, ◌∙◌}
use mathlib.Core.List.{List}
use Prim.Native.Nat.{ℕ}
use native.Mathlib.Omega.{arith}
use Rattle.grammar.specs.Grammar.{Grammar, Useful}
use Rattle.answers.specs.declared.Answer.{Answer}
use Rattle.answers.specs.Answers.{refusal}
use Rattle.answers.specs.declared.refusals.Refusal.{Refusal}
use Rattle.answers.specs.Refusals.{number_of, useless}
use Rattle.answers.specs.Lowest.{FirstFailing}
use Rattle.answers.proofs.Promise.{first_failing_unique}
use Rattle.reader.specs.Book.{reads, spells}
use Rattle.reader.proofs.Promise.{refused_not_reads}
use Rattle.std.specs.Prelude.{Result, Ok, Err}
use Rattle.book.specs.declared.Index.{Index}
use Rattle.book.specs.Judging.{LowestUseless, index_of, Refuses, misread, useless_one, Serves, Indexes, Judged}

pub reads_unique : (b : List ℕ) {g h : Grammar} → spells b ≡ reads g → spells b ≡ reads h → g ≡ h
reads_unique b e f = cc

-- the lowest useless nonterminal is the first that fails to be useful
lowest_failing : {g : Grammar} {A : ℕ} → LowestUseless g A → FirstFailing (Useful g) g.nonterminals A
lowest_failing h = record { within = omega (arith, h.inside); earlier = h.lowest; fails = λ _. h.useless }

pub lowest_unique : {g : Grammar} {A B : ℕ} → LowestUseless g A → LowestUseless g B → A ≡ B
lowest_unique h k = first_failing_unique (lowest_failing h) (lowest_failing k)

module _ {b : List ℕ} where
  pub refuses_unique : {r s : Answer} → Refuses b r → Refuses b s → r ≡ s
  refuses_unique (misread {why = w} {place = p} e) (misread {why = v} {place = q} f) =
      let kinds : w ≡ v = cc in
      let places : p ≡ q = cc in
      ap₂ (λ (w : Refusal) (p : ℕ). refusal (number_of w) p 0) kinds places
  refuses_unique (misread e) (useless_one f h) = absurd (refused_not_reads e f)
  refuses_unique (useless_one e h) (misread f) = absurd (refused_not_reads f e)
  refuses_unique (useless_one e h) (useless_one f k) = ap (λ (A : ℕ). refusal useless A 0) (lowest_unique h (rw (← (reads_unique b e f)) at k))

  pub refuses_not_serves : {r : Answer} {g : Grammar} → Refuses b r → Serves b g → ⊥
  refuses_not_serves (misread e) s = refused_not_reads e s.read
  refuses_not_serves (useless_one {A = A} e h) s = h.useless ((rw (reads_unique b s.read e) at s.useful).useful A h.inside)

  pub serves_unique : {g h : Grammar} → Serves b g → Serves b h → g ≡ h
  serves_unique s t = reads_unique b s.read t.read

  pub indexes_unique : {i j : Index} → Indexes b i → Indexes b j → i ≡ j
  indexes_unique x y = x.index ∙ ap index_of (serves_unique x.serves y.serves) ∙ sym y.index

pub judged_unique : (b : List ℕ) (r s : Result Index Answer) → Judged b r → Judged b s → r ≡ s
judged_unique b (Ok i) (Ok j) x y = ap Ok (indexes_unique x y)
judged_unique b (Ok i) (Err a) x y = absurd (refuses_not_serves y x.serves)
judged_unique b (Err a) (Ok i) x y = absurd (refuses_not_serves x y.serves)
judged_unique b (Err a) (Err c) x y = ap Err (refuses_unique x y)
