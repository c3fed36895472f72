-- The run that shows its rest has the run's outcome, so that every demand is met by it too; and what it shows is what is not yet matched.
use mathlib.Core.Path.{◌≡◌, refl}
use mathlib.Core.Logic.{◌≢◌}
use mathlib.Core.List.{List, []}
use Prim.Native.Nat.{ℕ}
use lib.ListN.{length, drop}
use lib.Seq.{drop-length}
use Rattle.grammar.specs.Grammar.{Grammar}
use Rattle.answers.specs.declared.Answer.{Answer}
use Rattle.answers.specs.Answers.{done, stop, at_depth}
use Rattle.answers.specs.Buffers.{counted}
use Rattle.table.specs.Fitting.{FitTable}
use Rattle.machine.specs.Machine.{Offered, final}
use Rattle.machine.proofs.Promise.{run_sound}
use Rattle.offer.specs.Strings.{ran}
use Rattle.offer.specs.Stops.{expected, run_answer}
use Rattle.offer.proofs.Promise.{Told, told, served, short_of_list, short_of_stack, blocked, told_done}
use Rattle.run.specs.Running.{words_of, RunOutcome, BesideOutcome}
use Rattle.demands.proofs.AnyTable.{fit_rows}

module _ {book table tokens stack list : List ℕ} where
  -- the words are those of an answer that the run allows, with the same buffers
  pub beside_run : {words rest s l : List ℕ} → BesideOutcome book table tokens stack list words rest s l → (a : Answer) × (words ≡ words_of a) × RunOutcome book table tokens stack list a s l
  beside_run o = (o.answer, o.told, o.run)

module _ (g : Grammar) (table tokens stack list : List ℕ) where
  -- in steps, the rest begins at the place of a refusal
  pub rest_refused : (run_answer g table (ran g table tokens stack list)).number ≢ 0 → (final (ran g table tokens stack list)).matched ≡ (run_answer g table (ran g table tokens stack list)).place
  unfolding stop done at_depth run_answer final
  rest_refused n = go (told (expected g table) (ran g table tokens stack list)) n
    where
      go : {o : Offered} {a : Answer} → Told (expected g table) o a → a.number ≢ 0 → (final o).matched ≡ a.place
      go (served s) n = absurd (n refl)
      go (short_of_list s) n = refl
      go (short_of_stack s) n = refl
      go (blocked s k) n = refl

  -- and is empty when all is done
  pub rest_done : FitTable g table → (run_answer g table (ran g table tokens stack list)).number ≡ 0 → drop (final (ran g table tokens stack list)).matched tokens ≡ []
  unfolding ran run_answer final
  rest_done fit n =
      let (s, taken_at) = told_done (told (expected g table) (ran g table tokens stack list)) n in
      let all : s.matched ≡ length tokens = (run_sound (fit_rows fit) (counted stack) (counted list) tokens taken_at).matches in
      rw taken_at (rw all (drop-length tokens))
