-- Rules on sets: one rule, one pass of them all, and that a pass which changes nothing has come to all that is reached.
use mathlib.Core.Path.{◌≡◌, sym}
use mathlib.Core.Bool.{true}
use mathlib.Core.Logic.{◌≢◌, inl, inr, ⊎_elim}
use mathlib.Core.List.{List}
use Prim.Native.Nat.{ℕ, ◌+◌, ◌^◌, ◌<◌}
use native.Mathlib.Omega.{arith}
use borrow.Author.Count.{below_more}
use Rattle.sets.specs.Sets.{width, member, Subset, Exactly, united}
use Rattle.sets.specs.Calls.{set_at}
use Rattle.sets.proofs.Promise.{or_left, or_right, or_cases, subset_lt}
use Rattle.book.specs.Closure.{Extended, Follows, InClosure, given, fired, Passed}

-- the union with a set adds its members, where they are those of which P holds
pub adds_union : {P : ℕ → Type 0} (before output : ℕ) {after : ℕ} → after < 2 ^ width → after ≡ united before output
    → ((k : ℕ) → member k output ≡ true → P k) → ((k : ℕ) → P k → member k output ≡ true) → Extended P before after
adds_union before output fits e sound complete =
    record {
      fits = fits;
      keeps = λ k m. rw e (or_left k before output m);
      added = λ k h. rw e (or_right k before output (complete k h));
      because = λ k m. ⊎_elim inl (λ new. inr (sound k new)) (or_cases k before output (rw e at m));
    }

pub adds_nothing : {P : ℕ → Type 0} {before : ℕ} → before < 2 ^ width → ((k : ℕ) → P k → ⊥) → Extended P before before
adds_nothing fits none = record { fits = fits; keeps = λ k m. m; added = λ k h. absurd (none k h); because = λ k m. inl m }

pub follows_where : {input output before after : ℕ} → after < 2 ^ width → Subset input before → after ≡ united before output → Extended (Follows input output before) before after
follows_where fits holds e = adds_union _ _ fits e (λ k m. record { holds = holds; gives = m }) (λ k h. h.gives)

pub follows_nowhere : (input output : ℕ) {before : ℕ} → before < 2 ^ width → (Subset input before → ⊥) → Extended (Follows input output before) before before
follows_nowhere input output fits fails = adds_nothing fits (λ k h. fails h.holds)

module _ {ins outs : List ℕ} {count : ℕ} where
  -- before the first rule the set is as it was
  pub passed_none : {before : ℕ} → before < 2 ^ width → Passed ins outs count 0 before before
  passed_none fits =
      record {
        fits = fits;
        keeps = λ k m. m;
        added = λ p none. absurd (omega arith);
        because = λ k m. given m;
      }

  pub passed_next : {n before now after : ℕ} → n < count → Passed ins outs count n before now → Extended (Follows (set_at ins n) (set_at outs n) now) now after → Passed ins outs count (n + 1) before after
  passed_next {n} {before} {now} {after} inside passed applied =
      record {
        fits = applied.fits;
        keeps = λ k m. applied.keeps k (passed.keeps k m);
        added =
            below_more _ _
            (λ p below holds k m. applied.keeps k (passed.added p below holds k m))
            (λ holds k m. applied.added k (record { holds = λ j is_in. passed.keeps j (holds j is_in); gives = m }));
        because = λ k m. ⊎_elim (passed.because k) (λ new. fired n inside (λ j is_in. passed.because j (new.holds j is_in)) new.gives) (applied.because k m);
      }

  -- what is reached from what is reached is reached
  reached_again : {seed before k : ℕ} → ((j : ℕ) → member j before ≡ true → InClosure ins outs count seed j) → InClosure ins outs count before k → InClosure ins outs count seed k
  reached_again all (given m) = all _ m
  reached_again all (fired p below holds m) = fired p below (λ j is_in. reached_again all (holds j is_in)) m

  -- what holds the seed and what every rule adds holds all that is reached
  reached_within : {seed before k : ℕ} → Subset seed before → Passed ins outs count count before before → InClosure ins outs count seed k → member k before ≡ true
  reached_within holds passed (given m) = holds _ m
  reached_within holds passed (fired p below reached m) = passed.added p below (λ j is_in. reached_within holds passed (reached j is_in)) _ m

-- a set on the way from the seed to all that is reached, and one pass more
pub record ClosureRound (ins outs : List ℕ) (count seed before after : ℕ) : Type 0 where
  pub fits : before < 2 ^ width
  pub holds : Subset seed before
  pub because : (k : ℕ) → member k before ≡ true → InClosure ins outs count seed k
  pub passed : Passed ins outs count count before after

module _ {ins outs : List ℕ} {count : ℕ} where
  pub round_first : {seed after : ℕ} → seed < 2 ^ width → Passed ins outs count count seed after → ClosureRound ins outs count seed seed after
  round_first fits passed = record { fits = fits; holds = λ k m. m; because = λ k m. given m; passed = passed }

  module _ {seed before after : ℕ} (round : ClosureRound ins outs count seed before after) where
    pub round_next : {further : ℕ} → Passed ins outs count count after further → ClosureRound ins outs count seed after further
    round_next passed =
        record {
          fits = round.passed.fits;
          holds = λ k m. round.passed.keeps k (round.holds k m);
          because = λ k m. reached_again round.because (round.passed.because k m);
          passed = passed;
        }

    -- a pass that changes something makes the set larger
    pub round_grows : after ≢ before → before < after
    round_grows differ = subset_lt before after round.passed.keeps (λ e. differ (sym e))

    -- where a pass changes nothing, the set is exactly what is reached
    pub round_last : after ≡ before → Exactly width before (InClosure ins outs count seed)
    round_last same =
        record {
          fits = round.fits;
          sound = round.because;
          complete = λ k reached. reached_within round.holds (rw same at round.passed) reached;
        }
