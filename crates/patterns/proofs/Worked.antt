-- The worked examples, by computing.
use mathlib.Core.Path.{◌≡◌, refl, subst}
use mathlib.Core.List.{List, [], ◌∷◌, map}
use mathlib.Core.Option.{some}
use Prim.Native.Nat.{ℕ, zero, suc, ◌<◌}
use native.Mathlib.Omega.{arith}
use lib.ListN.{length, get_elem?}
use lib.Seq.{take-length}
use Rattle.answers.specs.Answers.{refusal}
use Rattle.answers.specs.Refusals.{pattern}
use Rattle.pattern.specs.Written.{BadAt, patterns_of}
use Rattle.pattern.specs.Kinds.{kind_in, kind_of}
use Rattle.pattern.specs.Reader.{nothing_begun, start, joined, with_item, settled, alternation_of, elements, opened}
use Rattle.pattern.specs.Reader.{closed, divided, marked, byte_read, class_read, range_read, moved, move, ended}
use Rattle.pattern.specs.Reader.{read_from, says, read_pattern}
use Rattle.pattern.specs.Positions.{size, positions}
use Rattle.pattern.specs.House.{along, word, parish, house, house_patterns}
use Rattle.pattern.proofs.Promise.{nullable}
use Rattle.pattern.proofs.Promise.{house_sizes}
use Rattle.patterns.specs.Calls.{Accepted, JudgePatterns, refused, bad_pattern}
use Rattle.patterns.specs.Examples.{Example, house_bytes, house_lengths, examples}
use Rattle.patterns.proofs.Judging.{meant, behind, scan, scan_meant, found_answer, judged_of, judged_of_lem}

-- what two functions have alike of a list, they have alike of each element
each : {A B : Type 0} (f g : A → B) (l : List A)
    → map f l ≡ map g l
    → (j : ℕ) (a : A)
    → get_elem? l j ≡ some a
    → f a ≡ g a
each f g [] e j a h = let bad : ◌≡◌ {A = ℕ} 0 1 = cc in absurd (omega arith)
each f g (b ∷ l) e zero a h = cc
each f g (b ∷ l) e (suc j) a h = each f g l (cc) j a h

computed : map (λ e. judged_of e.patterns e.lengths) examples ≡ map (λ e. e.answer) examples
unfolding examples house_bytes house_lengths judged_of scan behind found_answer patterns_of positions size nullable read_pattern says read_from start nothing_begun kind_of kind_in move moved marked opened closed divided byte_read class_read range_read settled with_item joined alternation_of elements ended
computed = refl

pub examples_judged : (j : ℕ) (e : Example) → get_elem? examples j ≡ some e → JudgePatterns e.patterns e.lengths e.answer
examples_judged j e h =
    subst (JudgePatterns e.patterns e.lengths)
    (each (λ d. judged_of d.patterns d.lengths) (λ d. d.answer) examples computed j e h)
    (judged_of_lem e.patterns e.lengths)

-- a bad text lent alone is told at its place
pub one_bad : {s : List ℕ} {i : ℕ} → BadAt s i → JudgePatterns s (length s ∷ []) (refusal pattern i 0)
unfolding patterns_of
one_bad {s} b =
    refused
    (bad_pattern {k = 0} (omega arith)
    (record {
      text = s;
      at = rw (take-length s);
      bad = b;
      lower = λ j (h : j < 0) t e. absurd (omega arith);
    }))

-- the house patterns have their meanings and 17 positions
house_found : scan (patterns_of house_bytes house_lengths) ≡ meant house_patterns
unfolding house_bytes house_lengths house_patterns house parish word along scan behind patterns_of nullable read_pattern says read_from start nothing_begun kind_of kind_in move moved marked opened closed divided byte_read class_read range_read settled with_item joined alternation_of elements ended
house_found = refl

pub house_accepted : Accepted house_bytes house_lengths house_patterns
unfolding house_lengths
house_accepted =
    record {
      few = omega arith;
      means = (scan_meant house_found).0;
      good = (scan_meant house_found).1;
      fit = omega (arith, house_sizes.1);
    }
