-- Where there is no pattern: no point can come first, empty tables are its tables, and no state is found.
use mathlib.Core.Path.{refl, sym, subst}
use mathlib.Core.List.{List, []}
use mathlib.Core.Option.{none-ne-some}
use Prim.Native.Nat.{ℕ}
use native.Mathlib.Omega.{arith}
use Rattle.sets.specs.Sets.{Exactly}
use Rattle.sets.specs.Words.{places}
use Rattle.sets.proofs.Promise.{exactly_none, exactly_unique, no_words}
use Rattle.points.specs.Points.{points_at}
use Rattle.points.proofs.Promise.{points_none}
use Rattle.numbering.specs.Numbering.{FoundAll}
use Rattle.numbering.proofs.Promise.{found_nothing}
use Rattle.pattern.specs.Positions.{positions, Point, Start, start_position, start_end, Onward, onward_position, onward_end}
use Rattle.pattern.specs.Positions.{ReadsIn, reads_in}
use Rattle.pattern.specs.Written.{patterns_of}
use Rattle.patterns.specs.Calls.{point_at, no_texts, Accepted, TablesOf}
use Rattle.cut.specs.Patterns.{point_states}

nothing_starts : (t : Point) → ¬ Start [] t
nothing_starts t (start_position {x = x} at first) = none-ne-some x at.at
nothing_starts t (start_end {x = x} at null) = none-ne-some x at.at

nothing_onward : (p : ℕ) (t : Point) → ¬ Onward [] p t
nothing_onward p t (onward_position {x = x} at follows) = none-ne-some x at.at
nothing_onward p t (onward_end {x = x} at last) = none-ne-some x at.at

nothing_reads : (p b : ℕ) → ¬ ReadsIn [] p b
nothing_reads p b (reads_in {x = x} at reads) = none-ne-some x at.at

-- no state
pub nothing_found : FoundAll (point_states []) [] []
nothing_found =
    found_nothing {m = point_states []} (λ x s.
    s.nonempty (exactly_unique x 0 s.exact (exactly_none _ (λ q first. nothing_starts (point_at q) first))))

pub nothing_accepted : (patterns : List ℕ) → Accepted patterns [] []
unfolding patterns_of positions
nothing_accepted patterns =
    record {
      few = omega arith;
      means = no_texts;
      good = record { good = λ j t e. absurd (none-ne-some t e) };
      fit = omega arith;
    }

-- the set of no words
empty_row : (at n : ℕ) {P : ℕ → Type 0} → ((q : ℕ) → ¬ P q) → Exactly (places n) (points_at [] at n) P
empty_row at n {P} none =
    subst (λ (x : ℕ). Exactly (places n) x P) (sym ((points_none [] at n).0 (λ j inside. refl))) (exactly_none (places n) none)

pub nothing_tables : TablesOf [] [] []
nothing_tables =
    record {
      readers_words = no_words;
      follow_words = no_words;
      reads = λ b byte. empty_row _ _ (λ p. nothing_reads p b);
      onward = λ p below. empty_row _ _ (λ q. nothing_onward p (point_at q));
      start = empty_row _ _ (λ q. nothing_starts (point_at q));
      readers_beyond = λ i beyond. refl;
      follow_beyond = λ i beyond. refl;
    }
