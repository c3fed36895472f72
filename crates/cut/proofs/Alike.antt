-- The tables of patterns make the automaton of the patterns' own relations.
use mathlib.Core.Path.{◌≡◌, refl, sym, ◌∙◌}
use mathlib.Core.Bool.{true}
use mathlib.Core.Logic.{◌↔◌}
use mathlib.Core.List.{List}
use Prim.Native.Nat.{ℕ, ◌<◌}
use native.Mathlib.Omega.{arith}
use Rattle.sets.specs.Sets.{member, Exactly}
use Rattle.sets.specs.Words.{places}
use Rattle.sets.proofs.Promise.{exactly_unique, exactly_alike, fits_members, places_are}
use Rattle.answers.specs.Limits.{most_positions, position_words, point_words, byte_values}
use Rattle.numbering.specs.Numbering.{Lawful, Alike}
use Rattle.pattern.specs.Pattern.{Expression}
use Rattle.pattern.specs.Positions.{Start, Moved, moved, ReadsIn, Onward}
use Rattle.patterns.specs.Calls.{point_at, TablesOf}
use Rattle.moves.specs.Tables.{readers_of, follow_of, first_of, NextPoint}
use Rattle.states.specs.Machine.{tables}
use Rattle.cut.specs.Patterns.{InSet, point_states}
use Rattle.cut.proofs.Pointing.{point_position, place_of_position}

-- equal sets are the same state, one set at most is the start, and a byte leads from a set to one set at most
pub states_lawful : (rs : List Expression) → Lawful (point_states rs)
states_lawful rs =
    record {
      reflexive = λ x. refl;
      symmetric = λ x y e. sym e;
      transitive = λ x y z e d. e ∙ d;
      one_start = λ x y s t. exactly_unique x y s.exact t.exact;
      one_move = λ b x x' y y' e m m'. exactly_unique y y' m.exact (rw (← e) at m'.exact);
      both_move = λ b x x' y e m. (y, rw e at m);
    }

module _ {rs : List Expression} {readers follow : List ℕ} (t : TablesOf rs readers follow) where
  start_exact : Exactly (places point_words) (first_of follow) (λ q. Start rs (point_at q))
  unfolding first_of follow_of
  start_exact = t.start

  reads_exact : (b : ℕ) → b < byte_values → Exactly (places position_words) (readers_of readers b) (λ p. ReadsIn rs p b)
  unfolding readers_of
  reads_exact b byte = t.reads b byte

  onward_exact : (p : ℕ) → p < most_positions → Exactly (places point_words) (follow_of follow p) (λ q. Onward rs p (point_at q))
  unfolding follow_of
  onward_exact p below = t.onward p below

  -- only places of positions read
  reader_below : (b p : ℕ) → b < byte_values → member p (readers_of readers b) ≡ true → p < most_positions
  reader_below b p byte m =
      omega (arith, places_are position_words, fits_members (places position_words) p (readers_of readers b) (reads_exact b byte).fits m)

  -- what comes after by the tables comes after by the patterns
  next_moved : (x b : ℕ) → b < byte_values → (q : ℕ) → NextPoint readers follow x b q ↔ Moved rs (InSet x) b (point_at q)
  next_moved x b byte q = (to, from)
    where
      to : NextPoint readers follow x b q → Moved rs (InSet x) b (point_at q)
      to n =
          let p = n.position in
          let below : p < most_positions = reader_below b p byte n.reads in
          moved {p = p}
          (record { place = p; point = point_position p below; there = n.there })
          ((reads_exact b byte).sound p n.reads)
          ((onward_exact p below).sound q n.leads)

      from : Moved rs (InSet x) b (point_at q) → NextPoint readers follow x b q
      from (moved {p = p} i r o) =
          let reads : member p (readers_of readers b) ≡ true = (reads_exact b byte).complete p r in
          record {
            position = p;
            there = rw (place_of_position i.place i.point) at i.there;
            reads = reads;
            leads = (onward_exact p (reader_below b p byte reads)).complete q o;
          }

  pub tables_alike : Alike (tables readers follow) (point_states rs)
  tables_alike =
      record {
        columns = refl;
        same = λ x y. (λ e. e, λ e. e);
        starts = λ x. (
          λ s. record { exact = rw s.first start_exact; nonempty = s.nonempty },
          λ s. record { first = exactly_unique x (first_of follow) s.exact start_exact; nonempty = s.nonempty },
        );
        moves = λ x b y byte. (
          λ m. record { exact = exactly_alike (next_moved x b byte) m.exact; nonempty = m.nonempty },
          λ m.
              record {
                exact = exactly_alike (λ q. let (to, from) = next_moved x b byte q in (from, to)) m.exact;
                nonempty = m.nonempty;
              },
        );
      }
