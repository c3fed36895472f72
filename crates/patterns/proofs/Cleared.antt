-- Tables that were cleared before their rows grew: what each row holds exactly, and that every word behind the rows is 0.
use mathlib.Core.Path.{◌≡◌, refl, sym, ◌∙◌}
use mathlib.Core.Logic.{⊎_elim}
use mathlib.Core.Bool.{false≢true}
use mathlib.Core.List.{List, ◌++◌}
use Prim.Native.Nat.{ℕ, zero, suc, ◌+◌, ◌-◌, ◌*◌, ◌^◌, ◌≤◌, ◌<◌}
use native.Mathlib.Omega.{arith}
use lib.ListN.{length, take, drop, get_or, replicate, length-replicate, length-take, get_or-append}
use lib.Seq.{get_or-take, get_or-drop, get_or-append-add}
use Rattle.sets.specs.Sets.{Exactly}
use Rattle.sets.specs.Words.{places, AreWords}
use Rattle.sets.proofs.Promise.{member_none, exactly_alike}
use Rattle.points.specs.Points.{points_at}
use Rattle.points.proofs.Promise.{points_fit, points_alike, points_none}
use Rattle.answers.specs.Buffers.{cleared}
use Rattle.answers.specs.Limits.{most_positions, position_words, point_words}
use Rattle.pattern.specs.Pattern.{Expression}
use Rattle.pattern.specs.Positions.{Start, Onward, ReadsIn}
use Rattle.parts.specs.Rows.{Grown, row_at, Rows}
use Rattle.patterns.specs.Calls.{point_at, readers_length, follow_length, TablesFit, TablesOf}
use Rattle.patterns.specs.Gathering.{NextIn, after_position, at_the_start}

zero_at : (n i : ℕ) → ◌≡◌ {A = ℕ} (get_or (replicate n 0) i 0) 0
zero_at zero i = refl
zero_at (suc n) zero = refl
zero_at (suc n) (suc i) = zero_at n i

-- the first words of a cleared table are 0
zero_before : (size i : ℕ) (table : List ℕ) → i < size → get_or (take size (cleared table)) i 0 ≡ 0
zero_before size i table inside = rw (get_or-take size (cleared table) i 0 inside) (zero_at (length table) i)

-- a row that grew from nothing holds what it grew by
grown_none_exactly : {w x y : ℕ} {P : ℕ → Type 0} → x ≡ 0 → Grown x y P → y < 2 ^ w → Exactly w y P
grown_none_exactly {y = y} {P = P} none g fits =
    record {
      fits = fits;
      sound = λ k m. ⊎_elim (λ old. absurd (false≢true (sym (member_none k) ∙ rw none at old))) (λ p. p) (g.because k m);
      complete = λ k p. g.new k p;
    }

-- the first words of a table were cleared and then grew to xs
module _ (n size : ℕ) (table xs : List ℕ) where
  abbrev whole : List ℕ
  whole = xs ++ drop size (cleared table)

  module _ {P : ℕ → ℕ → Type 0} (long : size ≤ length table) (rows : Rows n (take size (cleared table)) xs P) where
    xs_length : length xs ≡ size
    xs_length =
        omega (arith, rows.long, length-take size (cleared table), length-replicate {A = ℕ} (length table) 0)

    pub row_exactly : AreWords whole → (i : ℕ) → i * n + n ≤ size → Exactly (places n) (points_at whole (i * n) n) (P i)
    row_exactly words i inside =
        let same : points_at xs (i * n) n ≡ points_at whole (i * n) n =
        points_alike xs whole (i * n) (i * n) n
        (λ j below. sym (get_or-append xs (drop size (cleared table)) 0 (i * n + j) (omega (arith, xs_length)))) in
        let none : row_at (take size (cleared table)) n i ≡ 0 =
        (points_none (take size (cleared table)) (i * n) n).0
        (λ j below. zero_before size (i * n + j) table (omega arith)) in
        let there : i * n + n ≤ length (take size (cleared table)) = omega (arith, xs_length, rows.long) in
        let grown : Grown (row_at (take size (cleared table)) n i) (points_at whole (i * n) n) (P i) =
        rw same at (rows.grown i there) in
        grown_none_exactly none grown (points_fit whole (i * n) n words)

    pub none_beyond : (i : ℕ) → size ≤ i → get_or whole i 0 ≡ 0
    none_beyond i past =
        let there : length xs + (i - size) ≡ i = omega (arith, xs_length) in
        rw (← there)
        (get_or-append-add xs (drop size (cleared table)) (i - size) 0
        ∙ get_or-drop size (cleared table) (i - size) 0
        ∙ zero_at (length table) (size + (i - size)))

module _ {rs : List Expression} where
  onward_of : (p q : ℕ) → p < most_positions → NextIn rs p q → Onward rs p (point_at q)
  onward_of p q below (after_position b o) = o
  onward_of p q below (at_the_start s) = absurd (omega arith)

  start_of : (p q : ℕ) → p ≡ most_positions → NextIn rs p q → Start rs (point_at q)
  start_of p q there (after_position b o) = absurd (omega arith)
  start_of p q there (at_the_start s) = s

  -- both tables
  module _ {readers follow xs ys : List ℕ}
      (fit : TablesFit readers follow)
      (reads : Rows position_words (take readers_length (cleared readers)) xs (λ b p. ReadsIn rs p b))
      (follows : Rows point_words (take follow_length (cleared follow)) ys (NextIn rs)) where
    abbrev all_readers : List ℕ
    all_readers = xs ++ drop readers_length (cleared readers)

    abbrev all_follow : List ℕ
    all_follow = ys ++ drop follow_length (cleared follow)

    pub tables_filled : AreWords all_readers → AreWords all_follow → TablesOf rs all_readers all_follow
    tables_filled readers_words follow_words =
        record {
          readers_words = readers_words;
          follow_words = follow_words;
          reads = λ b below.
              row_exactly position_words readers_length readers xs fit.readers_fit reads readers_words b (omega arith);
          onward = λ p below.
              exactly_alike (λ q. (onward_of p q below, after_position below))
              (row_exactly point_words follow_length follow ys fit.follow_fit follows follow_words p (omega arith));
          start =
              exactly_alike (λ q. (start_of most_positions q refl, at_the_start))
              (row_exactly point_words follow_length follow ys fit.follow_fit follows follow_words most_positions (omega arith));
          readers_beyond = none_beyond position_words readers_length readers xs fit.readers_fit reads;
          follow_beyond = none_beyond point_words follow_length follow ys fit.follow_fit follows;
        }
