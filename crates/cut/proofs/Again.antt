-- The machine that a call left cuts every line as the patterns do, whatever stands behind its rows.
use mathlib.Core.Path.{◌≡◌, refl, sym, ap, ap₂, subst, ◌∙◌}
use mathlib.Core.List.{List, [], ◌∷◌, ◌++◌}
use mathlib.Core.Option.{Option}
use Prim.Native.Nat.{ℕ, ◌*◌, ◌≤◌, ◌<◌}
use native.Mathlib.Omega.{arith}
use lib.ListN.{length, take, drop, take-append-drop}
use lib.Seq.{take_at}
use Rattle.answers.specs.declared.Answer.{Answer}
use Rattle.answers.specs.Buffers.{over}
use Rattle.answers.specs.Limits.{most_patterns, most_states, row_cells}
use Rattle.numbering.specs.Numbering.{FoundAll}
use Rattle.pattern.specs.Pattern.{Expression, one, cat, alt, plus, opt, Pattern}
use Rattle.pattern.specs.Positions.{positions, Point, position, FirstPosition, first_one, first_cat, first_left, first_plus, first_opt, Start, start_position}
use Rattle.pattern.specs.Text.{Bytes}
use Rattle.patterns.specs.Calls.{Accepted}
use Rattle.patterns.proofs.Promise.{accepted_length}
use Rattle.states.specs.Machine.{rows_of}
use Rattle.states.proofs.Promise.{rows_length}
use Rattle.pieces.specs.Cut.{Ending}
use Rattle.pieces.specs.Cut.{Piece, numbers_of, Cut, answer_of}
use Rattle.pieces.specs.Rows.{Says, Closed}
use Rattle.pieces.proofs.Promise as pieces
use Rattle.cut.specs.Patterns.{point_states}
use Rattle.cut.specs.Calls.{CutOutcome}
use Rattle.cut.specs.Promised.{ReachedLine, CutsAs}
use Rattle.cut.proofs.Walking.{rows_closed}
use Rattle.cut.proofs.Exact.{row_there, cut_exact, bytes_parts}
use Rattle.cut.proofs.Outcomes.{was_cut}
use Rattle.cut.proofs.Unique.{pieces_unique}

-- some position of each expression can come first
first_some : (x : Expression) (n : ℕ) → (p : ℕ) × FirstPosition n x p
first_some (one c) n = (n, first_one)
first_some (cat x y) n = let (p, f) = first_some x n in (p, first_cat f)
first_some (alt x y) n = let (p, f) = first_some x n in (p, first_left f)
first_some (plus x) n = let (p, f) = first_some x n in (p, first_plus f)
first_some (opt x) n = let (p, f) = first_some x n in (p, first_opt f)

start_some : (rs : List Expression) → 0 < length rs → (t : Point) × Start rs t
unfolding positions
start_some [] some_pattern = absurd (omega arith)
start_some (x ∷ rs) some_pattern =
    let (p, f) = first_some x 0 in
    (position p, start_position {k = 0} {n = 0} (record { at = refl; from = refl }) f)

module _ {patterns lengths : List ℕ} (some_pattern : 0 < length lengths)
    {rs : List Expression}
    (accept : Accepted patterns lengths rs)
    {sets : List ℕ} {cells : List (Option ℕ)}
    (f : FoundAll (point_states rs) sets cells)
    (few : length sets ≤ most_states) where
  patterns_few : length rs ≤ most_patterns
  patterns_few = omega (arith, accept.few, accepted_length accept)

  closed : Closed (rows_of sets cells) (length sets)
  closed =
      let (t, first) = start_some rs (omega (arith, accepted_length accept)) in
      rows_closed patterns_few accept.fit f few (row_there patterns_few accept.fit f few t first)

  -- the cut by the rows and what stands behind them is the cut by the patterns
  cut_behind : (more : List ℕ) {room place : ℕ} {line : List ℕ} {ps : List Piece} {ending : Ending} → Bytes line
      → Cut (Says (rows_of sets cells ++ more)) room place line ps ending
      → Cut (Pattern rs) room place line ps ending
  cut_behind more bytes c =
      (cut_exact patterns_few accept.fit f few (bytes_parts bytes)).0
      (pieces.cut_exact (λ k u. let (to, from) = pieces.says_beginning (rows_of sets cells) more closed {k = k} {u = u} in (from, to)) c)

  pub rows_cut_as : (more : List ℕ) → CutsAs patterns lengths (rows_of sets cells ++ more)
  rows_cut_as more =
      record {
        same = λ {line} {tokens} bytes with result reached.
            let w = was_cut result reached in
            let same = pieces_unique accept w.accepted (cut_behind more bytes with.cut) w.along in (
              with.answered
                  ∙ ap₂ (λ (e : Ending) (p : List Piece). answer_of e (length p)) same.1 same.0
                  ∙ sym w.answered,
              with.numbers ∙ ap (λ (p : List Piece). over (numbers_of p) tokens) same.0 ∙ sym w.numbers,
            );
      }

module _ {patterns lengths line machine tokens machine' tokens' : List ℕ} {a : Answer}
    (some_pattern : 0 < length lengths)
    (result : CutOutcome patterns lengths line machine tokens a machine' tokens')
    (reached : ReachedLine a) where
  -- the machine's own cells cut as the patterns do, whatever stands behind them
  pub cut_with_beginning : (n : ℕ) × (n ≤ length machine) × ((more : List ℕ) → CutsAs patterns lengths (take n machine' ++ more))
  cut_with_beginning =
      let w = was_cut result reached in
      let rows = rows_of w.sets w.cells in
      let long : length rows ≡ length w.sets * row_cells = rows_length w.sets w.cells w.found.all in
      let front : take (length rows) machine' ≡ rows =
      ap (take (length rows)) w.rows ∙ take_at rows (drop (length rows) machine) (length rows) refl in (
        length rows,
        omega (arith, long, w.fits),
        λ more.
            subst (λ (front : List ℕ). CutsAs patterns lengths (front ++ more)) (sym front)
            (rows_cut_as some_pattern w.accepted w.found w.few more),
      )

  -- so the machine as it was left does
  pub cut_with_cut : CutsAs patterns lengths machine'
  cut_with_cut =
      let (n, inside, any) = cut_with_beginning in
      subst (CutsAs patterns lengths) (take-append-drop n machine') (any (drop n machine'))
