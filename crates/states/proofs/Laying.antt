-- The rows laid cell by cell: the cells of the bytes that have the same readers.
use mathlib.Core.Path.{◌≡◌, sym, ◌∙◌}
use mathlib.Core.List.{List}
use Prim.Native.Nat.{ℕ, ◌+◌, ◌*◌, ◌≤◌, ◌<◌}
use native.Mathlib.Decide.{dec_lt}
use native.Mathlib.Omega.{arith}
use lib.ListN.{get_or}
use Rattle.answers.specs.Limits.{byte_values, row_cells}
use Rattle.moves.specs.Tables.{readers_of, set_of}
use Rattle.states.specs.declared.found.States.{States}
use Rattle.states.specs.declared.tables.Tables.{Tables}
use Rattle.states.specs.Runs.{RunEnd}
use Rattle.states.specs.Filling.{Cell, CellsSpread, Filled}
use Rattle.states.proofs.Bytes.{exactly_repeats}

-- by a byte with the same readers
cell_run : {given : Tables} {states : States} {i b c r : ℕ}
    → readers_of given.readers.now c ≡ readers_of given.readers.now b
    → Cell given states i b r
    → Cell given states i c r
cell_run {given} {states} {i} {b} {c} same cell =
    record {
      points = cell.points;
      exact = exactly_repeats given.readers.now given.follow.now (set_of states.sets i) b c (sym same) cell.exact;
      number = cell.number;
    }

module _ {given : Tables} {states : States} {start after : List ℕ} (i : ℕ) where
  -- the cells of bytes with the same readers
  pub filled_run : (b e v : ℕ) {later : List ℕ} → RunEnd given.readers.now b e
      → Filled given states start (i * row_cells + b) after
      → Cell given states i b v
      → CellsSpread after (i * row_cells + b) (i * row_cells + e) v later
      → Filled given states start (i * row_cells + e) later
  filled_run b e v {later} run f cell s =
      record {
        long = s.long ∙ f.long;
        next = λ j c below earlier. go j c below earlier (dec_lt (j * row_cells + c) (i * row_cells + b));
        token = λ j earlier.
            s.before_it (j * row_cells + byte_values) (omega (arith, run.within))
            ∙ f.token j (omega (arith, run.within));
        rest = λ k above. s.behind_it k above ∙ f.rest k (omega (arith, run.above));
      }
    where
      go : (j c : ℕ) → c < byte_values → j * row_cells + c < i * row_cells + e
          → Dec (j * row_cells + c < i * row_cells + b)
          → Cell given states j c (get_or later (j * row_cells + c) 0)
      go j c below earlier (yes before) = rw (s.before_it (j * row_cells + c) before) (f.next j c below before)
      go j c below earlier (no here) =
          let row : j ≡ i = omega (arith, run.within) in
          let low : b ≤ c = omega (arith, run.within) in
          let high : c < e = omega (arith, run.within) in
          rw (s.there (j * row_cells + c) (omega arith) (omega arith), row) (cell_run (run.same c low high) cell)
