-- From the patterns' tables to their machine, and from the machine to the line.
use mathlib.Core.Path.{◌≡◌, subst}
use mathlib.Core.Logic.{◌≢◌}
use mathlib.Core.List.{List, [], ◌∷◌}
use mathlib.Core.Option.{Option}
use Prim.Native.Nat.{ℕ, ◌*◌, ◌≤◌}
use native.Mathlib.Omega.{arith}
use lib.ListN.{length, take, drop}
use lib.Seq.{take_at}
use Rattle.answers.specs.declared.Answer.{Answer}
use Rattle.std.specs.Prelude.{Ok, Err}
use Rattle.answers.specs.Buffers.{over}
use Rattle.answers.specs.Limits.{most_patterns, most_states, row_cells}
use Rattle.answers.specs.Refusals.{served}
use Rattle.numbering.specs.Numbering.{FoundAll}
use Rattle.pattern.specs.Pattern.{Expression}
use Rattle.pattern.specs.Text.{Bytes}
use Rattle.patterns.specs.Calls.{Accepted, TablesFit, ReadOutcome}
use Rattle.patterns.proofs.Promise.{accepted_length, judged_refused, read_judged, read_done}
use Rattle.states.specs.Machine.{rows_of}
use Rattle.states.proofs.Promise.{rows_length, made_alike}
use Rattle.states.specs.Making.{MachineMade, MadeOutcome, too_many, no_room, made}
use Rattle.pieces.specs.Calls.{CutWithOutcome}
use Rattle.pieces.proofs.Promise.{over_length}
use Rattle.cut.specs.Patterns.{point_states}
use Rattle.cut.specs.Calls as calls
use Rattle.cut.specs.Calls.{CutOutcome}
use Rattle.cut.specs.Preparing as preparing
use Rattle.cut.specs.Preparing.{Prepared}
use Rattle.cut.proofs.Alike.{tables_alike}
use Rattle.cut.proofs.Exact.{cut_exact, bytes_parts}
use Rattle.cut.proofs.Nothing.{nothing_accepted, nothing_tables}

module _ {patterns lengths readers follow xs ys : List ℕ} {a : Answer}
    (fit : TablesFit readers follow)
    (outcome : ReadOutcome patterns lengths readers follow a xs ys) where
  -- the patterns are refused
  pub prepared_refused : {machine : List ℕ} → a.number ≢ served → Prepared patterns lengths machine (Err a) machine
  prepared_refused other = preparing.refused (judged_refused (read_judged outcome fit) other)

  -- or their machine is that of the tables
  pub prepared_made : {machine machine' : List ℕ} {r : MachineMade} → a.number ≡ served
      → MadeOutcome xs ys machine r machine'
      → Prepared patterns lengths machine r machine'
  prepared_made e m =
      let read = read_done outcome e in
      preparing.made read.accepted (made_alike (tables_alike read.tables) m)

-- with no pattern it is the machine of empty tables
pub prepared_nothing : {patterns machine machine' : List ℕ} {r : MachineMade} (lengths : List ℕ)
    → length lengths ≡ 0
    → MadeOutcome [] [] machine r machine'
    → Prepared patterns lengths machine r machine'
prepared_nothing {patterns} [] e m = preparing.made (nothing_accepted patterns) (made_alike (tables_alike nothing_tables) m)
prepared_nothing (n ∷ lengths) e m = absurd (omega arith)

module _ {patterns lengths machine : List ℕ} where
  -- without a machine both buffers are as they were
  pub prepared_stops : {line tokens machine' : List ℕ} {a : Answer} → Prepared patterns lengths machine (Err a) machine'
      → CutOutcome patterns lengths line machine tokens a machine' tokens
  prepared_stops (preparing.refused refuses) = calls.refused refuses
  prepared_stops (preparing.made accept (too_many many)) = calls.too_many accept many
  prepared_stops (preparing.made accept (no_room f few short)) = calls.no_cells accept f few short

  -- with one its cells are there
  pub prepared_fits : {machine' : List ℕ} {n : ℕ} → Prepared patterns lengths machine (Ok n) machine'
      → n * row_cells ≤ length machine'
  prepared_fits (preparing.made accept (made {sets = sets} {cells = cells} f few fits)) =
      let long = rows_length sets cells f.all in
      omega (arith, fits, over_length (rows_of sets cells) machine (omega (arith, long)))

  pub prepared_few : {machine' : List ℕ} {n : ℕ} → Prepared patterns lengths machine (Ok n) machine' → n ≤ most_states
  prepared_few (preparing.made accept (made f few fits)) = few

  -- and cut the line as the patterns do
  pub rows_cut : {line tokens ends : List ℕ} {rs : List Expression} {sets : List ℕ} {cells : List (Option ℕ)} {a : Answer}
      {tokens' ends' : List ℕ}
      → Bytes line
      → Accepted patterns lengths rs
      → FoundAll (point_states rs) sets cells
      → length sets ≤ most_states
      → length sets * row_cells ≤ length machine
      → CutWithOutcome (rows_of sets cells) line tokens ends a tokens' ends'
      → CutOutcome patterns lengths line machine tokens a (over (rows_of sets cells) machine) tokens'
  rows_cut {rs = rs} bytes accept f few fits result =
      let short : length rs ≤ most_patterns = omega (arith, accept.few, accepted_length accept) in
      let along = (cut_exact short accept.fit f few (bytes_parts bytes)).0 result.cut in
      rw (result.answered, result.numbers) (calls.cut accept f few fits along)

  pub prepared_cuts : {line tokens ends machine' : List ℕ} {n : ℕ} {a : Answer} {tokens' ends' : List ℕ}
      → Bytes line
      → Prepared patterns lengths machine (Ok n) machine'
      → CutWithOutcome (take (n * row_cells) machine') line tokens ends a tokens' ends'
      → CutOutcome patterns lengths line machine tokens a machine' tokens'
  prepared_cuts {line} {tokens} {ends} {a = a} {tokens'} {ends'} bytes
      (preparing.made accept (made {sets = sets} {cells = cells} f few fits)) result =
      let rows = rows_of sets cells in
      let front : take (length sets * row_cells) (over rows machine) ≡ rows =
      take_at rows (drop (length rows) machine) (length sets * row_cells) (rows_length sets cells f.all) in
      rows_cut bytes accept f few fits
      (subst (λ (xs : List ℕ). CutWithOutcome xs line tokens ends a tokens' ends') front result)
