-- Every call with a line of bytes has an outcome: what is told of the patterns, how the search for the states ends, whether
-- there is room for their machine, and how its rows cut the line.
use mathlib.Core.List.{List, []}
use mathlib.Core.Option.{Option}
use Prim.Native.Nat.{ℕ, ◌*◌, ◌≤◌, ◌<◌}
use native.Mathlib.Decide.{dec_lt}
use native.Mathlib.Omega.{arith}
use lib.ListN.{length}
use Rattle.answers.specs.declared.Answer.{Answer}
use Rattle.answers.specs.Limits.{most_states, row_cells}
use Rattle.numbering.specs.Numbering.{FoundAll, Ending, whole, too_many}
use Rattle.numbering.proofs.Promise.{search_ends}
use Rattle.pattern.specs.Pattern.{Expression}
use Rattle.pattern.specs.Text.{Bytes}
use Rattle.patterns.specs.Calls.{Accepted, JudgePatterns, refused, accepted}
use Rattle.patterns.proofs.Promise.{judged_of_lem}
use Rattle.states.specs.Machine.{rows_of}
use Rattle.pieces.proofs.Promise.{cut_with_exists}
use Rattle.cut.specs.Patterns.{point_states}
use Rattle.cut.specs.Calls as calls
use Rattle.cut.specs.Calls.{CutOutcome}
use Rattle.cut.proofs.Alike.{states_lawful}
use Rattle.cut.proofs.PointSets.{states_decided}
use Rattle.cut.proofs.Preparing.{rows_cut}
use Rattle.cut.proofs.Many.{accepted_few}

-- there is an outcome
abbrev Outcome : (patterns lengths line machine tokens : List ℕ) → Type 0
Outcome patterns lengths line machine tokens =
    (a : Answer) × (machine' : List ℕ) × (tokens' : List ℕ) × CutOutcome patterns lengths line machine tokens a machine' tokens'

module _ {patterns lengths line machine tokens : List ℕ} (bytes : Bytes line) where
  -- by the rows, where they fit
  outcome_found : {rs : List Expression} {sets : List ℕ} {cells : List (Option ℕ)} → Accepted patterns lengths rs
      → FoundAll (point_states rs) sets cells
      → length sets ≤ most_states
      → Dec (length machine < length sets * row_cells)
      → Outcome patterns lengths line machine tokens
  outcome_found accept f few (yes short) = (_, machine, tokens, calls.no_cells accept f few short)
  outcome_found {sets = sets} {cells = cells} accept f few (no enough) =
      let (a, tokens', ends', result) = cut_with_exists (rows_of sets cells) line tokens [] in
      (a, _, tokens', rows_cut bytes accept f few (omega arith) result)

  outcome_accepted : {rs : List Expression} → Accepted patterns lengths rs → Ending (point_states rs) most_states → Outcome patterns lengths line machine tokens
  outcome_accepted accept (whole {states = sets} f few) = outcome_found accept f few (dec_lt (length machine) (length sets * row_cells))
  outcome_accepted accept (too_many many) = (_, machine, tokens, calls.too_many accept many)

  outcome_judged : {a : Answer} → JudgePatterns patterns lengths a → Outcome patterns lengths line machine tokens
  outcome_judged {a} (refused refuses) = (a, machine, tokens, calls.refused refuses)
  outcome_judged (accepted {rs = rs} accept) =
      outcome_accepted accept
      (search_ends (states_lawful rs) (states_decided (accepted_few accept) accept.fit) most_states)

  pub cut_outcome_exists : (a : Answer) × (machine' : List ℕ) × (tokens' : List ℕ)
      × CutOutcome patterns lengths line machine tokens a machine' tokens'
  cut_outcome_exists = outcome_judged (judged_of_lem patterns lengths)
