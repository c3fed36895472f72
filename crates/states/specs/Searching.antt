-- What each function of the search comes to. Working definitions, which no public contract cites.
use Rattle.std.specs.Prelude.{◌≡◌, List, ℕ, ◌≤◌, length, Result, MatchResult, ⊤}
use Rattle.std.proofs.Math.Option as maybe
use Rattle.answers.specs.Limits.{most_states}
use Rattle.numbering.specs.Numbering.{Automaton, Found, FoundAll, TooMany}
use Rattle.states.specs.declared.found.States.{States}
use Rattle.states.specs.declared.found.TooManyStates.{TooManyStates}
use Rattle.states.specs.declared.tables.Tables.{Tables}
use Rattle.states.specs.Machine.{tables}
use Rattle.states.specs.Sets.{states_of}

-- the machine of the given tables
abbrev pub machine_of : Tables → Automaton ℕ
machine_of given = tables given.readers.now given.follow.now

-- the states' sets
abbrev pub found_in : States → List ℕ
found_in states = states_of states.sets states.count

-- the states are those that were found in the first t cells
pub record SearchedTo (given : Tables) (states : States) (t : ℕ) : Type 0 where
  pub cells : List (maybe.Option ℕ)
  pub found : Found (machine_of given) (found_in states) cells
  pub turns : length cells ≡ t

-- so they are, and they are no fewer than before
pub record More (given : Tables) (before : States) (t : ℕ) (after : States) : Type 0 where
  pub more : before.count ≤ after.count
  pub searched : SearchedTo given after t

-- so it is, or there are too many states
abbrev pub OrTooMany : Tables → Type 0 → Result ⊤ TooManyStates → Type 0
OrTooMany given P r = MatchResult r (λ _. P) (λ _. TooMany (machine_of given) most_states)

-- all states
pub record Searched (given : Tables) (states : States) : Type 0 where
  pub cells : List (maybe.Option ℕ)
  pub all : FoundAll (machine_of given) (found_in states) cells
