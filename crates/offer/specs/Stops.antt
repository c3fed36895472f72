-- The answer to each way in which steps end: the paper's number, place, detail, steps and expected set, and the depth.
-- Document 01, "Refusals and their numbers" and "Running and expanding"; document 02, W7.
use Rattle.std.specs.Prelude.{List, cond, ℕ, zero, suc, ◌+◌, ◌*◌, ltb, get_or, Ok, Err}
use Rattle.std.proofs.Math.Option.{some, none}
use Rattle.grammar.specs.Grammar.{Grammar}
use Rattle.sets.specs.Sets.{width, end_mark, added, column_place}
use Rattle.sets.specs.declared.Set.{Set}
use Rattle.answers.specs.declared.Answer.{Answer}
use Rattle.answers.specs.Answers.{done, stop, no_set, at_depth}
use Rattle.answers.specs.Refusals.{room, syntax, stack_room, list_room}
use Rattle.table.specs.Table.{held}
use Rattle.machine.specs.Machine.{Offered, taken, stopped, final}
use Rattle.machine.specs.declared.Reason.{Reason}
use Rattle.machine.specs.declared.Reason.TheVariants.{FullList, FullStack, WantsEnd, WantsToken, WantsRow}
use Rattle.offer.specs.declared.Halt.TheVariants.{Stopped, Refused}
use Rattle.offer.specs.Reply.{Reply}

-- the set with that place too; a place past the width adds nothing
unfoldable pub marking : ℕ → ℕ → ℕ
marking k x = cond (ltb k width) (added k x) x

-- the filled columns of a row, as far as `columns` of them
unfoldable pub filled_below : Grammar → List ℕ → ℕ → ℕ → ℕ
filled_below g table A zero = 0
filled_below g table A (suc j) =
    elim (held (get_or table (A * (g.tokens + 1) + j) 255)) [
      | none ↦ filled_below g table A j
      | some p ↦ marking (column_place j g.tokens) (filled_below g table A j)
    ]

-- the expected set of a syntax stop: the end mark, that token, or the filled columns of the row
unfoldable pub expected : Grammar → List ℕ → Reason → Set
expected g table FullList = no_set
expected g table FullStack = no_set
expected g table WantsEnd = record { word = marking end_mark 0 }
expected g table (WantsToken t) = record { word = marking t 0 }
expected g table (WantsRow A) = record { word = filled_below g table A (g.tokens + 1) }

-- the paper's number and detail of a stop
abbrev pub number_of : Reason → ℕ
number_of FullList = room
number_of FullStack = room
number_of WantsEnd = syntax
number_of (WantsToken t) = syntax
number_of (WantsRow A) = syntax

abbrev pub detail_of : Reason → ℕ
detail_of FullList = list_room
detail_of FullStack = stack_room
detail_of WantsEnd = 0
detail_of (WantsToken t) = 0
detail_of (WantsRow A) = 0

-- the paper's values for each way to end, with these expected sets
unfoldable pub answered : (Reason → Set) → Offered → Answer
answered e (taken s) = done s.moves
answered e (stopped r s) = stop (number_of r) s.matched (detail_of r) s.moves (e r)

-- the answer on a book's grammar and a table: those values, and the most stack cells held at any moment
unfoldable pub run_answer : Grammar → List ℕ → Offered → Answer
run_answer g table o = at_depth (final o).height (answered (expected g table) o)

-- the paper's values of a reply to an offer
unfoldable pub values_of : Grammar → List ℕ → Reply → Answer
values_of g table (Ok at) = done (at.listed + at.matched)
values_of g table (Err (Stopped r at)) =
    stop (number_of r) at.matched (detail_of r) (at.listed + at.matched) (expected g table r)
values_of g table (Err (Refused answer)) = answer

-- the most stack cells held that a reply tells of; where the book was refused no step is made
unfoldable pub deepest_in : Reply → ℕ
deepest_in (Ok at) = at.deepest
deepest_in (Err (Stopped r at)) = at.deepest
deepest_in (Err (Refused answer)) = 0

-- and the answer to a reply
unfoldable pub answer_of : Grammar → List ℕ → Reply → Answer
answer_of g table r = at_depth (deepest_in r) (values_of g table r)
