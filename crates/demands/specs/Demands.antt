-- Demands 2 and 3, each of one call: by what it was lent, and by what it leaves, whoever made the call.
-- Document 01, "How much each promise says", and the demands themselves.
use Rattle.std.specs.Prelude.{◌≡◌, ◌↔◌, ◌⊎◌, List, ℕ, ◌+◌, ◌<◌, ◌≤◌, length, take, get_or}
use Rattle.std.proofs.Math.Option.{Option}
use Rattle.grammar.specs.Grammar.{Grammar, Column, Complete, Conflict}
use Rattle.grammar.specs.Machine.{Longest}
use Rattle.answers.specs.declared.Answer.{Answer}
use Rattle.answers.specs.Refusals.{room, conflict, syntax}
use Rattle.answers.specs.Buffers.{over, counted}
use Rattle.answers.specs.Limits.{longest_string, longest_list}
use Rattle.book.specs.Judging.{Serves}
use Rattle.follow.specs.Calls.{SetsFit}
use Rattle.table.specs.Calls.{BuildOutcome}
use Rattle.first.specs.Numbers.{FirstSets}
use Rattle.follow.specs.Families.{FollowSets}
use Rattle.table.specs.Table.{size, TableOf, BuiltWithoutConflict, cell_of}
use Rattle.machine.specs.Room.{peak}
use Rattle.machine.specs.Machine.{final}
use Rattle.machine.specs.Expansion.{Expansion, expansion}
use Rattle.machine.specs.Stopping.{RoomNeeded}
use Rattle.offer.specs.Strings.{ran}
use Rattle.run.specs.Running.{Admits, RunOutcome}
use Rattle.expand.specs.Expanding.{ExpandOutcome}

-- what building leaves: the answer, both set buffers, the table
pub record Built : Type 0 where
  pub answer : Answer
  pub first : List ℕ
  pub follow : List ℕ
  pub table : List ℕ

-- what a run leaves: the answer, the stack, the list
pub record Ran : Type 0 where
  pub answer : Answer
  pub stack : List ℕ
  pub list : List ℕ

-- what an expansion leaves: the answer, the stack, the output
pub record Expanded : Type 0 where
  pub answer : Answer
  pub stack : List ℕ
  pub output : List ℕ

-- the promise of a call allows what it leaves
abbrev pub MayBuild : (book first follow table : List ℕ) → Built → Type 0
MayBuild book first follow table r = BuildOutcome book first follow table r.answer r.first r.follow r.table

abbrev pub MayRun : (book table tokens stack list : List ℕ) → Ran → Type 0
MayRun book table tokens stack list r = RunOutcome book table tokens stack list r.answer r.stack r.list

abbrev pub MayExpand : (book list stack output : List ℕ) → Expanded → Type 0
MayExpand book list stack output r = ExpandOutcome book list stack output r.answer r.stack r.output

-- a table built without conflict, and a string of at most 4,096 of its tokens
pub record Premises (book table tokens : List ℕ) : Type 0 where
  pub built : BuiltWithoutConflict book table
  pub short : length tokens ≤ longest_string
  pub known : (i : ℕ) → i < length tokens → get_or tokens i 0 < built.grammar.tokens

-- the set buffers and the table buffer have room
pub record BuildRoom (g : Grammar) (first follow table : List ℕ) : Type 0 where
  pub sets_room : SetsFit g first follow
  pub table_room : size g ≤ length table

-- the stack and the list have the room that the string needs
pub record RunRoom {g : Grammar} {cell : ℕ → Column → Option ℕ} {w : List ℕ} (need : RoomNeeded g cell w)
    (stack list : List ℕ) : Type 0 where
  pub stack_room : (final need.outcome).height ≤ counted stack
  pub list_room : length (final need.outcome).listed ≤ counted list

-- demand 2, sets and table: no member missing, none added; a conflict exactly if two productions claim one cell
pub record BuildMeets2 (book first follow table : List ℕ) (r : Built) : Type 0 where
  pub conflict_iff : {g : Grammar}
      → Serves book g
      → BuildRoom g first follow table
      → (r.answer.number ≡ conflict) ↔ Conflict g
  pub done_iff : {g : Grammar}
      → Serves book g
      → BuildRoom g first follow table
      → (r.answer.number ≡ 0) ↔ (¬ Conflict g)
  pub first_sets : {g : Grammar}
      → Serves book g
      → r.answer.number ≡ 0
      → FirstSets g (take g.nonterminals r.first)
  pub follow_sets : {g : Grammar}
      → Serves book g
      → r.answer.number ≡ 0
      → FollowSets g (take g.nonterminals r.follow)
  pub cells : {g : Grammar} → Serves book g → r.answer.number ≡ 0 → TableOf g (take (size g) r.table)

-- demand 2, lists: given room and at most 65,535 productions, a complete list expands to the string it derives
pub record ExpandMeets2 (book ps stack output : List ℕ) (r : Expanded) : Type 0 where
  pub expands : {g : Grammar} {w : List ℕ}
      → Serves book g
      → (d : Complete g ps w)
      → length ps ≤ longest_list
      → peak d ≤ counted stack
      → length w ≤ counted output
      → (r.answer.number ≡ 0) × (r.output ≡ over w output)

-- and under demand 3's premises and with room, that string runs back to the list
pub record RunMeets2 (book table w stack list : List ℕ) (r : Ran) : Type 0 where
  pub back : {ps : List ℕ} (h : Premises book table w) (d : Complete h.built.grammar ps w)
      → length ps ≤ counted list
      → peak d ≤ counted stack
      → (r.answer.number ≡ 0) × (r.list ≡ over ps list)

-- demand 3
pub record RunMeets3 (book table tokens stack list : List ℕ) (r : Ran) : Type 0 where
  -- the run accepts only a string that the start symbol derives; the list it gives is the leftmost derivation
  pub accepts : (h : Premises book table tokens)
      → r.answer.number ≡ 0
      → (ps : List ℕ) × Complete h.built.grammar ps tokens × (r.list ≡ over ps list)
  -- and there is no second one
  pub only_one : (h : Premises book table tokens) {ps qs : List ℕ}
      → Complete h.built.grammar ps tokens
      → Complete h.built.grammar qs tokens
      → ps ≡ qs
  -- a derivable string is refused only for room
  pub served_or_room : (h : Premises book table tokens) {ps : List ℕ}
      → Complete h.built.grammar ps tokens
      → (r.answer.number ≡ 0) ⊎ (r.answer.number ≡ room)
  -- exactly if its derivation has more productions than the list has cells, or the start or a step needs more stack
  -- than was lent
  pub room_iff : (h : Premises book table tokens) {ps : List ℕ} (d : Complete h.built.grammar ps tokens)
      → (r.answer.number ≡ room) ↔ ((counted list < length ps) ⊎ (counted stack < peak d))
  -- with the room that it needs any string is accepted or refused for syntax, so that one which is not derivable is
  -- refused with 11
  pub decided :
      (h : Premises book table tokens)
      (need : RoomNeeded h.built.grammar (cell_of h.built.grammar table) tokens)
      → RunRoom need stack list
      → (r.answer.number ≡ 0) ⊎ (r.answer.number ≡ syntax)
  -- where syntax is the reason, the place is the length of the longest beginning that some derivable string shares
  pub place : (h : Premises book table tokens)
      → r.answer.number ≡ syntax
      → Longest h.built.grammar tokens r.answer.place

-- steps = productions listed + tokens matched, as the definition's machine counts them, and the list holds those
-- productions; 0 in an answer before steps
pub record RunStepsAdd (book table tokens stack list : List ℕ) (r : Ran) : Type 0 where
  pub sum : {g : Grammar}
      → Serves book g
      → Admits g table tokens stack
      → r.answer.steps
      ≡ length (final (ran g table tokens stack list)).listed + (final (ran g table tokens stack list)).matched
  pub listed : {g : Grammar}
      → Serves book g
      → Admits g table tokens stack
      → r.list ≡ over (final (ran g table tokens stack list)).listed list
  pub none : ((g : Grammar) → Serves book g → ¬ Admits g table tokens stack) → r.answer.steps ≡ 0

-- what an expansion comes to with these buffers
abbrev pub expanded : Grammar → (list stack output : List ℕ) → Expansion
expanded g list stack output = expansion g (counted stack) (counted output) list

-- steps = productions used + tokens written, as the definition counts them, and the output holds those tokens; 0 in an
-- answer before steps
pub record ExpandStepsAdd (book list stack output : List ℕ) (r : Expanded) : Type 0 where
  pub sum : {g : Grammar}
      → Serves book g
      → length list ≤ longest_list
      → 1 ≤ length stack
      → r.answer.steps
      ≡ (expanded g list stack output).progress.used + length (expanded g list stack output).progress.written
  pub written : {g : Grammar}
      → Serves book g
      → length list ≤ longest_list
      → 1 ≤ length stack
      → r.output ≡ over (expanded g list stack output).progress.written output
  pub none : ((g : Grammar) → Serves book g → length list ≤ longest_list → 1 ≤ length stack → ⊥) → r.answer.steps ≡ 0
