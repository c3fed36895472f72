-- Demand 3 of bottom-up runs, of one call: by what it was lent, and by what it leaves, whoever made the call.
-- Document 02, W12: "the run accepts exactly the derivable strings, room allowing as in demand 3".
use Rattle.std.specs.Prelude.{◌≡◌, ◌↔◌, ◌⊎◌, List, ℕ, ◌+◌, ◌<◌, ◌≤◌, length, get_or}
use Rattle.grammar.specs.Grammar.{Grammar}
use Rattle.answers.specs.declared.Answer.{Answer}
use Rattle.answers.specs.Refusals.{room}
use Rattle.answers.specs.Buffers.{over, counted}
use Rattle.answers.specs.Limits.{longest_string}
use Rattle.book.specs.Judging.{Serves}
use Rattle.slr.specs.Rightmost.{Reduces, states_held}
use Rattle.slr.specs.Ends.{slr_final}
use Rattle.slr.specs.Built.{SlrBuilt}
use Rattle.slr_run.specs.Running.{slr_ran, SlrAdmits, SlrRunOutcome}

-- what a bottom-up run leaves: the answer, the stack, the list
pub record SlrLeaves : Type 0 where
  pub answer : Answer
  pub stack : List ℕ
  pub list : List ℕ

-- the promise of a call allows what it leaves
abbrev pub MaySlrRun : (book table tokens stack list : List ℕ) → SlrLeaves → Type 0
MaySlrRun book table tokens stack list r =
    SlrRunOutcome book table tokens stack list r.answer r.stack r.list

-- a table built without conflict, and a string of at most 4,096 of its tokens
pub record SlrPremises (book table tokens : List ℕ) : Type 0 where
  pub built : SlrBuilt book table
  pub short : length tokens ≤ longest_string
  pub known : (i : ℕ) → i < length tokens → get_or tokens i 0 < built.grammar.tokens

-- demand 3
pub record SlrMeets3 (book table tokens stack list : List ℕ) (r : SlrLeaves) : Type 0 where
  -- the run accepts only a string that the start symbol derives; the list it gives, read backwards, is the rightmost
  -- derivation
  pub accepts : (h : SlrPremises book table tokens)
      → r.answer.number ≡ 0
      → (ps : List ℕ) × Reduces h.built.grammar ps tokens × (r.list ≡ over ps list)
  -- and there is no second one
  pub only_one : (h : SlrPremises book table tokens) {ps qs : List ℕ}
      → Reduces h.built.grammar ps tokens
      → Reduces h.built.grammar qs tokens
      → ps ≡ qs
  -- a derivable string is refused only for room
  pub served_or_room : (h : SlrPremises book table tokens) {ps : List ℕ}
      → Reduces h.built.grammar ps tokens
      → (r.answer.number ≡ 0) ⊎ (r.answer.number ≡ room)
  -- exactly if its derivation has more productions than the list has cells, or holds more states than the stack has
  pub room_iff : (h : SlrPremises book table tokens) {ps : List ℕ} (d : Reduces h.built.grammar ps tokens)
      → (r.answer.number ≡ room) ↔ ((counted list < length ps) ⊎ (counted stack < states_held 1 d))

-- steps = productions listed + tokens matched, as the definition's machine counts them, and the list holds those
-- productions; 0 in an answer before steps
pub record SlrStepsAdd (book table tokens stack list : List ℕ) (r : SlrLeaves) : Type 0 where
  pub sum : {g : Grammar}
      → Serves book g
      → SlrAdmits g table tokens stack
      → r.answer.steps
      ≡ length (slr_final (slr_ran g table tokens stack list)).listed
      + (slr_final (slr_ran g table tokens stack list)).matched
  pub listed : {g : Grammar}
      → Serves book g
      → SlrAdmits g table tokens stack
      → r.list ≡ over (slr_final (slr_ran g table tokens stack list)).listed list
  pub none : ((g : Grammar) → Serves book g → ¬ SlrAdmits g table tokens stack) → r.answer.steps ≡ 0

-- the depth is the most states held, state 0 counted: 1 at least where steps begin, and never more than the cells that
-- count; 0 in an answer before steps
pub record SlrDepth (book table tokens stack list : List ℕ) (r : SlrLeaves) : Type 0 where
  pub held : {g : Grammar}
      → Serves book g
      → SlrAdmits g table tokens stack
      → r.answer.depth ≡ (slr_final (slr_ran g table tokens stack list)).height
  pub within : {g : Grammar}
      → Serves book g
      → SlrAdmits g table tokens stack
      → (1 ≤ r.answer.depth) × (r.answer.depth ≤ counted stack)
  pub none : ((g : Grammar) → Serves book g → ¬ SlrAdmits g table tokens stack) → r.answer.depth ≡ 0
