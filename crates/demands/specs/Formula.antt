-- Room by formula, of one call: what a run lists and holds where no right side of the book is empty, and how much room
-- is always enough.
-- Request W11.
use Rattle.std.specs.Prelude.{◌≡◌, ◌⊎◌, List, ℕ, ◌+◌, ◌≤◌, length, drop}
use Rattle.grammar.specs.Filled.{NoEmptyRight}
use Rattle.answers.specs.Buffers.{counted}
use Rattle.answers.specs.Refusals.{syntax}
use Rattle.machine.specs.Machine.{final}
use Rattle.machine.specs.Room.{list_cells, stack_cells}
use Rattle.offer.specs.Strings.{ran}
use Rattle.demands.specs.Demands.{Ran, Premises}

-- what a run of n tokens, derivable or not, keeps within, on a table built without conflict from a book in which no
-- right side is empty
pub record RunWithinFormula (book table tokens stack list : List ℕ) (r : Ran) : Type 0 where
  -- however it ends and with whatever room, it lists at most N × n productions, and makes at most as many steps as
  -- those and the tokens matched
  pub listed : (h : Premises book table tokens)
      → NoEmptyRight h.built.grammar
      → (length (final (ran h.built.grammar table tokens stack list)).listed
      ≤ list_cells h.built.grammar (length tokens))
      × (r.answer.steps
      ≤ list_cells h.built.grammar (length tokens)
      + (final (ran h.built.grammar table tokens stack list)).matched)
  -- so no list cell behind the first N × n is changed
  pub kept : (h : Premises book table tokens)
      → NoEmptyRight h.built.grammar
      → drop (list_cells h.built.grammar (length tokens)) r.list
      ≡ drop (list_cells h.built.grammar (length tokens)) list
  -- it holds at most 1 + 15 × N × n stack cells at any moment, and so much tells the answer's depth
  pub held : (h : Premises book table tokens)
      → NoEmptyRight h.built.grammar
      → ((final (ran h.built.grammar table tokens stack list)).height
      ≤ stack_cells h.built.grammar (length tokens))
      × (r.answer.depth ≤ stack_cells h.built.grammar (length tokens))
  -- so where that much is lent, and neither number is above the 65,535 cells that count, the answer is 0 or 11, and
  -- never 7
  pub never_room : (h : Premises book table tokens)
      → NoEmptyRight h.built.grammar
      → list_cells h.built.grammar (length tokens) ≤ counted list
      → stack_cells h.built.grammar (length tokens) ≤ counted stack
      → (r.answer.number ≡ 0) ⊎ (r.answer.number ≡ syntax)
