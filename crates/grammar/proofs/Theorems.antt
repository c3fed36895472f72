-- What LL(1) promises, one page: each theorem under the sentence that it proves.
use mathlib.Core.Path.{◌≡◌, refl}
use mathlib.Core.Bool.{cond}
use mathlib.Core.Logic.{◌↔◌, ◌⊎◌, ◌≢◌}
use mathlib.Core.List.{List, [], ◌∷◌, ◌++◌}
use mathlib.Core.Option.{Option}
use Prim.Native.Nat.{ℕ, ◌<◌, ◌+◌, min}
use lib.Dec.{ltb}
use lib.ListN.{length, take}
use Rattle.grammar.specs.declared.Symbol.TheVariants.{Token, Nonterminal}
use Rattle.grammar.specs.Grammar.{Form, spelled, Grammar, Column, token, Derives, itself, Derivable}
use Rattle.grammar.specs.Grammar.{LeftmostSteps, Rule, Claims}
use Rattle.grammar.specs.Grammar.{Member, column, empty, First, Leftmost, Complete, Conflict, WellFormed, Useful}
use Rattle.grammar.specs.Machine.{front, Exact, Run, Accepts, Stopped, Halted, Longest, Continues}
use Rattle.grammar.specs.Vanishing.{Vanishes}
use Rattle.grammar.specs.Plain.{Breaks, Plain, LowestBreak}
use Rattle.grammar.specs.Next.{merged, ConsumesAll, Seen}
use Rattle.grammar.proofs.Leftmost.{leftmost_steps, steps_leftmost, derives_leftmost, leftmost_derives}
use Rattle.grammar.proofs.Append as append
use Rattle.grammar.proofs.Vanishing as vanishing
use Rattle.grammar.proofs.Plain as profile
use Rattle.grammar.proofs.Unique.{unique_from}
use Rattle.grammar.proofs.Useful.{useful_all}
use Rattle.grammar.proofs.Machine.{run_from, run_leftmost, blocked}
use Rattle.grammar.proofs.Place.{longest_read}
use Rattle.grammar.proofs.Halting.{halts_from}
use Rattle.grammar.proofs.Next.{next_first}
use Rattle.grammar.proofs.Next as next
-- a list derives one string only
pub use Rattle.grammar.proofs.Leftmost.{list_string}
-- FIRST, FOLLOW and lookahead: what is sound and closed is exact, and each single addition is sound
pub use Rattle.grammar.proofs.Sets.{first_exact, follow_exact, lookahead_exact, claims_exact, first_addition}
pub use Rattle.grammar.proofs.Sets.{follow_addition}
-- FIRST never holds the end mark, FOLLOW and a lookahead never the empty string
pub use Rattle.grammar.proofs.Sets.{first_not_end, follow_not_empty, lookahead_not_empty}
-- productive and useful: the same; a start that derives nothing makes every nonterminal useless, and so is one without
-- productions
pub use Rattle.grammar.proofs.Useful.{productive_exact, productive_addition, useful_exact, useful_addition}
pub use Rattle.grammar.proofs.Useful.{useful_start, start_useful, useful_productive, useful_reachable}
pub use Rattle.grammar.proofs.Useful.{without_productions}
-- cells are exact without conflict, and exact cells leave no conflict
pub use Rattle.grammar.proofs.Machine.{cells_exact, exact_no_conflict}
-- where no right side is empty, what a form derives is not shorter than it, and the end mark's cells are vacant
pub use Rattle.grammar.proofs.Chains.{derives_longer, end_vacant}
-- and each filled cell of a token leads to it, by productions of one number, at most that of the nonterminals
pub use Rattle.grammar.proofs.Chains.{leads_all, leads_same, leads_few}
-- in a plain grammar a cell holds the production of its row that starts with its token, the end mark's cells are
-- vacant, no right side is empty, and a nonterminal leads to a token by one production
pub use Rattle.grammar.proofs.Plain.{plain_cell, plain_vacant, plain_end, plain_filled, plain_leads}
pub use Rattle.grammar.proofs.Plain.{plain_leads_one}
-- in a plain grammar what a stack can go on with is what its top asks for, and where the machine stops nothing was
-- used since the last match
pub use Rattle.grammar.proofs.PlainNext.{plain_can_come, plain_none_since}
-- after what begins a derivable string something can come, and what a stack goes on with is FIRST of it
pub use Rattle.grammar.proofs.Next.{next_some, can_come_first, can_come_past, can_come_since, can_come_next}
-- what stands right after a match does not hang on what comes
pub use Rattle.grammar.proofs.Next.{consumes_run, consumes_derives}
-- the place of a syntax stop is determined
pub use Rattle.grammar.proofs.Place.{place_determined}
-- numbers of leading symbols that can vanish, worked out of the definitions
pub use Rattle.grammar.proofs.Leading.{leading_numbers}

module _ {g : Grammar} where
  -- a leftmost derivation with its list is the textbook's chain of leftmost steps
  pub leftmost_chain : {α : Form} {ps : List ℕ} (w : List ℕ) → Leftmost g α ps w ↔ LeftmostSteps g α ps (spelled w)
  leftmost_chain w = (λ d. leftmost_steps d, λ s. steps_leftmost w s)

  -- what derives a token string has a leftmost derivation of it, and conversely
  pub derives_complete : {α : Form} (w : List ℕ) → Derives g α (spelled w) ↔ ((ps : List ℕ) × Leftmost g α ps w)
  derives_complete w = (λ d. derives_leftmost w d, λ l. leftmost_derives l.1)

  -- no conflict: one string, one list
  pub leftmost_unique : ¬ Conflict g → {ps qs w : List ℕ} → Complete g ps w → Complete g qs w → ps ≡ qs
  leftmost_unique n d e = unique_from n [] itself d e

  -- FIRST of two forms put together is FIRST of the first without the empty string and, if the first can vanish, FIRST
  -- of the second
  pub first_append : (α β : Form) (m : Member)
      → First g (α ++ β) m ↔ ((First g α m × (m ≢ empty)) ⊎ (First g α empty × First g β m))
  first_append = append.first_append

  -- a grammar is plain exactly if no production breaks the profile
  pub plain_iff : Plain g ↔ ((p : ℕ) → ¬ Breaks g p)
  plain_iff = profile.plain_iff

  -- the lowest production that breaks it is determined
  pub lowest_break_unique : {p q : ℕ} → LowestBreak g p → LowestBreak g q → p ≡ q
  lowest_break_unique = profile.lowest_break_unique

  -- in a plain grammar a production claims the cell of the token that its right side starts with, and no other
  pub plain_claims : Plain g
      → {A p : ℕ} {c : Column}
      → Claims g A c p ↔ ((t : ℕ) × (γ : Form) × Rule g p A (Token t ∷ γ) × (c ≡ token t))
  plain_claims = profile.plain_claims

  -- so a plain grammar has no conflict
  pub plain_no_conflict : Plain g → ¬ Conflict g
  plain_no_conflict = profile.plain_no_conflict

  -- how many leading symbols can vanish is determined
  pub vanishes_unique : {α : Form} {n m : ℕ} → Vanishes g α n → Vanishes g α m → n ≡ m
  vanishes_unique {α} {n} {m} = vanishing.vanishes_unique α n m

  -- it is the length exactly if the form can vanish, so that FOLLOW is added to a lookahead
  pub vanishes_whole : {α : Form} {n : ℕ} → Vanishes g α n → First g α empty ↔ (n ≡ length α)
  vanishes_whole = vanishing.vanishes_whole

  -- of two forms put together: that of the first, with that of the second added where all of the first can vanish
  pub vanishes_append : (α β : Form) {n m : ℕ}
      → Vanishes g α n
      → Vanishes g β m
      → Vanishes g (α ++ β) (cond (ltb n (length α)) n (n + m))
  vanishes_append α β {n} {m} = vanishing.vanishes_append α β n m

  -- of the beginning of a form: as many, but no more than it has symbols
  pub vanishes_beginning : (k : ℕ) (α : Form) {n : ℕ} → Vanishes g α n → Vanishes g (take k α) (min n k)
  vanishes_beginning k α {n} = vanishing.vanishes_beginning k α n

  module _ {cell : ℕ → Column → Option ℕ} (exact : Exact g cell) where
    -- the machine accepts w with the list ps exactly if ps is the leftmost derivation of w
    pub accepts_exactly : {w ps : List ℕ} → Accepts g cell w ps ↔ Complete g ps w
    accepts_exactly = (λ r. run_leftmost r, λ d. run_from exact [] itself d)

    -- it accepts or stops on every string
    pub halts : (w : List ℕ) → Halted g cell (Nonterminal g.start ∷ []) w
    halts w = halts_from exact w [] (Nonterminal g.start ∷ []) itself

    module _ {z : List ℕ} {β : Form} {u ps : List ℕ} (run : Run g cell z (Nonterminal g.start ∷ []) u ps β)
        (stop : Stopped g cell β z) where
      -- a string on which it stops is not derivable
      pub stopped_not_derivable : ¬ Derivable g (u ++ z)
      stopped_not_derivable d = blocked exact run stop z refl d

      -- where it stops, what it has read is the longest beginning that some derivable string shares
      pub viable_prefix : WellFormed g → ((A : ℕ) → A < g.nonterminals → Useful g A) → Longest g (u ++ z) (length u)
      viable_prefix well useful = longest_read (useful_all well useful) exact run stop

      -- and the column on which it stops cannot come after that
      pub stopped_not_next : ¬ Continues g u (column (front z))
      stopped_not_next = next.stopped_not_next exact run stop

    module _ (well : WellFormed g) (useful : (A : ℕ) → A < g.nonterminals → Useful g A)
        {u ps : List ℕ} {σ : Form} (taken : ConsumesAll g cell (Nonterminal g.start ∷ []) u ps σ) where
      -- where u is matched and σ is the stack right after: what can come after u is FIRST of σ, and the end mark if σ
      -- can vanish
      pub next_exact : (c : Column) → First g σ (merged c) ↔ Continues g u (column c)
      next_exact = next_first exact taken (useful_all well useful)

      -- and where the machine then stops: FIRST of the left sides listed since without the empty string, and FIRST of
      -- the stack at the stop, with the end mark if that can vanish
      pub next_at_stop : {z qs : List ℕ} {β : Form}
          → Run g cell z σ [] qs β
          → Stopped g cell β z
          → (c : Column)
          → Continues g u (column c) ↔ (Seen g qs c ⊎ First g β (merged c))
      next_at_stop run stop c = next.next_at_stop_first exact (useful_all well useful) taken run stop c
