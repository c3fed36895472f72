-- What working out FIRST does to a family of sets: one production, then each once in order; and what it comes to.
-- Document 01, "Sets and table". Only contracts of functions that work out sets cite what stands here.
use Rattle.std.specs.Prelude.{◌≡◌, Bool, List, ℕ, zero, suc, length, get_or, replicate}
use Rattle.grammar.specs.Grammar.{Grammar}
use Rattle.sets.specs.Sets.{empty_string, only, united}
use Rattle.sets.specs.Calls.{Decides, set_at, stored}
use Rattle.answers.specs.Limits.{most_nonterminals}
use Rattle.reader.specs.Fields.{left_at, right_at}
use Rattle.first.specs.Numbers.{FirstFamily}
use Rattle.first.specs.Trail.{trail}
use Rattle.first.specs.Forms.{Lists}

-- a step is made on a family of sets, and settled says whether it changed nothing
pub record Made (step : List ℕ → List ℕ) (before after : List ℕ) (settled : Bool) : Type 0 where
  pub made : after ≡ step before
  pub same : Decides settled (after ≡ before)

-- set number n united with x
abbrev pub united_at : List ℕ → ℕ → ℕ → List ℕ
united_at cells n x = stored cells n (united (set_at cells n) x)

-- the right side of the record at a place adds to FIRST of its left side
unfoldable pub first_step : List ℕ → ℕ → List ℕ → List ℕ
first_step book place fs = united_at fs (left_at book place) (trail fs (only empty_string) (right_at book place))

-- the steps below n, one after the other
unfoldable pub passed : (ℕ → List ℕ → List ℕ) → ℕ → List ℕ → List ℕ
passed step zero cells = cells
passed step (suc n) cells = step n (passed step n cells)

module _ (book places : List ℕ) where
  abbrev pub first_steps : ℕ → List ℕ → List ℕ
  first_steps p = first_step book (get_or places p 0)

  -- FIRST of each nonterminal of the grammar that the index lists; without a record no member
  pub record FirstFound (count : ℕ) (cells : List ℕ) : Type 0 where
    pub sized : length cells ≡ most_nonterminals
    pub none : count ≡ 0 → cells ≡ replicate most_nonterminals 0
    pub found : (g : Grammar) → Lists book places count g → FirstFamily g cells
