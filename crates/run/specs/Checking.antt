-- What is checked before steps: the table, the number of tokens, the tokens, a stack cell.
-- Document 01, "Refusals and their numbers". Only contracts inside the crate cite what stands here.
use Rattle.std.specs.Prelude.{List, ◌≡◌, ℕ, length, ⊤, Result}
use Rattle.grammar.specs.Grammar.{Grammar}
use Rattle.answers.specs.Checks.{Tested}
use Rattle.answers.specs.declared.Answer.{Answer}
use Rattle.run.specs.Running.{Barred, Admits}

-- barred with the refusal, or admitted
abbrev pub RunChecked : (g : Grammar) (table tokens stack : List ℕ) → Result ⊤ Answer → Type 0
RunChecked g table tokens stack = Tested (Barred g table tokens stack) (Admits g table tokens stack)

-- whatever the stack, if it has so many cells
pub record CheckedWith (g : Grammar) (table tokens : List ℕ) (cells : ℕ) (r : Result ⊤ Answer) : Type 0 where
  pub checked : (stack : List ℕ) → length stack ≡ cells → RunChecked g table tokens stack r
