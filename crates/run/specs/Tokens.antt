-- What is checked of a token string, whatever book of T tokens it is run on.
-- Document 01, "Refusals and their numbers".
use Rattle.std.specs.Prelude.{List, ℕ, ◌<◌, ◌≤◌, length, get_or, ⊤, Result}
use Rattle.answers.specs.declared.Answer.{Answer}
use Rattle.answers.specs.Answers.{refusal}
use Rattle.answers.specs.Checks.{Tested}
use Rattle.answers.specs.Limits.{longest_string}
use Rattle.answers.specs.Lowest.{Lowest}
use Rattle.answers.specs.Refusals.{limit, token}
use Rattle.run.specs.Running.{Strange}

-- it is refused for its length, or for the first token that is T or above
pub data BarredTokens (T : ℕ) (tokens : List ℕ) : Answer → Type 0 where
  too_long : longest_string < length tokens → BarredTokens T tokens (refusal limit longest_string 0)
  strange : {i : ℕ}
      → length tokens ≤ longest_string
      → i < length tokens
      → Lowest (Strange T tokens) (length tokens) i
      → BarredTokens T tokens (refusal token i 0)

-- it is short enough, and each token is below T
pub record KnownTokens (T : ℕ) (tokens : List ℕ) : Type 0 where
  pub short : length tokens ≤ longest_string
  pub known : (i : ℕ) → i < length tokens → get_or tokens i 0 < T

-- barred with the refusal, or all known
abbrev pub TokensChecked : (T : ℕ) (tokens : List ℕ) → Result ⊤ Answer → Type 0
TokensChecked T tokens = Tested (BarredTokens T tokens) (KnownTokens T tokens)
