-- Runs of bytes that have the same readers. Working definitions, which no public contract cites.
use Rattle.std.specs.Prelude.{◌≡◌, List, ℕ, ◌≤◌, ◌<◌, length, get_or}
use Rattle.answers.specs.Limits.{byte_values}
use Rattle.moves.specs.Tables.{readers_of}

-- the bytes from b up to e have the same readers
pub record RunEnd (readers : List ℕ) (b e : ℕ) : Type 0 where
  pub above : b < e
  pub within : e ≤ byte_values
  pub same : (c : ℕ) → b ≤ c → c < e → readers_of readers c ≡ readers_of readers b

-- of each byte from n on it is known up to where that is so
pub record Runs (readers : List ℕ) (n : ℕ) (ends : List ℕ) : Type 0 where
  pub long : length ends ≡ byte_values
  pub run : (b : ℕ) → n ≤ b → b < byte_values → RunEnd readers b (get_or ends b 0)
