-- The check of a symbol string, with the refusal that it gives. Document 01, "Refusals and their numbers": 4 and 5.
-- Only contracts inside the crate cite what stands here.
use Rattle.std.specs.Prelude.{List, ℕ, ◌≤◌, ◌<◌, length, get_or, Option, Result, ⊤}
use Rattle.answers.specs.declared.Answer.{Answer}
use Rattle.answers.specs.Answers.{refusal}
use Rattle.answers.specs.Refusals as refusals
use Rattle.answers.specs.Limits.{most_symbols}
use Rattle.answers.specs.Lowest.{LowestAt, LowestIn}
use Rattle.answers.specs.Checks.{Tested}
use Rattle.reader.specs.Book.{IsSymbol}

-- byte i is no symbol
abbrev pub IsStrange : (T N : ℕ) → List ℕ → ℕ → Type 0
IsStrange T N symbols i = ¬ IsSymbol T N (get_or symbols i 0)

-- the first byte that is no symbol
abbrev pub Stranger : (T N : ℕ) → List ℕ → Option ℕ → Type 0
Stranger T N symbols = LowestIn (IsStrange T N symbols) (length symbols)

-- the refusal of a symbol string
pub data Unspelled (T N : ℕ) (symbols : List ℕ) : Answer → Type 0 where
  too_long : most_symbols < length symbols
      → Unspelled T N symbols (refusal refusals.limit most_symbols 0)
  strange : {i : ℕ}
      → length symbols ≤ most_symbols
      → LowestAt (IsStrange T N symbols) (length symbols) i
      → Unspelled T N symbols (refusal refusals.symbol i 0)

-- a symbol string of at most 16 symbols of the grammar
pub record SymbolString (T N : ℕ) (symbols : List ℕ) : Type 0 where
  pub short : length symbols ≤ most_symbols
  pub symbol : (i : ℕ) → i < length symbols → IsSymbol T N (get_or symbols i 0)

abbrev pub Spelled : (T N : ℕ) → List ℕ → Result ⊤ Answer → Type 0
Spelled T N symbols = Tested (Unspelled T N symbols) (SymbolString T N symbols)
