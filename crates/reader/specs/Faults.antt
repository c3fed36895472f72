-- The refusals 2 to 5 of a book, each for a byte that stands there, and where a refusal's place can lie.
-- Document 01, "Refusals and their numbers": 1 is a byte that is missing.
use Rattle.std.specs.Prelude.{◌≡◌, ◌≢◌, ◌⊎◌, List, ℕ, ◌≤◌, ◌<◌, length}
use Rattle.answers.specs.declared.refusals.Refusal.{Refusal}
use Rattle.answers.specs.declared.refusals.Refusal.TheVariants as refusals

-- the refusals for a byte that stands there
pub data BadByte : Refusal → Type 0 where
  bad_mark : BadByte refusals.Mark
  extra_byte : BadByte refusals.Extra
  over_limit : BadByte refusals.Limit
  not_a_symbol : BadByte refusals.Symbol

-- a refusal and its place: the place lies in the book, or at its end for a missing byte
pub record RefusedAt (b : List ℕ) (why : Refusal) (k : ℕ) : Type 0 where
  pub kind : (why ≡ refusals.Short) ⊎ BadByte why
  pub within : k ≤ length b
  pub inside : why ≢ refusals.Short → k < length b
