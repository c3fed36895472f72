-- What reading one byte of a pattern finds, plain or behind a backslash, and where it ends. Working definitions.
use Rattle.std.specs.Prelude.{◌≡◌, true, false, List, ℕ, suc, ◌≤◌, ◌<◌, length, get_or, Result, Ok, Err}
use Rattle.pattern.specs.Marks.{backslash, among}
use Rattle.parts.specs.declared.letters.Letter.{Letter}

-- the byte that is read and the place behind it, or the place refused
pub data LetterRead (text : List ℕ) (at : ℕ) (marks : List ℕ) : Result Letter ℕ → Type 0 where
  letter_plain : at < length text
      → among (get_or text at 0) marks ≡ false
      → LetterRead text at marks (Ok (record { at = suc at; byte = get_or text at 0 }))
  letter_escaped : get_or text at 0 ≡ backslash
      → suc at < length text
      → LetterRead text at marks (Ok (record { at = suc (suc at); byte = get_or text (suc at) 0 }))
  letter_mark : at < length text
      → among (get_or text at 0) marks ≡ true
      → ¬ (get_or text at 0 ≡ backslash)
      → LetterRead text at marks (Err at)
  letter_missing : length text ≤ at → LetterRead text at marks (Err at)
  letter_cut_off : get_or text at 0 ≡ backslash
      → length text ≤ suc at
      → LetterRead text at marks (Err (suc at))
