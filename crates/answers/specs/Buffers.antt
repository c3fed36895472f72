-- What a call may use of a lent buffer, and what it leaves in it.
-- Document 01, "Refusals and their numbers" and "Running and expanding".
use Rattle.std.specs.Prelude.{List, ◌++◌, ℕ, min, length, take, drop, replicate}
use Rattle.answers.specs.Limits.{most_cells}

-- of a lent stack, list or output at most 65,535 cells count
abbrev pub counted : List ℕ → ℕ
counted buffer = min (length buffer) most_cells

-- written from the front, and what stood beyond stays
abbrev pub over : {A : Type 0} → List A → List A → List A
over cells buffer = cells ++ drop (length cells) buffer

-- and of the cells only as many as there is room for
abbrev pub written : {A : Type 0} → List A → List A → List A
written cells buffer = over (take (length buffer) cells) buffer

-- every cell is 0
abbrev pub cleared : List ℕ → List ℕ
cleared buffer = replicate (length buffer) 0
