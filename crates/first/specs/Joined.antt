-- FIRST of two symbol strings put together, as three calls answer it. Document 02, W9.
use Rattle.std.specs.Prelude.{◌≡◌, Result, IsOkAnd}
use Rattle.sets.specs.Sets.{empty_string, joined}
use Rattle.sets.specs.Calls.{number}
use Rattle.answers.specs.declared.Answer.{Answer}
use Rattle.first.specs.declared.forms.Trail.{Trail}

-- the call for the whole tells the join of the sets of r and s, of its two parts
abbrev pub FirstJoined : (r s : Trail) → Result Trail Answer → Type 0
FirstJoined r s whole = IsOkAnd whole (λ t. number t.set ≡ joined empty_string (number r.set) (number s.set))
