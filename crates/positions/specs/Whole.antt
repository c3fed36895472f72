-- What reading one pattern whole comes to: a meaning with its positions, or the place where the text is bad.
-- Working definitions, which no public contract of a crate above cites.
use Rattle.std.specs.Prelude.{◌≡◌, false, List, ℕ, ◌≤◌, Result, MatchResult}
use Rattle.pattern.specs.Pattern.{Expression}
use Rattle.pattern.specs.Written.{IsPattern, BadAt}
use Rattle.pattern.specs.Positions.{Null}
use Rattle.parts.specs.declared.Part.{Part}
use Rattle.parts.specs.Parts.{Told, Tabled}

-- the part is a whole text, and not empty
pub record WholePart (total : ℕ) (part : Part) : Type 0 where
  pub ended : total ≤ part.at
  pub not_empty : part.empty ≡ false

-- a good pattern with its meaning, which is read behind n positions
pub record PatternMeant (text : List ℕ) (n : ℕ) (readers follow : List ℕ)
    (p : Part) (readers_after follow_after : List ℕ) : Type 0 where
  pub meaning : Expression
  pub pattern : IsPattern text meaning
  pub not_null : ¬ Null meaning
  pub told : Told n meaning p
  pub tabled : Tabled n meaning readers follow readers_after follow_after

-- it is good, or bad at its place
abbrev pub PatternRead : List ℕ → ℕ → List ℕ → List ℕ → Result Part ℕ → List ℕ → List ℕ → Type 0
PatternRead text n readers follow r readers_after follow_after =
    MatchResult r (λ p. PatternMeant text n readers follow p readers_after follow_after) (BadAt text)
