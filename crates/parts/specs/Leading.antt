-- Leading on: to each position of a set the points of another are added. Working definitions.
use Rattle.std.specs.Prelude.{◌≡◌, true, List, ℕ, ◌-◌, ◌≤◌}
use Rattle.sets.specs.Sets.{member}
use Rattle.points.specs.Points.{points_at}
use Rattle.answers.specs.Limits.{point_words}
use Rattle.parts.specs.Rows.{Rows}
use Rattle.parts.specs.Parts.{positions_in}

-- each position of `last` leads to each point of `next`
pub record Leads (last next p q : ℕ) : Type 0 where
  pub from : member p last ≡ true
  pub to : member q next ≡ true

-- the set of points that five words are
abbrev pub points_in : List ℕ → ℕ
points_in words = points_at words 0 point_words

-- the same of the positions of a word, numbered from `base` on
pub record LeadsWord (base word next p q : ℕ) : Type 0 where
  pub low : base ≤ p
  pub from : member (p - base) word ≡ true
  pub to : member q next ≡ true

abbrev pub LedWord : ℕ → ℕ → List ℕ → List ℕ → List ℕ → Type 0
LedWord base word next follow after = Rows point_words follow after (LeadsWord base word (points_in next))

abbrev pub Led : List ℕ → List ℕ → List ℕ → List ℕ → Type 0
Led last next follow after = Rows point_words follow after (Leads (positions_in last) (points_in next))
