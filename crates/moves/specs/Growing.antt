-- A set that grows word by word of the positions that lead to it. Working definitions, which no public contract cites.
use Rattle.std.specs.Prelude.{◌≡◌, true, ◌⊎◌, List, ℕ, ◌-◌, ◌≤◌, length}
use Rattle.sets.specs.Sets.{member}
use Rattle.sets.specs.Words.{AreWords}
use Rattle.answers.specs.Limits.{point_words}
use Rattle.moves.specs.Tables.{follow_of, set_of}

-- five words
pub record Five (words : List ℕ) : Type 0 where
  pub long : length words ≡ point_words
  pub fit : AreWords words

-- the set that they are has the members that it had, and the places of which P holds
pub record Grown (before after : List ℕ) (P : ℕ → Type 0) : Type 0 where
  pub five : Five after
  pub kept : (q : ℕ) → member q (set_of before 0) ≡ true → member q (set_of after 0) ≡ true
  pub new : (q : ℕ) → P q → member q (set_of after 0) ≡ true
  pub because : (q : ℕ) → member q (set_of after 0) ≡ true → (member q (set_of before 0) ≡ true) ⊎ P q

-- q can come after one of the positions that a word has, numbered from `base` on
pub record WordLeads (base word : ℕ) (follow : List ℕ) (q : ℕ) : Type 0 where
  pub position : ℕ
  pub low : base ≤ position
  pub there : member (position - base) word ≡ true
  pub leads : member q (follow_of follow position) ≡ true
