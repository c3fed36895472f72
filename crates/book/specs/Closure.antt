-- What follows from a set under rules on sets: where all members of a rule's `ins` are reached, all of its `outs` are.
-- Refusal 6 of document 01 is decided by two such closures; only contracts inside the crate cite them.
use Rattle.std.specs.Prelude.{◌≡◌, true, ◌⊎◌, List, ℕ, ◌^◌, ◌<◌}
use Rattle.sets.specs.Sets.{width, member, Subset}
use Rattle.sets.specs.Calls.{set_at}

-- the second set is the first with every k added of which P holds
pub record Extended (P : ℕ → Type 0) (before after : ℕ) : Type 0 where
  pub fits : after < 2 ^ width
  pub keeps : Subset before after
  pub added : (k : ℕ) → P k → member k after ≡ true
  pub because : (k : ℕ) → member k after ≡ true → (member k before ≡ true) ⊎ P k

-- the rule from `input` to `output` gives k where its input lies within the set
pub record Follows (input output before k : ℕ) : Type 0 where
  pub holds : Subset input before
  pub gives : member k output ≡ true

-- what rule p makes of a set
abbrev pub Applied : (ins outs : List ℕ) (p before after : ℕ) → Type 0
Applied ins outs p before = Extended (Follows (set_at ins p) (set_at outs p) before) before

module _ (ins outs : List ℕ) (count : ℕ) where
  -- k is in the seed, or a rule below `count` whose `ins` are all reached has k among its `outs`
  pub data InClosure (seed : ℕ) : ℕ → Type 0 where
    given : {k : ℕ} → member k seed ≡ true → InClosure seed k
    fired : {k : ℕ} (p : ℕ)
        → p < count
        → ((j : ℕ) → member j (set_at ins p) ≡ true → InClosure seed j)
        → member k (set_at outs p) ≡ true
        → InClosure seed k

  -- what the first n rules, applied one after the other, make of a set
  pub record Passed (n before after : ℕ) : Type 0 where
    pub fits : after < 2 ^ width
    pub keeps : Subset before after
    pub added : (p : ℕ) → p < n → Subset (set_at ins p) before → Subset (set_at outs p) after
    pub because : (k : ℕ) → member k after ≡ true → InClosure before k
