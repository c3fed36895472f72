-- A position is put into the rows of one byte after the other.
use mathlib.Core.Path.{◌≡◌}
use mathlib.Core.Logic.{◌↔◌, ◌⊎◌, inl, inr}
use mathlib.Core.List.{List}
use Prim.Native.Nat.{ℕ, ◌+◌, ◌*◌, ◌≤◌, ◌<◌, max}
use native.Mathlib.Decide.{dec_lt}
use native.Mathlib.Omega.{arith}
use Rattle.answers.specs.Limits.{most_positions, position_words}
use Rattle.sets.proofs.Promise.{places_are}
use Rattle.points.specs.Points.{Put}
use Rattle.parts.specs.Rows.{Rows}
use Rattle.parts.proofs.Growth.{rows_none, rows_then, rows_alike, rows_put}

-- the position stands in the rows from `low` on, below `end`
abbrev pub SpreadBelow : ℕ → ℕ → ℕ → List ℕ → List ℕ → Type 0
SpreadBelow low end position readers after =
    position < most_positions → Rows position_words readers after (λ b p. ((low ≤ b) × (b < end)) × (p ≡ position))

pub spread_none : (low position : ℕ) (readers : List ℕ) → SpreadBelow low low position readers readers
spread_none low position readers h = rows_none readers (λ b p w. omega arith)

pub spread_more : {low byte position : ℕ} {readers now after : List ℕ}
    → low ≤ byte
    → SpreadBelow low byte position readers now
    → Put now (byte * position_words) position_words position after
    → SpreadBelow low (byte + 1) position readers after
spread_more {low} {byte} {position} from below put h =
    rows_alike alike (rows_then (below h) (rows_put byte put (omega (arith, places_are position_words))))
  where
    alike : (b p : ℕ)
        → ((((low ≤ b) × (b < byte)) × (p ≡ position)) ⊎ ((b ≡ byte) × (p ≡ position)))
        ↔ (((low ≤ b) × (b < byte + 1)) × (p ≡ position))
    alike b p = (to, from_cases)
      where
        to : (((low ≤ b) × (b < byte)) × (p ≡ position)) ⊎ ((b ≡ byte) × (p ≡ position))
            → ((low ≤ b) × (b < byte + 1)) × (p ≡ position)
        to (inl w) = omega arith
        to (inr w) = omega arith

        from_cases : ((low ≤ b) × (b < byte + 1)) × (p ≡ position)
            → (((low ≤ b) × (b < byte)) × (p ≡ position)) ⊎ ((b ≡ byte) × (p ≡ position))
        from_cases w = go (dec_lt b byte)
          where
            go : Dec (b < byte) → (((low ≤ b) × (b < byte)) × (p ≡ position)) ⊎ ((b ≡ byte) × (p ≡ position))
            go (yes before) = inl (omega arith)
            go (no after) = inr (omega arith)

pub spread_all : {low high end position : ℕ} {readers after : List ℕ}
    → high < end
    → end ≤ max low (high + 1)
    → SpreadBelow low end position readers after
    → position < most_positions
    → Rows position_words readers after (λ b p. ((low ≤ b) × (b ≤ high)) × (p ≡ position))
spread_all past within below h = rows_alike (λ b p. (λ w. omega arith, λ w. omega arith)) (below h)
