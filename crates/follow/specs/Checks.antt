-- The checks of the calls with the refusal that each gives: room for the sets, and a production's number.
-- Document 01, "Refusals and their numbers": 7 and 12.
use Rattle.std.specs.Prelude.{ℕ, ◌≤◌, ◌<◌, ⊤, Result}
use Rattle.answers.specs.declared.Answer.{Answer}
use Rattle.answers.specs.Answers.{refusal}
use Rattle.answers.specs.Refusals as refusals
use Rattle.answers.specs.Checks.{Tested, Because, Either, Lacking}

-- the FIRST buffer has no room for N sets, or then the FOLLOW buffer
abbrev pub SetsLacking : (first follow N : ℕ) → Answer → Type 0
SetsLacking first follow N =
    Either (Lacking first N refusals.first_room) (N ≤ first) (Lacking follow N refusals.follow_room)

abbrev pub SetsRoomed : (first follow N : ℕ) → Result ⊤ Answer → Type 0
SetsRoomed first follow N = Tested (SetsLacking first follow N) ((N ≤ first) × (N ≤ follow))

-- a production's number is below P
abbrev pub Unnumbered : (production productions : ℕ) → Answer → Type 0
Unnumbered production productions = Because (productions ≤ production) (refusal refusals.production production 0)

abbrev pub Numbered : (production productions : ℕ) → Result ⊤ Answer → Type 0
Numbered production productions = Tested (Unnumbered production productions) (production < productions)
