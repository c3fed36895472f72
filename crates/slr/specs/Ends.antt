-- How a run of the bottom-up machine ends: it accepts, or it stops for want of room.
-- Document 02, W12: "room allowing as in demand 3"; steps, list and depth as in 01 and W7.
use Rattle.std.specs.Prelude.{◌≡◌, List, ℕ, suc, ◌+◌, ◌≤◌, max, length}
use Rattle.slr.specs.RoomMachine.{Setting, Progress, SlrReason, full_list, full_stack, SlrOffered, taken, stopped}

-- where the machine stands at the end
unfoldable pub slr_final : SlrOffered → Progress
slr_final (taken s) = s
slr_final (stopped r s) = s

-- a step for each production listed and each token matched; no more is listed and no more states are held than there is
-- room for, state 0 counted in any case
pub record SlrSpent (m : Setting) (s : Progress) : Type 0 where
  pub steps : s.steps ≡ length s.listed + s.matched
  pub listed : length s.listed ≤ m.cells
  pub held : suc (length s.below) ≤ s.height
  pub height : s.height ≤ max 1 m.room

-- all of w is read and accepted: ps is listed, with a step for each of its productions and each token, and so many
-- states were held
pub record EndsAccepting (w ps : List ℕ) (most : ℕ) (o : SlrOffered) : Type 0 where
  pub last : Progress
  pub ends : o ≡ taken last
  pub listed : last.listed ≡ ps
  pub matched : last.matched ≡ length w
  pub steps : last.steps ≡ length ps + length w
  pub height : last.height ≡ most

-- the reasons of a stop for room
pub data WantsRoom : SlrReason → Type 0 where
  wants_list : WantsRoom full_list
  wants_stack : WantsRoom full_stack

-- it stops for room, and for nothing else
pub record EndsForRoom (o : SlrOffered) : Type 0 where
  pub reason : SlrReason
  pub last : Progress
  pub ends : o ≡ stopped reason last
  pub room : WantsRoom reason
