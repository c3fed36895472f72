-- `cutting::move_at` meets its contract: one case of `DoneAt` for each answer.
use Rattle.pieces.specs.Moves.{Starts, skips}
use Rattle.pieces.proofs.Moving.{moves_nothing, moves_room, moves_take}
use Rattle.pieces.proofs.cutting.move_at.Goals as goal
use Rattle.pieces.proofs.cutting.move_at.Goals.{Else-line-at-eq-SPACE}

pub returns-then-line-at-eq-SPACE : goal.returns-then-line-at-eq-SPACE
returns-then-line-at-eq-SPACE c = skips c.requires.1 c.if-line-at-eq-SPACE.true

-- no space stands there
starts : (c : Else-line-at-eq-SPACE)
    → let args = c.args in
    Starts args.line.now args.at
starts c = record { inside = c.requires.1; no_space = c.if-line-at-eq-SPACE.false }

pub returns-in_default : goal.returns-in_default
returns-in_default c =
    moves_nothing (starts (goal.at.returns-in_default c).Else-line-at-eq-SPACE) c.longest.ensures c.in_default.is

pub returns-then-room-eq0 : goal.returns-then-room-eq0
returns-then-room-eq0 c =
    moves_room (starts (goal.at.returns-then-room-eq0 c).Else-line-at-eq-SPACE) c.longest.ensures c.in-Some.is c.if-room-eq0.true

pub returns : goal.returns
returns c =
    moves_take (starts (goal.at.returns c).Else-line-at-eq-SPACE) c.longest.ensures c.in-Some.is c.if-room-eq0.false
