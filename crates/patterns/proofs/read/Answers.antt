-- `patterns::read` meets its contract.
use mathlib.Core.Logic.{⊎_elim}
use native.Mathlib.Omega.{arith}
use Rattle.patterns.specs.Calls.{no_room, refused, served}
use Rattle.patterns.proofs.read.Goals as goal

pub returns-then-readers-lt-READERS_LENGTH : goal.returns-then-readers-lt-READERS_LENGTH
returns-then-readers-lt-READERS_LENGTH c =
    rw c.refusal.ensures (no_room (λ fit. ⊎_elim (λ h. omega arith) (λ h. omega arith) c.then-readers-lt-READERS_LENGTH.either))

pub returns-in-Ok : goal.returns-in-Ok
returns-in-Ok c =
    let s = c.in-Ok.ensures in
    rw c.done.ensures
    (served (record { readers_fit = c.if-readers-lt-READERS_LENGTH.false; follow_fit = c.if-follow-lt-FOLLOW_LENGTH.false })
    s.accepted s.readers_sized s.follow_sized s.tables)

pub returns-in-Err : goal.returns-in-Err
returns-in-Err c =
    let s = c.in-Err.ensures in
    rw (c.fill-in-Err.ensures.after (λ y e. e), c.fill-in-Err-2.ensures.after (λ y e. e), s.readers_sized, s.follow_sized)
    (refused (record { readers_fit = c.if-readers-lt-READERS_LENGTH.false; follow_fit = c.if-follow-lt-FOLLOW_LENGTH.false })
    s.refuses)
