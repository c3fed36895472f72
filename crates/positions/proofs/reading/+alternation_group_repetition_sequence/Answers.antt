use Rattle.std.proofs.Common.{rules, ◌≡◌, ◌-◌, suc, sym, ◌∙◌, arith, add-one}
use Rattle.std.proofs.lemmas.Result.{err_from_is_err_and}
use Rattle.parts.specs.Reading.{ItemPassed, Meant}
use Rattle.positions.proofs.Repetitions.{repetition_read}
use Rattle.positions.proofs.Groups.{group_refused, group_unread, group_read}
use Rattle.positions.proofs.Sequences.{sequence_first, sequence_more, alternation_first, alternation_more, alternation_stops, alternation_unread}
use Rattle.positions.proofs.reading.+alternation_group_repetition_sequence.Goals as goal
use Rattle.positions.proofs.reading.+alternation_group_repetition_sequence.Goals.{repetition-then-byte_at-eq-OPEN_GROUP+in_ok-item, repetition-else-byte_at-eq-OPEN_GROUP+in_ok-item-2}

pub alternation-returns-in_err-whole : goal.alternation-returns-in_err-whole
alternation-returns-in_err-whole t c = search (rules, alternation_unread)

pub alternation-loop-readers-init : goal.alternation-loop-readers-init
alternation-loop-readers-init t c =
    (c.sequence.auto.readers, c.sequence.auto.follow, alternation_first c.in_ok-whole.ensures)

pub alternation-returns-in_err-right : goal.alternation-returns-in_err-right
alternation-returns-in_err-right t c =
    let p = err_from_is_err_and c.from_residual-in_err-right.result c.from_residual-in_err-right.ensures.1 in
    rw (p.1, p.2)
    (alternation_stops c.loop-readers.invariant.2 (sym c.byte_at.ensures ∙ c.loop-readers-test.true)
    (rw add-one at c.in_err-right.ensures))

pub alternation-loop-readers-preserved : goal.alternation-loop-readers-preserved
alternation-loop-readers-preserved t c =
    let right = c.sequence-in-loop-readers in (
      right.auto.readers ∙ c.loop-readers.invariant.0,
      right.auto.follow ∙ c.loop-readers.invariant.1,
      alternation_more c.loop-readers.invariant.2 (sym c.byte_at.ensures ∙ c.loop-readers-test.true)
          (rw add-one at c.in_ok-right.ensures) c.either-whole.ensures,
    )

pub group-returns-then-depth-eq0 : goal.group-returns-then-depth-eq0
group-returns-then-depth-eq0 t c = rw c.if-depth-eq0.true (group_refused c.requires)

pub group-returns-in_err-inner : goal.group-returns-in_err-inner
group-returns-in_err-inner t c =
    let p = err_from_is_err_and c.from_residual.result c.from_residual.ensures.1 in
    let deeper : c.args.depth ≡ suc (c.args.depth - 1) = omega arith in
    rw (p.1, p.2, deeper) (group_unread c.requires (rw add-one at c.in_err-inner.ensures))

pub group-returns : goal.group-returns
group-returns t c =
    let deeper : c.args.depth ≡ suc (c.args.depth - 1) = omega arith in
    rw deeper (group_read c.requires (rw add-one at c.in_ok-inner.ensures) c.closed.ensures)

pub repetition-returns-in_err-item-2 : goal.repetition-returns-in_err-item-2
repetition-returns-in_err-item-2 t c =
    let p = err_from_is_err_and c.from_residual-in_err-item-2.result c.from_residual-in_err-item-2.ensures.1 in
    rw (p.1, p.2)
    (c.in_err-item-2.ensures.item (λ e. c.if-byte_at-eq-OPEN_GROUP.false (c.byte_at.ensures ∙ e)) c.args.depth c.args.follow.now)

pub repetition-returns : goal.repetition-returns
repetition-returns t c = repetition_read read c.signed.ensures
  where
    read : Meant c.args.pattern.now c.args.at (ItemPassed c.args.pattern.now c.args.depth c.args.at) c.args.count
        c.args.readers.now c.args.follow.now c.if-byte_at-eq-OPEN_GROUP.item c.if-byte_at-eq-OPEN_GROUP.readers
        c.if-byte_at-eq-OPEN_GROUP.follow
    read =
        elim c.if-byte_at-eq-OPEN_GROUP.branch [
          | repetition-then-byte_at-eq-OPEN_GROUP+in_ok-item w ↦
              rw (w.item-is, w.readers-is, w.follow-is) w.in_ok-item.ensures
          | repetition-else-byte_at-eq-OPEN_GROUP+in_ok-item-2 w ↦
              rw (w.item-is, w.readers-is, w.follow-is)
              (w.in_ok-item-2.ensures.item (λ e. w.if-byte_at-eq-OPEN_GROUP.false (c.byte_at.ensures ∙ e)) c.args.depth
              c.args.follow.now)
        ]

pub sequence-loop-readers-init : goal.sequence-loop-readers-init
sequence-loop-readers-init t c =
    (c.repetition.auto.readers, c.repetition.auto.follow, sequence_first c.in_ok-whole.ensures)

pub sequence-loop-readers-preserved : goal.sequence-loop-readers-preserved
sequence-loop-readers-preserved t c =
    let right = c.repetition-in-loop-readers in
    let joined = c.followed-whole in (
      right.auto.readers ∙ c.loop-readers.invariant.0,
      joined.auto.follow ∙ (right.auto.follow ∙ c.loop-readers.invariant.1),
      sequence_more c.loop-readers.invariant.2 c.in_ok-right.ensures joined.ensures,
    )
