use native.Mathlib.Omega.{arith}
use Rattle.sheet.specs.Writing.{records_text}
use Rattle.text.proofs.Promise.{put_length}
use Rattle.sheet.proofs.BookText.{records_start, records_turn, records_end}
use Rattle.sheet.proofs.writing.put_lines.Goals as goal

pub loop-init : goal.loop-init
loop-init c = (omega arith, records_start _ _ _ _)

pub loop-preserved : goal.loop-preserved
loop-preserved c =
    let args = c.args in (
      omega arith,
      records_turn (records_text args.book.now args.count 6) args.book.now args.count c.loop.counter c.loop.place
          c.loop.invariant.1
          c.loop-test.true
          c.put_line-next.ensures
          c.length_at-length.ensures,
    )

pub returns : goal.returns
returns c =
    let args = c.args in
    records_end (records_text args.book.now args.count 6) args.book.now args.count c.loop.counter c.loop.place
    c.loop.invariant.1
    c.loop-test.false

pub shape_of-out : goal.shape_of-out
shape_of-out c = put_length (returns c)
