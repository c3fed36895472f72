use Prim.Native.Nat.{◌+◌}
use Rattle.reader.specs.Fields.{form_in}
use Rattle.sheet.specs.Sheet.{symbols_text}
use Rattle.text.proofs.Promise.{put_length}
use Rattle.sheet.proofs.BookText.{symbols_start, symbols_turn, symbols_end}
use Rattle.sheet.proofs.writing.put_right.Goals as goal

pub loop-i-init : goal.loop-i-init
loop-i-init c = symbols_start _ _ _ _ _

pub loop-i-preserved : goal.loop-i-preserved
loop-i-preserved c =
    let args = c.args in
    symbols_turn (symbols_text (form_in args.book.now (args.place + 4) args.count)) args.book.now args.place args.count
    c.loop-i.i
    c.loop-i.invariant
    c.loop-i-test.true
    c.byte_at-byte.ensures
    c.put_symbol-next.ensures

pub returns : goal.returns
returns c =
    let args = c.args in
    symbols_end (symbols_text (form_in args.book.now (args.place + 4) args.count)) args.book.now args.place args.count
    c.loop-i.i
    c.loop-i.invariant
    c.loop-i-test.false

pub shape_of-out : goal.shape_of-out
shape_of-out c = put_length (returns c)
