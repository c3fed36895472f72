-- A missing byte, a right one, and one that is too low or too high.
use mathlib.Core.Path.{◌≡◌, sym, ap, ◌∙◌}
use Prim.Native.Nat.{◌<◌}
use native.Mathlib.Omega.{arith}
use lib.ListN.{length, get_or}
use borrow.Author.Tests.{ltb-true, ltb-false}
use Rattle.std.proofs.lemmas.List.{get_or_read}
use Rattle.std.specs.Prelude.{Ok}
use Rattle.reader.specs.Verdicts.{and_then}
use Rattle.reader.specs.Positional.{wanted_from}
use Rattle.reader.proofs.Passing.{within_right, within_below, within_above, checked_right, checked_wrong, checked_short}
use Rattle.reader.proofs.spelling.wanted.Goals as goal

pub returns-in-None : goal.returns-in-None
unfolding wanted_from and_then
returns-in-None c =
    rw (c.cut_off.ensures) (sym (checked_short _ _ _ _ (ltb-false _ _ (sym c.in-None.ensures.lookup.0))))

pub returns-in-Some : goal.returns-in-Some
unfolding wanted_from and_then
returns-in-Some c =
    let args = c.args in
    let inside : args.place < length args.book.now = ltb-true _ _ (sym c.in-Some.ensures.lookup.0) in
    let byte : c.in-Some.byte.now ≡ get_or args.book.now args.place 0 = get_or_read args.book.now _ _ inside c.in-Some.ensures.lookup.1 0 in
    let right = within_right args.low args.high (get_or args.book.now args.place 0) (omega arith) (omega arith) in
    ap Ok (omega arith) ∙ sym (checked_right args.book.now _ args.why args.place inside right)

pub returns-in-Some-2 : goal.returns-in-Some-2
unfolding wanted_from and_then
returns-in-Some-2 c =
    let args = c.args in
    let inside : args.place < length args.book.now = ltb-true _ _ (sym c.in-Some.ensures.lookup.0) in
    let byte : c.in-Some.byte.now ≡ get_or args.book.now args.place 0 = get_or_read args.book.now _ _ inside c.in-Some.ensures.lookup.1 0 in
    let high = within_above args.low args.high (get_or args.book.now args.place 0) (omega arith) in
    sym (checked_wrong args.book.now _ args.why args.place inside high)

pub returns-in-Some-2-2 : goal.returns-in-Some-2-2
unfolding wanted_from and_then
returns-in-Some-2-2 c =
    let args = c.args in
    let inside : args.place < length args.book.now = ltb-true _ _ (sym c.in-Some.ensures.lookup.0) in
    let byte : c.in-Some.byte.now ≡ get_or args.book.now args.place 0 = get_or_read args.book.now _ _ inside c.in-Some.ensures.lookup.1 0 in
    let low = within_below args.low args.high (get_or args.book.now args.place 0) (omega arith) in
    sym (checked_wrong args.book.now _ args.why args.place inside low)
