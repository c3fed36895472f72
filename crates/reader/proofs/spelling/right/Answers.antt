-- The symbols that are wanted, or those that are there.
use mathlib.Core.Path.{sym, ◌∙◌}
use Prim.Native.Nat.{◌-◌}
use native.Mathlib.Omega.{arith}
use lib.ListN.{length}
use Rattle.std.proofs.lemmas.Result.{err_from_is_err_and}
use Rattle.reader.specs.Verdicts.{and_then}
use Rattle.reader.proofs.Guards.{symbols_cut}
use Rattle.reader.proofs.spelling.right.Goals as goal

pub returns-in_err-symbols : goal.returns-in_err-symbols
unfolding and_then
returns-in_err-symbols c =
    let p = err_from_is_err_and c.from_residual.result c.from_residual.ensures.1 in
    let b = c.args.book.now in
    let at = c.args.at in
    let there = sym c.symbols-else-wanted-book.ensures ∙ c.in_err-symbols.was in
    rw (p.1, p.2, symbols_cut b c.args.t c.args.n (length b - at) at c.args.count (omega arith) (omega arith), there)

pub returns-in_ok-symbols : goal.returns-in_ok-symbols
unfolding and_then
returns-in_ok-symbols c =
    let b = c.args.book.now in
    let at = c.args.at in
    let there = sym c.symbols-else-wanted-book.ensures ∙ c.in_ok-symbols.was in
    rw (c.cut_off.ensures, symbols_cut b c.args.t c.args.n (length b - at) at c.args.count (omega arith) (omega arith), there)
