-- The bytes are there or not, and where they are, the first that is not right decides.
use mathlib.Core.Path.{sym, ◌∙◌}
use mathlib.Core.Logic.{⊎_elim}
use Prim.Native.Nat.{◌+◌, ◌<◌}
use native.Mathlib.Omega.{arith}
use lib.ListN.{length}
use borrow.Author.Tests.{le-ltb}
use Rattle.reader.proofs.Heads.{head_short, row_first, row_second, row_left, row_length}
use Rattle.reader.proofs.spelling.is_head.Goals as goal

pub returns-in_default : goal.returns-in_default
returns-in_default c =
    let short : length c.args.book.now < c.args.at + 4 = ⊎_elim (λ h. omega arith) (λ h. omega arith) c.in_default.ensures.lookup.0 in
    sym (head_short _ _ _ short)

pub returns-then-left-n : goal.returns-then-left-n
returns-then-left-n c =
    let (low, end, same, fits) = c.in-Some.ensures.lookup.0 in
    sym (row_length _ _ _ same fits c.in-80.len_at_least (omega arith) (omega arith) c.if-left-n.true)

pub returns-else-left-n : goal.returns-else-left-n
returns-else-left-n c =
    let (low, end, same, fits) = c.in-Some.ensures.lookup.0 in
    le-ltb _ _ c.if-left-n.false
    ∙ sym (row_left _ _ _ same fits c.in-80.len_at_least (omega arith) (omega arith) c.if-left-n.false)

pub returns-in_default-rest : goal.returns-in_default-rest
returns-in_default-rest c =
    let (low, end, same, fits) = c.in-Some.ensures.lookup.0 in
    sym (head_short _ _ _ (omega arith))

pub returns-in_default-rest-2 : goal.returns-in_default-rest-2
returns-in_default-rest-2 c =
    let (low, end, same, fits) = c.in-Some.ensures.lookup.0 in
    sym (row_second _ _ _ same fits c.in_default-rest.len_at_least (omega arith) (λ e. omega arith))

pub returns-in_default-rest-3 : goal.returns-in_default-rest-3
returns-in_default-rest-3 c =
    let (low, end, same, fits) = c.in-Some.ensures.lookup.0 in
    sym (row_first _ _ _ same fits c.in_default-rest.len_at_least (λ e. omega arith))
