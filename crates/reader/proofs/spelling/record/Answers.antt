-- The four bytes that begin a record are right, and the symbols follow; or they are not, and the first wrong one is refused.
use mathlib.Core.Path.{sym, ◌∙◌}
use native.Mathlib.Omega.{arith}
use Rattle.reader.proofs.Heads.{head_inside, record_whole, record_wrong}
use Rattle.reader.proofs.spelling.record.Goals as goal

pub overflow_add-at : goal.overflow_add-at
overflow_add-at c = omega (arith, head_inside _ _ _ (sym c.is_head.ensures ∙ c.if-is_head.true))

pub overflow_add-at-then-is_head : goal.overflow_add-at-then-is_head
overflow_add-at-then-is_head c = omega (arith, head_inside _ _ _ (sym c.is_head.ensures ∙ c.if-is_head.true))

pub bounds-book-at : goal.bounds-book-at
bounds-book-at c = omega (arith, head_inside _ _ _ (sym c.is_head.ensures ∙ c.if-is_head.true))

pub right-requires : goal.right-requires
right-requires c = omega (arith, head_inside _ _ _ (sym c.is_head.ensures ∙ c.if-is_head.true))

pub returns-then-is_head : goal.returns-then-is_head
returns-then-is_head c = c.right.ensures ∙ sym (record_whole _ _ _ (sym c.is_head.ensures ∙ c.if-is_head.true) _)

pub returns-else-is_head : goal.returns-else-is_head
returns-else-is_head c = c.head.ensures ∙ sym (record_wrong _ _ _ _ (sym c.is_head.ensures ∙ c.if-is_head.false))
