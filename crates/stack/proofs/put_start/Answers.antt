-- The byte of the start symbol, and past the end nothing changes.
use mathlib.Core.Path.{sym}
use lib.Seq.{set_out}
use borrow.Author.Rules.{rules}
use Rattle.reader.specs.Book.{byte_of}
use Rattle.stack.proofs.put_start.Goals as goal

pub returns-then-stack-gt0 : goal.returns-then-stack-gt0
unfolding byte_of
returns-then-stack-gt0 c = search rules

pub returns-else-stack-gt0 : goal.returns-else-stack-gt0
returns-else-stack-gt0 c = sym (set_out _ 0 _ c.if-stack-gt0.false)
