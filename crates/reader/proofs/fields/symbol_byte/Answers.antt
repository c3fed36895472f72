-- A byte is the byte of the symbol that it spells.
use mathlib.Core.Path.{sym, ◌∙◌}
use Rattle.reader.specs.Fields.{symbol_at}
use Rattle.reader.proofs.Forms.{byte_of_symbol}
use Rattle.reader.proofs.fields.symbol_byte.Goals as goal

pub returns : goal.returns
unfolding symbol_at
returns c = c.cell_or.ensures ∙ sym (byte_of_symbol _)
