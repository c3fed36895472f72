-- The form of a sheet, byte by byte: the phases of reading one, and where each byte leads.
-- Only contracts inside the crate cite what stands here.
use Rattle.std.specs.Prelude.{cond, List, [], ◌∷◌, ℕ, eqb, Option, Some, None}
use Rattle.text.specs.Reading.{is_digit}
use Rattle.sheet.specs.Sheet.{line_feed, space, colon, letter_n, letter_t}
use Rattle.sheet.specs.declared.form.Slot.{Slot}
use Rattle.sheet.specs.declared.form.Slot.TheVariants.{Tokens, Nonterminals, Start, Count, Left, Right}
use Rattle.sheet.specs.declared.form.Phase.{Phase}
use Rattle.sheet.specs.declared.form.Phase.TheVariants.{First, More, Behind, Line, Colon, Letter}

abbrev pub zero_digit : ℕ
zero_digit = 48

-- only this byte leads on
unfoldable pub wants : (b wanted : ℕ) → Phase → Option Phase
wants b wanted next = cond (eqb b wanted) (Some next) None

-- behind a number
unfoldable pub behind : Slot → ℕ → Option Phase
behind Tokens b = wants b space (First Nonterminals)
behind Nonterminals b = wants b space (First Start)
behind Start b = wants b space (First Count)
behind Count b = wants b line_feed Line
behind Left b = wants b space Colon
behind Right b = cond (eqb b space) (Some Letter) (wants b line_feed Line)

-- at the first digit of a number: behind a 0 no digit can stand
unfoldable pub begin : Slot → ℕ → Option Phase
begin slot b = cond (eqb b zero_digit) (Some (Behind slot)) (cond (is_digit b) (Some (More slot)) None)

-- at a further digit, or behind the number
unfoldable pub go_on : Slot → ℕ → Option Phase
go_on slot b = cond (is_digit b) (Some (More slot)) (behind slot b)

-- at the letter of a symbol
unfoldable pub letter : ℕ → Option Phase
letter b = cond (eqb b letter_t) (Some (First Right)) (wants b letter_n (First Right))

unfoldable pub step : Phase → ℕ → Option Phase
step (First slot) b = begin slot b
step (More slot) b = go_on slot b
step (Behind slot) b = behind slot b
step Line b = wants b letter_n (First Left)
step Colon b = wants b colon (Behind Right)
step Letter b = letter b

-- the same from where earlier bytes have led; what leads nowhere stays so
unfoldable pub lead : Option Phase → ℕ → Option Phase
lead None b = None
lead (Some phase) b = step phase b

unfoldable pub after : Option Phase → List ℕ → Option Phase
after phase [] = phase
after phase (b ∷ text) = after (lead phase b) text
