-- The numbers of document 01's table of refusals and of document 02, W1 (13), W3 (14, 15, 16), W8 (17) and W14 (21);
-- the details of refusal 7, and behind them its details where a line is cut.
use Rattle.std.specs.Prelude.{ℕ}
use Rattle.answers.specs.declared.refusals.Refusal.{Refusal}
use Rattle.answers.specs.declared.refusals.Refusal.TheVariants as refusals
use Rattle.answers.specs.declared.refusals.Lent.{Lent}
use Rattle.answers.specs.declared.refusals.Lent.TheVariants as lent

abbrev pub served : ℕ
served = 0

abbrev pub short : ℕ
short = 1

abbrev pub mark : ℕ
mark = 2

abbrev pub extra : ℕ
extra = 3

abbrev pub limit : ℕ
limit = 4

abbrev pub symbol : ℕ
symbol = 5

abbrev pub useless : ℕ
useless = 6

abbrev pub room : ℕ
room = 7

abbrev pub conflict : ℕ
conflict = 8

abbrev pub table : ℕ
table = 9

abbrev pub token : ℕ
token = 10

abbrev pub syntax : ℕ
syntax = 11

abbrev pub production : ℕ
production = 12

abbrev pub form : ℕ
form = 13

abbrev pub pattern : ℕ
pattern = 14

abbrev pub no_token : ℕ
no_token = 15

abbrev pub states : ℕ
states = 16

abbrev pub differs : ℕ
differs = 17

abbrev pub profile : ℕ
profile = 21

abbrev pub stack_room : ℕ
stack_room = 1

abbrev pub list_room : ℕ
list_room = 2

abbrev pub output_room : ℕ
output_room = 3

abbrev pub first_room : ℕ
first_room = 4

abbrev pub follow_room : ℕ
follow_room = 5

abbrev pub table_room : ℕ
table_room = 6

-- and where a line is cut
abbrev pub machine_room : ℕ
machine_room = 1

abbrev pub token_room : ℕ
token_room = 2

-- the number of a refusal
abbrev pub number_of : Refusal → ℕ
number_of refusals.Short = short
number_of refusals.Mark = mark
number_of refusals.Extra = extra
number_of refusals.Limit = limit
number_of refusals.Symbol = symbol
number_of refusals.Useless = useless
number_of refusals.Room = room
number_of refusals.Conflict = conflict
number_of refusals.Table = table
number_of refusals.Token = token
number_of refusals.Syntax = syntax
number_of refusals.Production = production
number_of refusals.Form = form
number_of refusals.Pattern = pattern
number_of refusals.NoToken = no_token
number_of refusals.States = states
number_of refusals.Differs = differs
number_of refusals.Profile = profile

-- the detail of refusal 7 for the buffer that is too short
abbrev pub detail_of : Lent → ℕ
detail_of lent.Stack = stack_room
detail_of lent.List = list_room
detail_of lent.Output = output_room
detail_of lent.First = first_room
detail_of lent.Follow = follow_room
detail_of lent.Table = table_room
detail_of lent.Machine = machine_room
detail_of lent.Tokens = token_room
