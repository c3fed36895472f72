-- The values of a sheet judged from the front, by place, whatever the bytes are.
-- Only contracts inside the crate cite what stands here.
use Rattle.std.specs.Prelude.{Bool, ◌&&◌, cond, List, ℕ, zero, suc, ◌+◌, min, eqb, leb, ltb, length, get_or, Ok}
use Rattle.answers.specs.Limits.{most_tokens, most_nonterminals, most_productions, most_symbols}
use Rattle.answers.specs.declared.refusals.Refusal.{Refusal}
use Rattle.answers.specs.declared.refusals.Refusal.TheVariants as refusals
use Rattle.text.specs.declared.Number.{Number}
use Rattle.text.specs.Reading.{number_at}
use Rattle.reader.specs.Verdicts.{Verdict, bad, and_then}
use Rattle.sheet.specs.Sheet.{space, letter_t}
use Rattle.sheet.specs.declared.judging.Head.{Head}

-- the place behind a byte, at most the length
unfoldable pub past : List ℕ → ℕ → ℕ
past text at = min (at + 1) (length text)

-- the four numbers of the first line, each behind the one before it and one byte
unfoldable pub head_in : List ℕ → Head
head_in text =
    let tokens = number_at text 0 in
    let nonterminals = number_at text (past text tokens.next) in
    let start = number_at text (past text nonterminals.next) in
    let count = number_at text (past text start.next) in
    record { tokens = tokens; nonterminals = nonterminals; start = start; count = count }

-- the first of two that refuses, else the second
unfoldable pub both : Verdict → Verdict → Verdict
both v w = and_then v λ _. w

-- a number within its range, and the place behind it; else the refusal at its own place
unfoldable pub checked : Number → (low high : ℕ) → Refusal → (place : ℕ) → Verdict
checked number low high why place =
    cond (leb low number.value && ltb number.value high) (Ok number.next) (bad why place)

-- T, N, a start below N, P
unfoldable pub head_judged : List ℕ → Head → Verdict
head_judged text head =
    both (checked head.tokens 1 (suc most_tokens) refusals.Limit 0)
    (both (checked head.nonterminals 1 (suc most_nonterminals) refusals.Limit (past text head.tokens.next))
    (both (checked head.start 0 head.nonterminals.value refusals.Limit (past text head.nonterminals.next))
    (checked head.count 1 (suc most_productions) refusals.Limit (past text head.start.next))))

-- a symbol stands at a place: a space, a letter, a number
unfoldable pub is_space : List ℕ → ℕ → Bool
is_space text at = eqb (get_or text at 0) space

-- the number of the symbol at a place
unfoldable pub symbol_number : List ℕ → ℕ → Number
symbol_number text at = number_at text (past text (past text at))

-- a token is asked to be below T, a nonterminal below N
unfoldable pub highest : List ℕ → (T N at : ℕ) → ℕ
highest text T N at = cond (eqb (get_or text (at + 1) 0) letter_t) T N

unfoldable pub symbol_judged : List ℕ → (T N at : ℕ) → Verdict
symbol_judged text T N at =
    checked (symbol_number text at) 0 (highest text T N at) refusals.Symbol (past text (past text at))

-- no symbol more
unfoldable pub closed : List ℕ → ℕ → Verdict
closed text at = cond (is_space text at) (bad refusals.Limit (past text at)) (Ok at)

-- at most so many symbols
unfoldable pub symbols_judged : List ℕ → (T N room at : ℕ) → Verdict
symbols_judged text T N zero at = closed text at
symbols_judged text T N (suc room) at =
    cond (is_space text at)
    (and_then (symbol_judged text T N at) (symbols_judged text T N room))
    (Ok at)

-- the number of a left side, behind its letter
unfoldable pub left_number : List ℕ → ℕ → Number
left_number text at = number_at text (past text at)

-- where the symbols of a line start, behind ` :`
unfoldable pub right_place : List ℕ → ℕ → ℕ
right_place text at = past text (past text (left_number text at).next)

-- a line: its left side and its symbols, up to the line feed
unfoldable pub line_judged : List ℕ → (T N at : ℕ) → Verdict
line_judged text T N at =
    both (checked (left_number text at) 0 N refusals.Symbol (past text at))
    (symbols_judged text T N most_symbols (right_place text at))

-- the line at a place, where there is one
unfoldable pub next_judged : List ℕ → (T N at : ℕ) → Verdict
next_judged text T N at = cond (ltb at (length text)) (line_judged text T N at) (bad refusals.Short (length text))

-- so many lines
unfoldable pub lines_judged : List ℕ → (T N count at : ℕ) → Verdict
lines_judged text T N zero at = Ok at
lines_judged text T N (suc count) at =
    and_then (next_judged text T N at) λ end. lines_judged text T N count (past text end)

-- nothing behind them
unfoldable pub ended_at : List ℕ → ℕ → Verdict
ended_at text at = cond (ltb at (length text)) (bad refusals.Extra at) (Ok at)

unfoldable pub end_judged : List ℕ → Verdict → Verdict
end_judged text v = and_then v (ended_at text)

-- the first line, as many lines as it says, the end
unfoldable pub sheet_judged : List ℕ → Head → Verdict
sheet_judged text head =
    both (head_judged text head)
    (end_judged text
    (lines_judged text head.tokens.value head.nonterminals.value head.count.value
    (past text head.count.next)))
