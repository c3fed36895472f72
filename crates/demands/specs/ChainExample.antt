-- Two books in which no right side is empty, with their tables, and the string 0 run on them: with the room of the
-- formula, and with one cell less of stack and of list.
-- Request W11. Lent buffers hold 9s, so that a cell that is left alone shows.
use Rattle.std.specs.Prelude.{◌≡◌, List, [], ◌∷◌, ◌++◌, ℕ, ◌^◌, ◌≤◌, ◌<◌, length, get_or, replicate}
use Rattle.grammar.specs.declared.Symbol.TheVariants.{Token, Nonterminal}
use Rattle.grammar.specs.Grammar.{Grammar}
use Rattle.answers.specs.declared.Answer.{Answer}
use Rattle.book.specs.Examples.{GR, PR, production}
use Rattle.demands.specs.Examples.{Example, running, answering}

-- A → B 0, B → 0 0
unfoldable pub chain_book : List ℕ
chain_book =
    GR (0x01 ∷ 0x02 ∷ 0x00 ∷ 0x02 ∷ [])
    ++ PR (0x00 ∷ 0x02 ∷ 0x81 ∷ 0x00 ∷ [])
    ++ PR (0x01 ∷ 0x02 ∷ 0x00 ∷ 0x00 ∷ [])

unfoldable pub chain_grammar : Grammar
chain_grammar =
    record {
      tokens = 1;
      nonterminals = 2;
      start = 0;
      productions =
          production 0 (Nonterminal 1 ∷ Token 0 ∷ [])
          ∷ production 1 (Token 0 ∷ Token 0 ∷ [])
          ∷ [];
    }

unfoldable pub chain_table : List ℕ
chain_table = (0 ∷ 255 ∷ []) ++ (1 ∷ 255 ∷ [])

-- A → 0 0 .. 0, of 16 symbols
unfoldable pub long_book : List ℕ
long_book = GR (0x01 ∷ 0x01 ∷ 0x00 ∷ 0x01 ∷ []) ++ PR (0x00 ∷ 0x10 ∷ replicate 16 0x00)

unfoldable pub long_grammar : Grammar
long_grammar =
    record { tokens = 1; nonterminals = 1; start = 0; productions = production 0 (replicate 16 (Token 0)) ∷ [] }

unfoldable pub long_table : List ℕ
long_table = 0 ∷ 255 ∷ []

-- a string of the token 0
pub record Zeros (tokens : List ℕ) : Type 0 where
  pub short : length tokens ≤ 4096
  pub zeros : (i : ℕ) → i < length tokens → get_or tokens i 0 ≡ 0

-- the run of 0 with so many cells of stack and list: the answer, and what is left of the list
unfoldable pub runs_zero : (book table : List ℕ) (stack list : ℕ) → Answer → (written : List ℕ) → Example
runs_zero book table stack list answer written =
    running book table (0 ∷ []) (replicate stack 9) (replicate list 9)
    (record { answer = answer; stack = replicate stack 0; list = written })

-- both productions are listed before the token is matched
unfoldable pub chain_run : Example
chain_run = runs_zero chain_book chain_table 31 2 (answering 11 1 0 3 (2 ^ 0) 3) (0 ∷ 1 ∷ [])

-- the right side of 16 symbols just fits
unfoldable pub long_run : Example
long_run = runs_zero long_book long_table 16 1 (answering 11 1 0 2 (2 ^ 0) 16) (0 ∷ [])

-- and with one stack cell less, or one list cell less, there is no room for it
unfoldable pub low_run : Example
low_run = runs_zero long_book long_table 15 1 (answering 7 0 1 0 0 1) (9 ∷ [])

unfoldable pub listless_run : Example
listless_run = runs_zero long_book long_table 16 0 (answering 7 0 2 0 0 1) []
