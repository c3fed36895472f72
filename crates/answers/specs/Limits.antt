-- The limits of document 01, each named once: "The book", and "Refusals and their numbers"; and of document 02, W3.
use Rattle.std.specs.Prelude.{ℕ}

-- T, N and P of a book, the symbols of a right side or of a symbol string, and the bytes of the longest book
abbrev pub most_tokens : ℕ
most_tokens = 62

abbrev pub most_nonterminals : ℕ
most_nonterminals = 64

abbrev pub most_productions : ℕ
most_productions = 128

abbrev pub most_symbols : ℕ
most_symbols = 16

abbrev pub longest_book : ℕ
longest_book = 2566

-- the tokens of a string to run, and the productions of a list to expand
abbrev pub longest_string : ℕ
longest_string = 4096

abbrev pub longest_list : ℕ
longest_list = 65535

-- how many cells of a lent stack, list or output count
abbrev pub most_cells : ℕ
most_cells = 65535

-- the patterns that cut a line, and their bytes and classes, all patterns together
abbrev pub most_patterns : ℕ
most_patterns = 62

abbrev pub most_positions : ℕ
most_positions = 256

-- the words of a set of positions, and of a set of points: positions, then the ends of patterns
abbrev pub position_words : ℕ
position_words = 4

abbrev pub point_words : ℕ
point_words = 5

-- how many values a byte has; the states of a machine, and the cells of its row: for each byte one, then the token's
abbrev pub byte_values : ℕ
byte_values = 256

abbrev pub most_states : ℕ
most_states = 256

abbrev pub row_cells : ℕ
row_cells = 257
