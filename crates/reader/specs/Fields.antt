-- What the bytes of a record say, read by place: the left side, the length, the symbols, and where each record starts.
-- Document 01, "The book": `PR`, then left side, length L, L symbols. Past the book's end every byte counts as 0.
use Rattle.std.specs.Prelude.{true, false, List, [], ◌∷◌, ℕ, zero, suc, ◌+◌, ◌-◌, min, ltb, get_or, replicate}
use Rattle.std.proofs.lemmas.List.Edits.{sets}
use Rattle.grammar.specs.Grammar.{Form}
use Rattle.grammar.specs.declared.Symbol.{Symbol}
use Rattle.grammar.specs.declared.Symbol.TheVariants.{Token, Nonterminal}
use Rattle.answers.specs.Limits.{most_productions}

-- a token below 128, else the nonterminal 128 less
unfoldable pub symbol_of_byte : ℕ → Symbol
symbol_of_byte b = elim (ltb b 128) [ true ↦ Token b | false ↦ Nonterminal (b - 128) ]

-- the left side of the record at a place
abbrev pub left_at : List ℕ → ℕ → ℕ
left_at b at = get_or b (at + 2) 0

-- the length of its right side
abbrev pub length_at : List ℕ → ℕ → ℕ
length_at b at = get_or b (at + 3) 0

-- the byte where its symbols start
abbrev pub head_at : List ℕ → ℕ → ℕ
head_at b at = get_or b (at + 4) 0

-- symbol i of the record at a place
unfoldable pub symbol_at : List ℕ → ℕ → ℕ → Symbol
symbol_at b at i = symbol_of_byte (get_or b (at + 4 + i) 0)

-- the place after the record at a place
unfoldable pub place_after : List ℕ → ℕ → ℕ
place_after b at = at + 4 + length_at b at

-- the place of record p
unfoldable pub place_of_record : List ℕ → ℕ → ℕ
place_of_record b zero = 6
place_of_record b (suc p) = place_after b (place_of_record b p)

-- the places of so many records, from record p on
unfoldable pub places_from : List ℕ → ℕ → ℕ → List ℕ
places_from b zero p = []
places_from b (suc count) p = place_of_record b p ∷ places_from b count (suc p)

-- the places of the first records, at most 128, and 0 in each cell beyond them
unfoldable pub places_of : List ℕ → ℕ → List ℕ
places_of b count = sets (replicate most_productions 0) 0 (places_from b (min count most_productions) 0)

-- so many bytes from a place on, as symbols
unfoldable pub form_in : List ℕ → (from count : ℕ) → Form
form_in bytes from zero = []
form_in bytes from (suc count) = symbol_of_byte (get_or bytes from 0) ∷ form_in bytes (suc from) count

-- the right side of the record at a place
abbrev pub right_at : List ℕ → ℕ → Form
right_at book place = form_in book (place + 4) (length_at book place)

-- the right side from a position on
abbrev pub tail_at : List ℕ → (place from : ℕ) → Form
tail_at book place from = form_in book (place + 4 + from) (length_at book place - from)
