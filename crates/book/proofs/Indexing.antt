-- A book that reads to a grammar, read by place: its header, the place of each record, and what stands there.
use mathlib.Core.Path.{◌≡◌, refl, sym, ◌∙◌, ap}
use mathlib.Core.List.{List, [], ◌∷◌}
use mathlib.Core.Option.{some}
use Prim.Native.Nat.{ℕ, zero, suc, ◌+◌, ◌-◌, ◌≤◌, ◌<◌}
use native.Mathlib.Decide.{dec_lt}
use native.Mathlib.Omega.{arith}
use lib.ListN.{length, get_or, take, replicate, get_elem?, length-append, length-replicate, get_or-eq_default}
use lib.Seq.{ext_get_or}
use borrow.Author.Tests.{lt-ltb, le-ltb}
use Rattle.grammar.specs.declared.Symbol.{Symbol}
use Rattle.grammar.specs.declared.Symbol.TheVariants.{Nonterminal}
use Rattle.grammar.specs.Grammar.{Form, Production, Grammar, Rule, Known, known_token, known_nonterminal}
use Rattle.grammar.proofs.Every.{every_at}
use Rattle.grammar.proofs.Rules.{rule_below, below_rule}
use Rattle.answers.specs.Limits.{most_tokens, most_productions, longest_book}
use Rattle.reader.specs.Book.{reads, spells, byte_of, bytes_of, Limits}
use Rattle.reader.specs.Fields.{length_at, symbol_of_byte, symbol_at, place_after, place_of_record, places_of}
use Rattle.reader.proofs.Promise.{records_size, record_place, RecordAt, zero_cell, zeros_behind, places_length, places_cell, places_rest, longest_book_lem, record_at, record_within, record_place_suc, written_read, read_limits}
use Rattle.book.specs.Judging.{record_places, places_in}

record_places_length : (at : ℕ) (ps : List Production) → length (record_places at ps) ≡ length ps
unfolding record_places
record_places_length at [] = refl
record_places_length at (r ∷ ps) = ap suc (record_places_length (at + 4 + length r.right) ps)

record_places_cell : (at : ℕ) (ps : List Production) (p : ℕ) → p < length ps → get_or (record_places at ps) p 0 ≡ at + records_size (take p ps)
unfolding record_places records_size
record_places_cell at [] p h = absurd (omega arith)
record_places_cell at (r ∷ ps) zero h = omega arith
record_places_cell at (r ∷ ps) (suc p) h = omega (arith, record_places_cell (at + 4 + length r.right) ps p (omega arith))

module _ (ps : List Production) where
  pub places_in_length : length ps ≤ most_productions → length (places_in ps) ≡ most_productions
  unfolding places_in
  places_in_length fits =
      omega (arith, length-append (record_places 6 ps) (replicate (most_productions - length ps) 0), length-replicate {A = ℕ} (most_productions - length ps) 0, record_places_length 6 ps)

  places_in_all : (p : ℕ) → get_or (places_in ps) p 0 ≡ get_or (record_places 6 ps) p 0
  unfolding places_in
  places_in_all p = zeros_behind (record_places 6 ps) (replicate (most_productions - length ps) 0) p (zero_cell (most_productions - length ps))

  pub places_in_cell : (p : ℕ) → p < length ps → get_or (places_in ps) p 0 ≡ record_place ps p
  unfolding record_place
  places_in_cell p h = places_in_all p ∙ record_places_cell 6 ps p h

  places_in_rest : (p : ℕ) → length ps ≤ p → get_or (places_in ps) p 0 ≡ 0
  places_in_rest p h = places_in_all p ∙ get_or-eq_default (record_places 6 ps) 0 (omega (arith, record_places_length 6 ps))

-- the byte of a known symbol stands for that symbol
symbol_of_byte_byte_of : {g : Grammar} {s : Symbol} → g.tokens ≤ most_tokens → Known g s → symbol_of_byte (byte_of s) ≡ s
unfolding symbol_of_byte byte_of
symbol_of_byte_byte_of fit (known_token {t = t} h) = rw (lt-ltb t 128 (omega arith), symbol_of_byte)
symbol_of_byte_byte_of fit (known_nonterminal {A = A} h) = rw (le-ltb (128 + A) 128 (omega arith), symbol_of_byte) (ap Nonterminal (omega arith))

module _ (b : List ℕ) {g : Grammar} (read : spells b ≡ reads g) where
  limits : Limits g
  limits = read_limits b read

  pub header_tokens : get_or b 2 0 ≡ g.tokens
  unfolding bytes_of
  header_tokens = rw (written_read b read)

  pub header_nonterminals : get_or b 3 0 ≡ g.nonterminals
  unfolding bytes_of
  header_nonterminals = rw (written_read b read)

  pub header_start : get_or b 4 0 ≡ g.start
  unfolding bytes_of
  header_start = rw (written_read b read)

  pub header_productions : get_or b 5 0 ≡ length g.productions
  unfolding bytes_of
  header_productions = rw (written_read b read)

  record_placed : {p A : ℕ} {β : Form} → Rule g p A β → RecordAt b (record_place g.productions p) A β
  record_placed rule = rw (written_read b read) (record_at rule)

  -- each record stands at the place that the index has
  pub record_indexed : {p A : ℕ} {β : Form} → Rule g p A β → RecordAt b (get_or (places_in g.productions) p 0) A β
  record_indexed {p} rule = rw (places_in_cell g.productions p (below_rule rule)) (record_placed rule)

  symbol_there : {at p A : ℕ} {β : Form} → Rule g p A β → RecordAt b at A β → (i : ℕ) {s : Symbol} → get_elem? β i ≡ some s → symbol_at b at i ≡ s
  unfolding symbol_at
  symbol_there rule there i {s} e = rw (there.symbols i e) (symbol_of_byte_byte_of limits.tokens_fit (every_at (limits.well_formed.right_known rule) i s e))

  pub symbol_indexed : {p A : ℕ} {β : Form} → Rule g p A β → (i : ℕ) {s : Symbol} → get_elem? β i ≡ some s → symbol_at b (get_or (places_in g.productions) p 0) i ≡ s
  symbol_indexed rule i e = symbol_there rule (record_indexed rule) i e

  pub place_fits : {p A : ℕ} {β : Form} → Rule g p A β → get_or (places_in g.productions) p 0 < longest_book
  place_fits {p} rule =
      rw (places_in_cell g.productions p (below_rule rule))
      (omega (arith, record_within rule, ap length (written_read b read), longest_book_lem b read))

  -- and ends within the book
  pub place_within : {p A : ℕ} {β : Form} → Rule g p A β → get_or (places_in g.productions) p 0 + 4 + length β ≤ length b
  place_within {p} rule = rw (places_in_cell g.productions p (below_rule rule)) (omega (arith, record_within rule, ap length (written_read b read)))

  -- the places that are counted through the book are those of the index
  place_counted : (p : ℕ) → p ≤ length g.productions → place_of_record b p ≡ record_place g.productions p
  unfolding place_of_record place_after record_place records_size
  place_counted zero h = refl
  place_counted (suc p) h =
      let (A, β, rule) = rule_below g p (omega arith) in
      rw (place_counted p (omega arith), (record_placed rule).size) (sym (record_place_suc rule))

  -- each record stands where counting through the book comes to
  pub record_counted : {p A : ℕ} {β : Form} → Rule g p A β → RecordAt b (place_of_record b p) A β
  record_counted {p} rule = rw (place_counted p (omega (arith, below_rule rule))) (record_placed rule)

  pub symbol_counted : {p A : ℕ} {β : Form} → Rule g p A β → (i : ℕ) {s : Symbol} → get_elem? β i ≡ some s → symbol_at b (place_of_record b p) i ≡ s
  symbol_counted rule i e = symbol_there rule (record_counted rule) i e

  -- and lies within the book
  pub record_fits : (p : ℕ) → p < length g.productions → place_of_record b p + 4 + length_at b (place_of_record b p) ≤ length b
  record_fits p below =
      let (A, β, rule) = rule_below g p below in
      omega (arith, record_within rule, ap length (written_read b read), place_counted p (omega arith), (record_counted rule).size)

  pub places_indexed : places_of b (length g.productions) ≡ places_in g.productions
  places_indexed =
      let ps : List Production = g.productions in
      let fits : length ps ≤ most_productions = limits.productions_fit in
      let sized : length (places_of b (length ps)) ≡ most_productions = places_length b (length ps) in
      ext_get_or 0 (places_of b (length ps)) (places_in ps) (sized ∙ sym (places_in_length ps fits))
      (λ p _. by_place p (dec_lt p (length ps)))
    where
      by_place : (p : ℕ) → Dec (p < length g.productions) → get_or (places_of b (length g.productions)) p 0 ≡ get_or (places_in g.productions) p 0
      by_place p (yes below) =
          places_cell b (length g.productions) p (omega (arith, limits.productions_fit))
          ∙ place_counted p (omega arith)
          ∙ sym (places_in_cell g.productions p below)
      by_place p (no past) =
          places_rest b (length g.productions) p (omega (arith, limits.productions_fit))
          ∙ sym (places_in_rest g.productions p (omega arith))
