-- The grammar that an index finds in a book: its productions by number, and the whole of it where the book serves one.
use mathlib.Core.Path.{◌≡◌, refl, sym, ◌∙◌, ap}
use mathlib.Core.List.{List, [], ◌∷◌}
use mathlib.Core.Option.{some, none}
use Prim.Native.Nat.{ℕ, zero, suc, ◌+◌, ◌≤◌, ◌<◌}
use native.Mathlib.Nat.{add-zero, add-suc, suc-add, zero-add, mod-eq_of_lt}
use native.Mathlib.Omega.{arith}
use lib.ListN.{length, get_or, get_elem?}
use Rattle.grammar.specs.Grammar.{Production, Grammar}
use Rattle.reader.specs.Book.{Limits}
use Rattle.reader.specs.Fields.{symbol_at, form_in}
use Rattle.reader.proofs.Promise.{form_spelled, read_limits}
use Rattle.book.specs.declared.Index.{Index}
use Rattle.book.specs.declared.columns.Outline.{Outline}
use Rattle.book.specs.Columns.{production_at, productions_from, outlined, grammar_in, Outlines}
use Rattle.book.specs.Judging.{index_of, Serves}
use Rattle.book.proofs.Indexing.{record_indexed, symbol_indexed}

pub outlined_sized : (book places : List ℕ) (o : Outline) → Outlines o (outlined book places o)
unfolding outlined
outlined_sized book places o = record { tokens = refl; nonterminals = refl }

module _ (book places : List ℕ) where
  found_from : (n i p : ℕ)
      → p < n
      → get_elem? (productions_from book places n i) p ≡ some (production_at book (get_or places (i + p) 0))
  unfolding productions_from
  found_from zero i p h = absurd (omega arith)
  found_from (suc n) i zero h = rw (add-zero i)
  found_from (suc n) i (suc p) h = found_from n (suc i) p (omega arith) ∙ rw (add-suc i p, suc-add i p)

  missing_from : (n i p : ℕ) → n ≤ p → get_elem? (productions_from book places n i) p ≡ none
  unfolding productions_from
  missing_from zero i p h = refl
  missing_from (suc n) i zero h = absurd (omega arith)
  missing_from (suc n) i (suc p) h = missing_from n (suc i) p (omega arith)

  module _ (o : Outline) {p : ℕ} where
    -- production p is the record at its place
    pub production_found :
        p < o.productions
        → get_elem? (outlined book places o).productions p ≡ some (production_at book (get_or places p 0))
    unfolding outlined
    production_found h = found_from o.productions 0 p h ∙ rw (zero-add p)

    pub production_missing : o.productions ≤ p → get_elem? (outlined book places o).productions p ≡ none
    unfolding outlined
    production_missing h = missing_from o.productions 0 p h

-- the productions, record by record
productions_are : (book places : List ℕ) (ps : List Production) (i : ℕ)
    → ((k : ℕ) (r : Production) → get_elem? ps k ≡ some r → production_at book (get_or places (i + k) 0) ≡ r)
    → productions_from book places (length ps) i ≡ ps
unfolding productions_from
productions_are book places [] i h = refl
productions_are book places (r ∷ ps) i h =
    let here : production_at book (get_or places i 0) ≡ r = rw (add-zero i) at (h 0 _ refl) in
    let next : (k : ℕ) → production_at book (get_or places (suc i + k) 0) ≡ production_at book (get_or places (i + suc k) 0) =
    λ k. ap (λ (j : ℕ). production_at book (get_or places j 0)) (suc-add i k ∙ sym (add-suc i k)) in
    rw (here, productions_are book places ps (suc i) (λ k q e. next k ∙ h (suc k) q e))

module _ {book : List ℕ} {g : Grammar} (serves : Serves book g) where
  abbrev places : List ℕ
  places = (index_of g).places

  -- a record says what the production is
  entry_production : (p : ℕ) (r : Production)
      → get_elem? g.productions p ≡ some r
      → production_at book (get_or places p 0) ≡ r
  unfolding production_at symbol_at index_of
  entry_production p r e =
      let entry = record_indexed book serves.read (record { at = e }) in
      let whole : form_in book (get_or places p 0 + 4) (length r.right) ≡ r.right =
      form_spelled book (get_or places p 0 + 4) r.right
      (λ k x f. symbol_indexed book serves.read (record { at = e }) k f) in
      λ i. record {
        left = entry.left i;
        right = (ap (form_in book (get_or places p 0 + 4)) entry.size ∙ whole) i;
      }

  -- the index of a book that serves a grammar finds that grammar
  pub index_grammar : grammar_in book (index_of g) ≡ g
  unfolding outlined index_of
  index_grammar =
      let limits : Limits g = read_limits book serves.read in
      let start_fits : g.start < 128 = omega (arith, limits.well_formed.start_known, limits.nonterminals_fit) in
      let found : productions_from book places (length g.productions) 0 ≡ g.productions =
      productions_are book places g.productions 0
      (λ k r e. ap (λ (j : ℕ). production_at book (get_or places j 0)) (zero-add k) ∙ entry_production k r e) in
      λ i. record {
        tokens = g.tokens;
        nonterminals = g.nonterminals;
        start = mod-eq_of_lt start_fits i;
        productions = found i;
      }

  pub reading_grammar : {i : Index} → i ≡ index_of g → grammar_in book i ≡ g
  reading_grammar e = ap (grammar_in book) e ∙ index_grammar
