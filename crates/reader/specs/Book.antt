-- What the bytes of a book spell: a refusal 1 to 5 with its place, or the grammar; and the bytes that spell a grammar.
-- Document 01, "The book" and "Refusals". The bytes are judged from the front; the first bad or missing byte decides.
use Rattle.std.specs.Prelude.{◌≡◌, true, false, ◌&&◌, List, [], ◌∷◌, ◌++◌, map, ℕ, zero, suc, ◌+◌, ◌-◌, ◌≤◌, leb, ltb, length}
use Rattle.std.proofs.Math.Option.{Option, some, none}
use Rattle.grammar.specs.declared.Symbol.{Symbol}
use Rattle.grammar.specs.declared.Symbol.TheVariants.{Token, Nonterminal}
use Rattle.grammar.specs.Grammar.{Form, Production, Grammar, Rule, WellFormed}
use Rattle.answers.specs.Limits.{most_tokens, most_nonterminals, most_productions, most_symbols}
use Rattle.answers.specs.declared.refusals.Refusal.{Refusal}
use Rattle.answers.specs.declared.refusals.Refusal.TheVariants as refusals

pub data Spelling : Type 0 where
  refused : (why : Refusal) (place : ℕ) → Spelling
  reads : Grammar → Spelling

-- reading goes on with the bytes that are left and the place of the first of them
abbrev pub Rest : Type 0
Rest = List ℕ → ℕ → Spelling

-- a byte from `low` up to and without `high` is wanted, else the refusal at its place
unfoldable pub wanted : (low high : ℕ) → Refusal → (ℕ → Rest) → Rest
wanted low high why next [] at = refused refusals.Short at
wanted low high why next (b ∷ bs) at =
    elim (leb low b && ltb b high) [ true ↦ next b bs (suc at) | false ↦ refused why at ]

-- a mark of two bytes
unfoldable pub marked : (one other : ℕ) → Rest → Rest
marked one other next = wanted one (suc one) refusals.Mark (λ _. wanted other (suc other) refusals.Mark (λ _. next))

-- a token below T, or 128 + n for nonterminal n below N
unfoldable pub symbol_of : (T N : ℕ) → ℕ → Option Symbol
symbol_of T N b =
    elim (ltb b T) [
      | true ↦ some (Token b)
      | false ↦ elim (leb 128 b && ltb (b - 128) N) [ true ↦ some (Nonterminal (b - 128)) | false ↦ none ]
    ]

-- a byte is a symbol of a grammar with T tokens and N nonterminals
abbrev pub IsSymbol : (T N : ℕ) → ℕ → Type 0
IsSymbol T N byte = (s : Symbol) × (symbol_of T N byte ≡ some s)

unfoldable pub symbols : (T N : ℕ) → ℕ → (Form → Rest) → Rest
symbols T N zero next bs at = next [] bs at
symbols T N (suc l) next [] at = refused refusals.Short at
symbols T N (suc l) next (b ∷ bs) at =
    elim (symbol_of T N b) [
      | none ↦ refused refusals.Symbol at
      | some s ↦ symbols T N l (λ form. next (s ∷ form)) bs (suc at)
    ]

-- `PR`, the left side, the length, the symbols; so many times
unfoldable pub records : (T N : ℕ) → ℕ → (List Production → Rest) → Rest
records T N zero next = next []
records T N (suc p) next =
    marked 80 82
    (wanted 0 N refusals.Symbol λ A.
    wanted 0 (suc most_symbols) refusals.Limit λ l.
    symbols T N l λ form.
    records T N p λ rest.
    next (record { left = A; right = form } ∷ rest))

unfoldable pub ending : Grammar → Rest
ending g [] at = reads g
ending g (b ∷ bs) at = refused refusals.Extra at

-- `GR`, T, N, start, P, the records, the end
unfoldable pub spells : List ℕ → Spelling
spells bs =
    marked 71 82
    (wanted 1 (suc most_tokens) refusals.Limit λ T.
    wanted 1 (suc most_nonterminals) refusals.Limit λ N.
    wanted 0 N refusals.Limit λ start.
    wanted 1 (suc most_productions) refusals.Limit λ P.
    records T N P λ productions.
    ending (record { tokens = T; nonterminals = N; start = start; productions = productions }))
    bs 0

unfoldable pub byte_of : Symbol → ℕ
byte_of (Token t) = t
byte_of (Nonterminal n) = 128 + n

unfoldable pub record_bytes : Production → List ℕ
record_bytes r = 80 ∷ (82 ∷ (r.left ∷ (length r.right ∷ map byte_of r.right)))

unfoldable pub records_bytes : List Production → List ℕ
records_bytes [] = []
records_bytes (r ∷ rest) = record_bytes r ++ records_bytes rest

-- the bytes that spell a grammar
unfoldable pub bytes_of : Grammar → List ℕ
bytes_of g =
    71 ∷ (82 ∷ (g.tokens ∷ (g.nonterminals ∷ (g.start ∷ (length g.productions ∷ records_bytes g.productions)))))

-- a grammar that a book can hold
pub record Limits (g : Grammar) : Type 0 where
  pub some_token : 1 ≤ g.tokens
  pub tokens_fit : g.tokens ≤ most_tokens
  pub some_nonterminal : 1 ≤ g.nonterminals
  pub nonterminals_fit : g.nonterminals ≤ most_nonterminals
  pub some_production : 1 ≤ length g.productions
  pub productions_fit : length g.productions ≤ most_productions
  pub lengths_fit : {p A : ℕ} {β : Form} → Rule g p A β → length β ≤ most_symbols
  pub well_formed : WellFormed g

-- the bytes can be continued to a book that reads
pub record Continued (bytes : List ℕ) : Type 0 where
  pub more : List ℕ
  pub to : Grammar
  pub read : spells (bytes ++ more) ≡ reads to
