-- The bytes of the header of a book that spells a grammar are the grammar's numbers.
use mathlib.Core.Path.{◌≡◌, refl, ap}
use mathlib.Core.Bool.{Bool, true, false, ◌&&◌}
use mathlib.Core.List.{List, [], ◌∷◌}
use mathlib.Core.Option.{Option, some, none}
use Prim.Native.Nat.{ℕ, zero, suc}
use native.Mathlib.Omega.{arith}
use lib.Dec.{leb, ltb}
use lib.ListN.{length}
use Rattle.grammar.specs.declared.Symbol.{Symbol}
use Rattle.grammar.specs.Grammar.{Form, Production, Grammar}
use Rattle.answers.specs.declared.refusals.Refusal.{Refusal}
use Rattle.answers.specs.declared.refusals.Refusal.TheVariants as refusals
use Rattle.reader.specs.Book.{Spelling, refused, reads, Rest, wanted, marked, symbol_of, symbols, records, ending, spells}
use Rattle.book.specs.Judging.{Serves}
use Rattle.listing.specs.Writing.{header_in, HeaderOf}

-- whatever follows from how reading goes on follows from a grammar that is read
module _ (g : Grammar) (Q : Type 0) where
  never : (why : Refusal) (place : ℕ) → refused why place ≡ reads g → Q
  never why place e = let bad : ◌≡◌ {A = ℕ} 0 1 = cc in absurd (omega arith)

  -- a byte that is wanted is there
  on_wanted : (low high : ℕ) (why : Refusal) (next : ℕ → Rest) (bytes : List ℕ) (at : ℕ)
      → ((byte : ℕ) (rest : List ℕ) → bytes ≡ byte ∷ rest → next byte rest (suc at) ≡ reads g → Q)
      → wanted low high why next bytes at ≡ reads g
      → Q
  unfolding wanted
  on_wanted low high why next [] at on e = never _ _ e
  on_wanted low high why next (b ∷ bytes) at on e = by_test (leb low b && ltb b high) e
    where
      by_test : (fits : Bool)
          → elim fits as (λ fits. Spelling) [ true ↦ next b bytes (suc at) | false ↦ refused why at ] ≡ reads g
          → Q
      by_test true e = on b bytes refl e
      by_test false e = never _ _ e

  on_symbols : (T N count : ℕ) (next : Form → Rest) (bytes : List ℕ) (at : ℕ)
      → ((form : Form) (bytes : List ℕ) (at : ℕ) → next form bytes at ≡ reads g → Q)
      → symbols T N count next bytes at ≡ reads g
      → Q
  unfolding symbols
  on_symbols T N zero next bytes at on e = on [] bytes at e
  on_symbols T N (suc count) next [] at on e = never _ _ e
  on_symbols T N (suc count) next (b ∷ bytes) at on e =
      by_symbol (symbol_of T N b) (λ s. on_symbols T N count (λ form. next (s ∷ form)) bytes (suc at) (λ form. on (s ∷ form))) e
    where
      by_symbol : (o : Option Symbol)
          → ((s : Symbol) → symbols T N count (λ form. next (s ∷ form)) bytes (suc at) ≡ reads g → Q)
          → elim o as (λ o. Spelling) [ none ↦ refused refusals.Symbol at | some s ↦ symbols T N count (λ form. next (s ∷ form)) bytes (suc at) ] ≡ reads g
          → Q
      by_symbol none on e = never _ _ e
      by_symbol (some s) on e = on s e

  -- as many records are read as the header says
  on_records : (T N count : ℕ) (next : List Production → Rest) (bytes : List ℕ) (at : ℕ)
      → ((productions : List Production) → length productions ≡ count → (bytes : List ℕ) (at : ℕ) → next productions bytes at ≡ reads g → Q)
      → records T N count next bytes at ≡ reads g
      → Q
  unfolding records marked
  on_records T N zero next bytes at on e = on [] refl bytes at e
  on_records T N (suc count) next bytes at on e =
      on_wanted _ _ _ _ _ _ (λ b bs is₁.
      on_wanted _ _ _ _ _ _ (λ b bs is₂.
      on_wanted _ _ _ _ _ _ (λ A bs is₃.
      on_wanted _ _ _ _ _ _ (λ l bs is₄.
      on_symbols T N l _ _ _ (λ form bs at.
      on_records T N count _ bs at (λ rest sized. on (record { left = A; right = form } ∷ rest) (ap suc sized)))))))
      e

  on_ending : (h : Grammar) (bytes : List ℕ) (at : ℕ) → (h ≡ g → Q) → ending h bytes at ≡ reads g → Q
  unfolding ending
  on_ending h [] at on e = on (cc)
  on_ending h (b ∷ bytes) at on e = never _ _ e

-- so the numbers of a served book stand behind its mark
pub serves_header : (book : List ℕ) {g : Grammar} → Serves book g → HeaderOf g (header_in book)
unfolding spells marked header_in
serves_header book {g} s =
    let Q : Type 0 = HeaderOf g (header_in book) in
    on_wanted g Q _ _ _ _ _ _ (λ one r₁ is₁.
    on_wanted g Q _ _ _ _ _ _ (λ two r₂ is₂.
    on_wanted g Q _ _ _ _ _ _ (λ T r₃ is₃.
    on_wanted g Q _ _ _ _ _ _ (λ N r₄ is₄.
    on_wanted g Q _ _ _ _ _ _ (λ start r₅ is₅.
    on_wanted g Q _ _ _ _ _ _ (λ P r₆ is₆.
    on_records g Q T N P _ _ _ (λ productions sized bytes at.
    on_ending g Q _ bytes at (λ same.
    let whole : book ≡ one ∷ (two ∷ (T ∷ (N ∷ (start ∷ (P ∷ r₆))))) = cc in
    record {
      tokens = rw whole (ap (λ (h : Grammar). h.tokens) same);
      nonterminals = rw whole (ap (λ (h : Grammar). h.nonterminals) same);
      start = rw whole (ap (λ (h : Grammar). h.start) same);
      productions = rw (whole, ← sized) (ap (λ (h : Grammar). length h.productions) same);
    }))))))))
    s.read
