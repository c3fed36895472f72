-- A symbol string whose bytes are symbols of a grammar, and the form that it spells.
use mathlib.Core.Path.{◌≡◌, refl, ◌∙◌, subst}
use mathlib.Core.List.{List, [], ◌∷◌, map}
use mathlib.Core.Option.{Option, some, none, none-ne-some}
use Prim.Native.Nat.{ℕ, suc, ◌-◌, ◌<◌}
use native.Mathlib.Decide.{dec_lt}
use native.Mathlib.Omega.{arith}
use lib.ListN.{length, get_or}
use borrow.Author.Tests.{lt-ltb, le-ltb, le-leb, lt-leb}
use Rattle.grammar.specs.declared.Symbol.{Symbol}
use Rattle.grammar.specs.declared.Symbol.TheVariants.{Token, Nonterminal}
use Rattle.grammar.specs.Grammar.{Form, Grammar, Every, nothing, each, Known, known_token, known_nonterminal}
use Rattle.reader.specs.Fields.{symbol_of_byte}
use Rattle.reader.specs.Book.{Limits, symbol_of, IsSymbol}
use Rattle.reader.proofs.Promise.{symbol_token, symbol_nonterminal}
use Rattle.first.specs.Trail.{form_of}

module _ {g : Grammar} (limits : Limits g) where
  -- a symbol of the grammar is the one that its byte stands for, and is known
  symbol_is : (byte : ℕ) {s : Symbol} → symbol_of g.tokens g.nonterminals byte ≡ some s → (symbol_of_byte byte ≡ s) × Known g s
  unfolding symbol_of
  symbol_is byte {s} e = go (dec_lt byte g.tokens) (dec_lt byte 128) (dec_lt (byte - 128) g.nonterminals)
    where
      go : Dec (byte < g.tokens) → Dec (byte < 128) → Dec (byte - 128 < g.nonterminals) → (symbol_of_byte byte ≡ s) × Known g s
      go (yes l) h n =
          let is : some (Token byte) ≡ some s = rw (lt-ltb byte g.tokens l, symbol_of) at e in
          let same : Token byte ≡ s = cc in
          (symbol_token byte (omega (arith, limits.tokens_fit)) ∙ same, subst (Known g) same (known_token l))
      go (no l) (yes h) n = absurd (none-ne-some s (rw (le-ltb byte g.tokens (omega arith), lt-leb 128 byte h, symbol_of) at e))
      go (no l) (no h) (yes n) =
          let is : some (Nonterminal (byte - 128)) ≡ some s = rw (le-ltb byte g.tokens (omega arith), le-leb 128 byte (omega arith), lt-ltb (byte - 128) g.nonterminals n, symbol_of) at e in
          let same : Nonterminal (byte - 128) ≡ s = cc in
          (symbol_nonterminal byte (omega arith) ∙ same, subst (Known g) same (known_nonterminal n))
      go (no l) (no h) (no n) = absurd (none-ne-some s (rw (le-ltb byte g.tokens (omega arith), le-leb 128 byte (omega arith), le-ltb (byte - 128) g.nonterminals (omega arith), symbol_of) at e))

-- an Option that is not nothing is something
pub something : {A : Type 0} (o : Option A) → ¬ ¬ ((a : A) × (o ≡ some a)) → (a : A) × (o ≡ some a)
something none h = absurd (h (λ found. none-ne-some found.0 found.1))
something (some a) h = (a, refl)

-- the form that a symbol string spells
pub record Spells (g : Grammar) (symbols : List ℕ) : Type 0 where
  pub form : Form
  pub spelled : map (symbol_of g.tokens g.nonterminals) symbols ≡ map some form
  pub known : Every (Known g) form
  pub is : form_of symbols ≡ form

pub spells : {g : Grammar}
    → Limits g
    → (symbols : List ℕ)
    → ((i : ℕ) → i < length symbols → IsSymbol g.tokens g.nonterminals (get_or symbols i 0))
    → Spells g symbols
spells limits [] h = record { form = []; spelled = refl; known = nothing; is = refl }
spells limits (x ∷ xs) h =
    let (s, e) = h 0 (omega arith) in
    let (is, known) = symbol_is limits x e in
    let rest = spells limits xs (λ i below. h (suc i) (omega arith)) in
    let behind = rest.is in
    let mapped = rest.spelled in
    record {
      form = s ∷ rest.form;
      spelled = cc;
      known = each known rest.known;
      is = cc;
    }
