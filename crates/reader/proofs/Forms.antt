-- Forms as bytes spell them, symbol by symbol and by position, and which bytes are symbols.
use mathlib.Core.Path.{◌≡◌, refl}
use mathlib.Core.Bool.{Bool, true, false}
use mathlib.Core.List.{List, [], ◌∷◌}
use mathlib.Core.Option.{some, none-ne-some}
use Prim.Native.Nat.{ℕ, zero, suc, ◌+◌, ◌-◌, ◌≤◌, ◌<◌}
use native.Mathlib.Decide.{dec_lt}
use native.Mathlib.Nat.{add-zero, sub_self, sub-zero, zero-sub, suc-sub-suc}
use native.Mathlib.Omega.{arith}
use lib.Dec.{ltb}
use borrow.Author.Tests.{lt-ltb, le-ltb, le-leb, lt-leb}
use lib.ListN.{length, drop, get_or, get_elem?}
use Rattle.grammar.specs.declared.Symbol.{Symbol}
use Rattle.grammar.specs.declared.Symbol.TheVariants.{Token, Nonterminal}
use Rattle.grammar.specs.Grammar.{Form, Every, each}
use Rattle.sets.specs.Calls.{Decides}
use Rattle.reader.specs.Book.{symbol_of, IsSymbol, byte_of}
use Rattle.reader.specs.Fields.{symbol_of_byte, form_in}

module _ (bytes : List ℕ) where
  -- one symbol, and what lies behind it
  pub form_next : (from count j : ℕ) → j < count → form_in bytes (from + j) (count - j) ≡ symbol_of_byte (get_or bytes (from + j) 0) ∷ form_in bytes (from + (j + 1)) (count - (j + 1))
  unfolding form_in
  form_next from count j inside =
      let left : count - j ≡ suc (count - (j + 1)) = omega arith in
      let next : suc (from + j) ≡ from + (j + 1) = omega arith in
      rw (left, ← next)

  -- one symbol more, from the right
  pub form_turn : (from count j : ℕ) → 0 < j → j ≤ count → form_in bytes (from + (j - 1)) (count - (j - 1)) ≡ symbol_of_byte (get_or bytes (from + (j - 1)) 0) ∷ form_in bytes (from + j) (count - j)
  form_turn from count j positive inside =
      let next : j - 1 + 1 ≡ j = omega arith in
      rw next at (form_next from count (j - 1) (omega arith))

  -- nothing lies behind the last
  pub form_past : (from count j : ℕ) → count ≤ j → form_in bytes (from + j) (count - j) ≡ []
  unfolding form_in
  form_past from count j h = let none : count - j ≡ 0 = omega arith in rw none

  -- none yet
  pub form_none : (from count : ℕ) → form_in bytes (from + count) (count - count) ≡ []
  unfolding form_in
  form_none from count = rw sub_self

  -- from a position on it is what is left when so many symbols are dropped
  pub form_dropped : (from count n : ℕ) → form_in bytes (from + n) (count - n) ≡ drop n (form_in bytes from count)
  unfolding form_in
  form_dropped from count zero = rw (add-zero, sub-zero)
  form_dropped from zero (suc n) = rw zero-sub
  form_dropped from (suc count) (suc n) = let next : from + suc n ≡ suc from + n = omega arith in rw (next, suc-sub-suc) (form_dropped (suc from) count n)

  pub every_in : {P : Symbol → Type 0} (from count : ℕ) → Every P (form_in bytes from count) → (j : ℕ) → j < count → P (symbol_of_byte (get_or bytes (from + j) 0))
  unfolding form_in
  every_in from zero e j h = absurd (omega arith)
  every_in from (suc count) (each p e) zero h = rw add-zero p
  every_in from (suc count) (each p e) (suc j) h = let next : from + suc j ≡ suc from + j = omega arith in rw next (every_in (suc from) count e j (omega arith))

  -- bytes that stand for the symbols of a form, one by one, spell it
  pub form_spelled : (from : ℕ) (β : Form) → ((i : ℕ) (s : Symbol) → get_elem? β i ≡ some s → symbol_of_byte (get_or bytes (from + i) 0) ≡ s) → form_in bytes from (length β) ≡ β
  unfolding form_in
  form_spelled from [] h = refl
  form_spelled from (s ∷ β) h =
      let head : symbol_of_byte (get_or bytes from 0) ≡ s = rw add-zero at (h 0 s refl) in
      let rest : form_in bytes (suc from) (length β) ≡ β = form_spelled (suc from) β (λ i t e. let next : suc from + i ≡ from + suc i = omega arith in rw next (h (suc i) t e)) in
      cc

module _ (byte : ℕ) where
  pub symbol_token : byte < 128 → symbol_of_byte byte ≡ Token byte
  unfolding symbol_of_byte
  symbol_token h = rw (lt-ltb byte 128 h, symbol_of_byte)

  pub symbol_nonterminal : 128 ≤ byte → symbol_of_byte byte ≡ Nonterminal (byte - 128)
  unfolding symbol_of_byte
  symbol_nonterminal h = rw (le-ltb byte 128 h, symbol_of_byte)

-- a byte is the byte of the symbol that it spells
pub byte_of_symbol : (b : ℕ) → byte_of (symbol_of_byte b) ≡ b
unfolding byte_of symbol_of_byte
byte_of_symbol b = go (dec_lt b 128)
  where
    go : Dec (b < 128) → byte_of (symbol_of_byte b) ≡ b
    go (yes h) = rw (lt-ltb b 128 h, symbol_of_byte, byte_of)
    go (no n) = let h : 128 ≤ b = omega arith in rw (le-ltb b 128 h, symbol_of_byte, byte_of) (omega arith)

-- a byte below T is a token, one from 128 on a nonterminal if that is below N, and no other is a symbol
module _ (T N byte : ℕ) where
  pub symbol_low : byte < T → IsSymbol T N byte
  unfolding symbol_of
  symbol_low h = (Token byte, rw (lt-ltb byte T h, symbol_of))

  pub symbol_high : T ≤ byte → 128 ≤ byte → Decides (ltb (byte - 128) N) (IsSymbol T N byte)
  unfolding symbol_of
  symbol_high h k = go (ltb (byte - 128) N) refl
    where
      go : (b : Bool) → ltb (byte - 128) N ≡ b → Decides b (IsSymbol T N byte)
      go true e = (Nonterminal (byte - 128), rw (le-ltb byte T h, le-leb 128 byte k, e, symbol_of))
      go false e = λ found. none-ne-some found.0 (rw (le-ltb byte T h, le-leb 128 byte k, e, symbol_of) at found.1)

  pub symbol_none : T ≤ byte → byte < 128 → ¬ IsSymbol T N byte
  unfolding symbol_of
  symbol_none h k found = none-ne-some found.0 (rw (le-ltb byte T h, lt-leb 128 byte k, symbol_of) at found.1)
