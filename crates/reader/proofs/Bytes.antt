-- One byte of a book: which symbol it is, and how a reader takes it.
use mathlib.Core.Path.{◌≡◌, refl, ◌∙◌, ap}
use mathlib.Core.Bool.{Bool, true, false}
use mathlib.Core.List.{List, [], ◌∷◌}
use mathlib.Core.Option.{Option, some, none}
use Prim.Native.Nat.{ℕ, suc, ◌+◌, ◌-◌, ◌≤◌, ◌<◌}
use native.Mathlib.Omega.{arith}
use lib.Dec.{leb, ltb}
use borrow.Author.Tests.{ltb-true, leb-true, lt-ltb, le-ltb, le-leb}
use Rattle.grammar.specs.declared.Symbol.{Symbol}
use Rattle.grammar.specs.declared.Symbol.TheVariants.{Token, Nonterminal}
use Rattle.grammar.specs.Grammar.{Form, Grammar, Known, known_token, known_nonterminal}
use Rattle.answers.specs.Limits.{most_tokens}
use Rattle.answers.specs.declared.refusals.Refusal.{Refusal}
use Rattle.answers.specs.declared.refusals.Refusal.TheVariants as refusals
use Rattle.reader.specs.Book.{Spelling, refused, reads, Rest, wanted, marked, symbol_of, symbols, byte_of}

pub refused_not_reads : {x : Spelling} {why : Refusal} {k : ℕ} {g : Grammar} → x ≡ refused why k → x ≡ reads g → ⊥
refused_not_reads e f = cc

-- the symbol's byte reads as the symbol
abbrev pub Spelled : (T N : ℕ) → Symbol → Type 0
Spelled T N s = symbol_of T N (byte_of s) ≡ some s

pub token_spelled : (T N t : ℕ) → t < T → Spelled T N (Token t)
unfolding symbol_of byte_of
token_spelled T N t h = rw (lt-ltb t T h, symbol_of)

module _ {g : Grammar} where
  -- the byte of a known symbol is that symbol
  pub symbol_of_byte_of : {s : Symbol} → g.tokens ≤ most_tokens → Known g s → symbol_of g.tokens g.nonterminals (byte_of s) ≡ some s
  unfolding symbol_of byte_of
  symbol_of_byte_of fit (known_token {t = t} h) = token_spelled g.tokens g.nonterminals t h
  symbol_of_byte_of fit (known_nonterminal {A = A} h) =
      let back : 128 + A - 128 ≡ A = omega arith in
      rw (le-ltb (128 + A) g.tokens (omega arith), le-leb 128 (128 + A) (omega arith), back, lt-ltb A g.nonterminals h, symbol_of)
      (ap (λ (n : ℕ). some (Nonterminal n)) back)

  -- a byte that is a symbol is the byte of that symbol, and the symbol is known
  pub symbol_of_known : (b : ℕ) {s : Symbol} → symbol_of g.tokens g.nonterminals b ≡ some s → (b ≡ byte_of s) × Known g s
  unfolding symbol_of byte_of
  symbol_of_known b {s} e = by_tests (ltb b g.tokens) (leb 128 b) (ltb (b - 128) g.nonterminals) refl refl refl
    where
      by_tests : (x y z : Bool) → ltb b g.tokens ≡ x → leb 128 b ≡ y → ltb (b - 128) g.nonterminals ≡ z → (b ≡ byte_of s) × Known g s
      by_tests true y z f h k = let same : Token b ≡ s = cc in rw (← same) (refl, known_token (ltb-true b g.tokens f))
      by_tests false true true f h k =
          let same : Nonterminal (b - 128) ≡ s = cc in
          let high : 128 ≤ b = leb-true 128 b h in
          rw (← same) (omega arith, known_nonterminal (ltb-true (b - 128) g.nonterminals k))
      by_tests false true false f h k = let bad : ◌≡◌ {A = ℕ} 0 1 = cc in absurd (omega arith)
      by_tests false false z f h k = let bad : ◌≡◌ {A = ℕ} 0 1 = cc in absurd (omega arith)

module _ {A : Type 0} (byte : A → ℕ) (Fine : A → Type 0) (next : A → Rest) (why : Refusal) (r : Rest) where
  -- a byte that stands for some a, or is refused
  pub data Look : ℕ → Type 0 where
    taken : (a : A) → Fine a → Look (byte a)
    turned : (b : ℕ) → ((bs : List ℕ) (at : ℕ) → r (b ∷ bs) at ≡ refused why at) → Look b

  -- the reader wants one byte that stands for some a, then goes on as `next a`
  pub record Takes : Type 0 where
    pub missing : (at : ℕ) → r [] at ≡ refused refusals.Short at
    pub goes : (a : A) → Fine a → (bs : List ℕ) (at : ℕ) → r (byte a ∷ bs) at ≡ next a bs (suc at)
    pub look : (b : ℕ) → Look b

pub wanted_takes : (low high : ℕ) (why : Refusal) {next : ℕ → Rest} → Takes (λ b. b) (λ b. (low ≤ b) × (b < high)) next why (wanted low high why next)
unfolding wanted
wanted_takes low high why {next} =
    record {
      missing = λ at. refl;
      goes = λ b fine bs at. rw (le-leb low b fine.0, lt-ltb b high fine.1, wanted);
      look = λ b. by_tests b (leb low b) (ltb b high) refl refl;
    }
  where
    by_tests : (b : ℕ) (x y : Bool) → leb low b ≡ x → ltb b high ≡ y → Look (λ b. b) (λ b. (low ≤ b) × (b < high)) next why (wanted low high why next) b
    by_tests b true true e f = taken b (leb-true low b e, ltb-true b high f)
    by_tests b true false e f = turned b (λ bs at. rw (e, f, wanted))
    by_tests b false y e f = turned b (λ bs at. rw (e, wanted))

pub symbols_takes : (T N l : ℕ) (next : Form → Rest) → Takes byte_of (Spelled T N) (λ s. symbols T N l (λ form. next (s ∷ form))) refusals.Symbol (symbols T N (suc l) next)
unfolding symbols
symbols_takes T N l next =
    record {
      missing = λ at. refl;
      goes = λ s spelled bs at. rw (spelled, symbols);
      look = λ b. by_symbol b (symbol_of T N b) refl;
    }
  where
    by_symbol : (b : ℕ) (x : Option Symbol) → symbol_of T N b ≡ x → Look byte_of (Spelled T N) (λ s. symbols T N l (λ form. next (s ∷ form))) refusals.Symbol (symbols T N (suc l) next) b
    by_symbol b none e = turned b (λ bs at. rw (e, symbols))
    by_symbol b (some s) e =
        let same : b ≡ byte_of s = (symbol_of_known {g = record { tokens = T; nonterminals = N; start = 0; productions = [] }} b e).0 in
        let spelled : Spelled T N s = rw same at e in
        rw same (taken s spelled)

-- a byte within the range wanted is taken
pub wanted_taken : (low high b : ℕ) (why : Refusal) (next : ℕ → Rest) → low ≤ b → b < high → (bs : List ℕ) (at : ℕ) → wanted low high why next (b ∷ bs) at ≡ next b bs (suc at)
wanted_taken low high b why next h k = (wanted_takes low high why).goes b (h, k)

pub marked_taken : (one other : ℕ) (next : Rest) (bs : List ℕ) (at : ℕ) → marked one other next (one ∷ (other ∷ bs)) at ≡ next bs (suc (suc at))
unfolding marked
marked_taken one other next bs at =
    wanted_taken one (suc one) one refusals.Mark (λ _. wanted other (suc other) refusals.Mark (λ _. next)) (omega arith) (omega arith) (other ∷ bs) at
    ∙ wanted_taken other (suc other) other refusals.Mark (λ _. next) (omega arith) (omega arith) bs (suc at)
