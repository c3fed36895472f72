-- How the right side of a production starts, by the bytes of its record.
use mathlib.Core.Path.{◌≡◌, refl, sym, ◌∙◌, ap, subst, subst₂}
use mathlib.Core.Logic.{◌≢◌}
use mathlib.Core.List.{List, [], ◌∷◌}
use Prim.Native.Nat.{ℕ, zero, suc, ◌-◌, ◌≤◌, ◌<◌}
use native.Mathlib.Decide.{dec_lt}
use native.Mathlib.Omega.{arith}
use lib.ListN.{get_or}
use Rattle.grammar.specs.declared.Symbol.{Symbol}
use Rattle.grammar.specs.declared.Symbol.TheVariants.{Token, Nonterminal}
use Rattle.grammar.specs.Grammar.{Form, Rule}
use Rattle.grammar.specs.Plain.{Breaks, bare, named, again}
use Rattle.grammar.proofs.Leftmost.{rule_same}
use Rattle.reader.specs.Fields.{left_at, length_at, head_at, right_at, symbol_of_byte, form_in}
use Rattle.reader.proofs.Promise.{symbol_token, symbol_nonterminal}
use Rattle.book.specs.declared.columns.Outline.{Outline}
use Rattle.book.specs.Columns.{production_at, outlined}
use Rattle.book.proofs.Promise.{production_found, production_missing}

form_bare : (bytes : List ℕ) (from : ℕ) {count : ℕ} → count ≡ 0 → form_in bytes from count ≡ []
unfolding form_in
form_bare bytes from none = rw none

form_head : (bytes : List ℕ) (from count : ℕ) → count ≢ 0 → (γ : Form) × (form_in bytes from count ≡ symbol_of_byte (get_or bytes from 0) ∷ γ)
unfolding form_in
form_head bytes from zero some_symbol = absurd (some_symbol refl)
form_head bytes from (suc count) some_symbol = (form_in bytes (suc from) count, refl)

module _ (book places : List ℕ) (o : Outline) where
  -- the left side of a production, the length of its right side, and the byte where that starts
  abbrev pub left_in : ℕ → ℕ
  left_in p = left_at book (get_or places p 0)

  abbrev pub length_in : ℕ → ℕ
  length_in p = length_at book (get_or places p 0)

  abbrev pub head_in : ℕ → ℕ
  head_in p = head_at book (get_or places p 0)

  rule_there : {p : ℕ} → p < o.productions → Rule (outlined book places o) p (left_in p) (right_at book (get_or places p 0))
  unfolding production_at
  rule_there inside = record { at = production_found book places o inside }

  -- a production has a number below P
  pub rule_inside : {p A : ℕ} {β : Form} → Rule (outlined book places o) p A β → p < o.productions
  rule_inside {p} {A} {β} rule = go (dec_lt p o.productions)
    where
      go : Dec (p < o.productions) → p < o.productions
      go (yes inside) = inside
      go (no n) =
          let missing = production_missing book places o {p = p} (omega arith) in
          let there = rule.at in
          let bad : ◌≡◌ {A = ℕ} 0 1 = cc in absurd (omega arith)

  module _ {p : ℕ} (inside : p < o.productions) where
    rule_with : {β : Form} → right_at book (get_or places p 0) ≡ β → Rule (outlined book places o) p (left_in p) β
    rule_with same = subst (λ (β : Form). Rule (outlined book places o) p (left_in p) β) same (rule_there inside)

    pub bare_rule : length_in p ≡ 0 → Rule (outlined book places o) p (left_in p) []
    bare_rule none = rule_with (form_bare book _ none)

    module _ (some_symbol : length_in p ≢ 0) where
      starts_with : {s : Symbol} → symbol_of_byte (head_in p) ≡ s → (γ : Form) × Rule (outlined book places o) p (left_in p) (s ∷ γ)
      starts_with same =
          let (γ, e) = form_head book _ (length_in p) some_symbol in
          (γ, rule_with (e ∙ ap (λ (s : Symbol). s ∷ γ) same))

      pub token_rule : head_in p < 128 → (γ : Form) × Rule (outlined book places o) p (left_in p) (Token (head_in p) ∷ γ)
      token_rule low = starts_with (symbol_token (head_in p) low)

      pub named_rule : 128 ≤ head_in p → (γ : Form) × Rule (outlined book places o) p (left_in p) (Nonterminal (head_in p - 128) ∷ γ)
      named_rule high = starts_with (symbol_nonterminal (head_in p) high)

    -- an empty right side, or one that starts with a nonterminal, breaks the profile
    pub bare_breaks : length_in p ≡ 0 → Breaks (outlined book places o) p
    bare_breaks none = bare (bare_rule none)

    pub named_breaks : length_in p ≢ 0 → 128 ≤ head_in p → Breaks (outlined book places o) p
    named_breaks some_symbol high = named (named_rule some_symbol high).1

    -- a right side that starts with a token has its byte there
    pub token_byte : {A t : ℕ} {α : Form} → Rule (outlined book places o) p A (Token t ∷ α) → (left_in p ≡ A) × (length_in p ≢ 0) × (head_in p ≡ t) × (head_in p < 128)
    token_byte {A} {t} {α} rule = go (dec_lt 0 (length_in p)) (dec_lt (head_in p) 128)
      where
        go : Dec (0 < length_in p) → Dec (head_in p < 128) → (left_in p ≡ A) × (length_in p ≢ 0) × (head_in p ≡ t) × (head_in p < 128)
        go (no n) d =
            let (left, right) = rule_same (bare_rule (omega arith)) rule in
            let bad : ◌≡◌ {A = ℕ} 0 1 = cc in absurd (omega arith)
        go (yes h) (no n) =
            let (left, right) = rule_same (named_rule (λ e. omega arith) (omega arith)).1 rule in
            let bad : ◌≡◌ {A = ℕ} 0 1 = cc in absurd (omega arith)
        go (yes h) (yes low) =
            let (left, right) = rule_same (token_rule (λ e. omega arith) low).1 rule in
            let same : head_in p ≡ t = cc in
            (left, λ e. omega arith, same, low)

    -- and what does not break the profile starts so
    pub kept_token : ¬ Breaks (outlined book places o) p → (γ : Form) × Rule (outlined book places o) p (left_in p) (Token (head_in p) ∷ γ)
    kept_token keeps = go (dec_lt 0 (length_in p)) (dec_lt (head_in p) 128)
      where
        go : Dec (0 < length_in p) → Dec (head_in p < 128) → (γ : Form) × Rule (outlined book places o) p (left_in p) (Token (head_in p) ∷ γ)
        go (no n) d = absurd (keeps (bare_breaks (omega arith)))
        go (yes h) (no n) = absurd (keeps (named_breaks (λ e. omega arith) (omega arith)))
        go (yes h) (yes low) = token_rule (λ e. omega arith) low

  module _ {p : ℕ} (inside : p < o.productions) (some_symbol : length_in p ≢ 0) (low : head_in p < 128) where
    -- with a lower one of the same left side and first token it breaks the profile
    pub shared_breaks : {q : ℕ} → q < p → ¬ Breaks (outlined book places o) q → left_in q ≡ left_in p → head_in q ≡ head_in p → Breaks (outlined book places o) p
    shared_breaks {q} below keeps left head =
        let (γ, lower) = kept_token {p = q} (omega arith) keeps in
        again below (subst₂ (λ (A t : ℕ). Rule (outlined book places o) q A (Token t ∷ γ)) left head lower) (token_rule inside some_symbol low).1

    -- and by nothing else
    pub alone_keeps : ((q : ℕ) → q < p → left_in q ≡ left_in p → head_in q ≡ head_in p → ⊥) → ¬ Breaks (outlined book places o) p
    alone_keeps alone (bare rule) =
        let (left, right) = rule_same (token_rule inside some_symbol low).1 rule in
        let bad : ◌≡◌ {A = ℕ} 0 1 = cc in omega arith
    alone_keeps alone (named rule) =
        let (left, right) = rule_same (token_rule inside some_symbol low).1 rule in
        let bad : ◌≡◌ {A = ℕ} 0 1 = cc in omega arith
    alone_keeps alone (again {q = q} below lower rule) =
        let (left, filled, head, small) = token_byte inside rule in
        let (other_left, other_filled, other_head, other_small) = token_byte {p = q} (omega arith) lower in
        alone q below (other_left ∙ sym left) (other_head ∙ sym head)
