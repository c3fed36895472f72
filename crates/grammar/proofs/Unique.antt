-- Determinism: each production of a leftmost derivation claims its cell, so without conflict one string has one list.
use mathlib.Core.Path.{◌≡◌, refl, sym, subst}
use mathlib.Core.List.{List, [], ◌∷◌, ◌++◌, append_assoc}
use Prim.Native.Nat.{ℕ}
use native.Mathlib.Decide.{ℕ_discrete}
use Rattle.grammar.specs.declared.Symbol.TheVariants.{Token, Nonterminal}
use Rattle.grammar.specs.Grammar.{Form, spelled, Grammar, Column, column, Rule, replace, Derives, itself, step, Sentential, Leftmost, done, shift, expand, starts, vanishes, Follow, before, last, Lookahead, first, follow, Claims, Conflict}
use Rattle.grammar.specs.Machine.{front}
use Rattle.grammar.proofs.Derivation.{derives_trans, derives_behind}
use Rattle.grammar.proofs.Leftmost.{Split, leftmost_split, leftmost_derives, rule_same}

module _ {g : Grammar} where
  -- what a form derives after A follows A
  follows : (x : Form) {A : ℕ} {α : Form} → Sentential g (x ++ (Nonterminal A ∷ α)) → (w : List ℕ) → Derives g α (spelled w) → Follow g A (column (front w))
  follows x {A} s [] d = last x (derives_trans s (derives_behind x (derives_behind (Nonterminal A ∷ []) d)))
  follows x {A} s (t ∷ w) d = before x (spelled w) (derives_trans s (derives_behind x (derives_behind (Nonterminal A ∷ []) d)))

  ahead_of : (x : Form) {A : ℕ} {α β : Form} → Sentential g (x ++ (Nonterminal A ∷ α)) → (u v : List ℕ) → Derives g β (spelled u) → Derives g α (spelled v) → Lookahead g A β (column (front (u ++ v)))
  ahead_of x s [] v d e = follow (vanishes d) (follows x s v e)
  ahead_of x s (t ∷ u) v d e = first (starts (spelled u) d)

  -- a production that leads on to a string claims the cell of the string's first column
  pub leads_claims : (x α : Form) {p A : ℕ} {β : Form} {ps w : List ℕ} → Sentential g (x ++ (Nonterminal A ∷ α)) → Rule g p A β → Leftmost g (β ++ α) ps w → Claims g A (front w) p
  leads_claims x α {p} {A} {β} {ps} {w} s r d =
      record {
        right = β;
        rule = r;
        ahead =
            let cut : Split g β α ps w = leftmost_split d β α refl in
            rw cut.strings (ahead_of x s cut.string_left cut.string_right (leftmost_derives cut.left) (leftmost_derives cut.right));
      }

  pub sentential_expand : (x α : Form) {p A : ℕ} {β : Form} → Sentential g (x ++ (Nonterminal A ∷ α)) → Rule g p A β → Sentential g (x ++ (β ++ α))
  sentential_expand x α s r = derives_trans s (step (replace x α r) itself)

  pub claims_same : ¬ Conflict g → {A : ℕ} {c : Column} {p q : ℕ} → Claims g A c p → Claims g A c q → p ≡ q
  claims_same n {A} {c} {p} {q} h k = go (ℕ_discrete p q)
    where
      go : Dec (p ≡ q) → p ≡ q
      go (yes e) = e
      go (no d) = absurd (n (record { row = A; col = c; one = p; other = q; distinct = d; claims_one = h; claims_other = k }))

  module _ (n : ¬ Conflict g) where
    unique_alike : (x : Form) {α β : Form} {ps qs w : List ℕ} → α ≡ β → Sentential g (x ++ α) → Leftmost g α ps w → Leftmost g β qs w → ps ≡ qs
    unique_alike x same s done done = refl
    unique_alike x same s (shift {t = t} {α = α} d) (shift {t = u} {α = β} e) =
        let rest : α ≡ β = cc in
        unique_alike (x ++ (Token t ∷ [])) rest (rw append_assoc s) d e
    unique_alike x same s done (expand k e) = cc
    unique_alike x same s (expand r d) done = cc
    unique_alike x same s (shift d) (expand k e) = cc
    unique_alike x same s (expand r d) (shift e) = cc
    unique_alike x same s (expand {p = p} {A = A} {α = α} {β = β} {ps = ps} r d) (expand {p = q} {A = B} {α = δ} {β = γ} {ps = qs} k e) =
        let row : B ≡ A = cc in
        let behind : α ≡ δ = cc in
        let on : Rule g q A γ = subst (λ (o : ℕ). Rule g q o γ) row k in
        let there : Leftmost g (γ ++ α) qs _ = rw behind e in
        let number : q ≡ p = claims_same n (leads_claims x α s on there) (leads_claims x α s r d) in
        let right : β ≡ γ = sym (rule_same (subst (λ (o : ℕ). Rule g o A γ) number on) r).1 in
        let rest : ps ≡ qs = unique_alike x (cc) (sentential_expand x α s r) d e in
        cc

    pub unique_from : (x : Form) {α : Form} {ps qs w : List ℕ} → Sentential g (x ++ α) → Leftmost g α ps w → Leftmost g α qs w → ps ≡ qs
    unique_from x s d e = unique_alike x refl s d e
