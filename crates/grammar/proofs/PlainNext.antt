-- What can come where a plain grammar's machine stops: nothing was listed since the last match, and the top of the stack says it all.
use mathlib.Core.Path.{◌≡◌, refl, sym, ◌∙◌, ap, subst, subst₂}
use mathlib.Core.Logic.{◌↔◌}
use mathlib.Core.List.{List, [], ◌∷◌, ◌++◌}
use mathlib.Core.Option.{Option, some}
use Prim.Native.Nat.{ℕ}
use native.Mathlib.Omega.{arith}
use lib.ListN.{length, length-append}
use Rattle.grammar.specs.declared.Symbol.TheVariants.{Token, Nonterminal}
use Rattle.grammar.specs.Grammar.{Form, Grammar, Column, token, endmark, empty, Rule, replace, Derives, itself, step, Sentential, First, starts, vanishes, Claims}
use Rattle.grammar.specs.Machine.{front, Exact, Run, here, match, expand, Stopped}
use Rattle.grammar.specs.Plain.{Plain}
use Rattle.grammar.proofs.Derivation.{derives_rule}
use Rattle.grammar.proofs.Join.{over, ended, begins, past}
use Rattle.grammar.proofs.Join as joins
use Rattle.grammar.proofs.Sets.{FirstOf}
use Rattle.grammar.proofs.Machine.{claims_cell}
use Rattle.grammar.proofs.Chains.{claimed_by, derives_longer}
use Rattle.grammar.proofs.Next.{CanCome, stuck_vanishes}
use Rattle.grammar.proofs.Plain.{token_kept, plain_claims, plain_filled}

-- what the top of a stack asks for: the end mark where there is none, its token, or a column whose cell in its row is filled
pub data AsksFor (cell : ℕ → Column → Option ℕ) : Form → Column → Type 0 where
  asks_end : AsksFor cell [] endmark
  asks_token : {t : ℕ} {α : Form} → AsksFor cell (Token t ∷ α) (token t)
  asks_row : {p A : ℕ} {α : Form} {c : Column} → cell A c ≡ some p → AsksFor cell (Nonterminal A ∷ α) c

module _ {g : Grammar} (plain : Plain g) where
  -- no nonterminal vanishes
  stays : {A : ℕ} → ¬ First g (Nonterminal A ∷ []) empty
  stays (vanishes d) = omega (arith, derives_longer (plain_filled plain) d)

  right_stays : {p A : ℕ} {γ : Form} → Rule g p A γ → ¬ First g γ empty
  right_stays r (vanishes d) = let (t, δ, e) = plain.headed r in omega (arith, derives_longer (plain_filled plain) d, ap length e)

  -- FIRST of a nonterminal are the tokens that its right sides start with
  first_rule : {A t : ℕ} {α γ δ : Form} → Derives g α γ → α ≡ Nonterminal A ∷ [] → γ ≡ Token t ∷ δ → (p : ℕ) × (β : Form) × Rule g p A (Token t ∷ β)
  first_rule itself e f = let bad : ◌≡◌ {A = ℕ} 0 1 = cc in absurd (omega arith)
  first_rule {A} {t} (step (replace [] v {p = p} {A = B} {β = β} r) d) e f =
      let (s, η, h) = plain.headed r in
      let (ε, k) = token_kept d (η ++ v) (ap (λ (x : Form). x ++ v) h) in
      let left : B ≡ A = cc in
      let head : s ≡ t = cc in
      let right : β ≡ Token t ∷ η = h ∙ ap (λ (b : ℕ). Token b ∷ η) head in
      (p, η, subst₂ (λ (C : ℕ) (x : Form). Rule g p C x) left right r)
  first_rule (step (replace (x ∷ u) v {A = B} r) d) e f = absurd (omega (arith, ap length e, length-append u (Nonterminal B ∷ v)))

  module _ {cell : ℕ → Column → Option ℕ} (exact : Exact g cell) where
    begins_filled : {A t : ℕ} → FirstOf g A (token t) → (p : ℕ) × (cell A (token t) ≡ some p)
    begins_filled {A} {t} (starts δ d) =
        let (p, β, r) = first_rule d refl refl in
        (p, claims_cell exact ((plain_claims plain).1 (t, β, r, refl)))

    -- what a stack can go on with is what its top asks for
    pub plain_can_come : {β : Form} {c : Column} → CanCome g β c ↔ AsksFor cell β c
    plain_can_come = (λ j. forth j, λ a. back a)
      where
        forth : {β : Form} {c : Column} → CanCome g β c → AsksFor cell β c
        forth (over ended) = asks_end
        forth joins.here = asks_token
        forth (begins h) = asks_row (begins_filled h).1
        forth (past h j) = absurd (stays h)

        row : {A p : ℕ} {α : Form} {c : Column} → Claims g A c p → CanCome g (Nonterminal A ∷ α) c
        row {A} {α = α} k =
            let (t, γ, r, e) = (plain_claims plain).0 k in
            subst (λ (c : Column). CanCome g (Nonterminal A ∷ α) c) (sym e) (begins (starts γ (derives_rule r)))

        back : {β : Form} {c : Column} → AsksFor cell β c → CanCome g β c
        back asks_end = over ended
        back asks_token = joins.here
        back (asks_row {A = A} {c = c} e) = row (claimed_by (exact.cells A c) e)

    -- where the machine stops, nothing was used since the last match
    pub plain_none_since : (x : Form) {z v qs : List ℕ} {σ β : Form} → Sentential g (x ++ σ) → Run g cell z σ v qs β → v ≡ [] → Stopped g cell β z → (qs ≡ []) × (σ ≡ β)
    plain_none_since x s here e stop = (refl, refl)
    plain_none_since x s (match r) e stop = let bad : ◌≡◌ {A = ℕ} 0 1 = cc in absurd (omega arith)
    plain_none_since x {z} s (expand {p = p} {A = A} {α = α} {β = β} {γ = γ} {ps = ps} d k r) e stop =
        let quiet : Run g cell z (γ ++ α) [] ps β = rw e at r in
        let filled : cell A (front z) ≡ some p = rw e at d in
        absurd (right_stays k (stuck_vanishes exact x α s filled k quiet stop))
