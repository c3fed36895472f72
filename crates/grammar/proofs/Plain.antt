-- The plain profile: nothing breaks it, a lookahead is the token that a right side starts with, and no cell has two claimants.
use mathlib.Core.Path.{◌≡◌, refl, sym, ap, subst}
use mathlib.Core.Logic.{◌↔◌}
use mathlib.Core.List.{[], ◌∷◌, ◌++◌}
use mathlib.Core.Option.{Option, some, none}
use Prim.Native.Nat.{ℕ, ◌≤◌, ◌<◌}
use native.Mathlib.Decide.{dec_lt}
use native.Mathlib.Omega.{arith}
use lib.ListN.{length}
use Rattle.grammar.specs.declared.Symbol.{Symbol}
use Rattle.grammar.specs.declared.Symbol.TheVariants.{Token, Nonterminal}
use Rattle.grammar.specs.Filled.{NoEmptyRight, Leads, there, through}
use Rattle.grammar.specs.Grammar.{Form, Grammar, Column, token, endmark, column, Rule, replace, Derives, itself, step, starts, vanishes, Lookahead, first, follow, Claims, Conflict, Cell, only, vacant}
use Rattle.grammar.specs.Plain.{Breaks, bare, named, again, Plain, LowestBreak}

module _ {g : Grammar} where
  unbroken : Plain g → (p : ℕ) → ¬ Breaks g p
  unbroken plain p (bare r) = let (t, γ, e) = plain.headed r in let bad : ◌≡◌ {A = ℕ} 0 1 = cc in omega arith
  unbroken plain p (named r) = let (t, γ, e) = plain.headed r in let bad : ◌≡◌ {A = ℕ} 0 1 = cc in omega arith
  unbroken plain p (again below r s) = omega (arith, plain.apart r s)

  module _ (whole : (p : ℕ) → ¬ Breaks g p) where
    heads : {p A : ℕ} (β : Form) → Rule g p A β → (t : ℕ) × (γ : Form) × (β ≡ Token t ∷ γ)
    heads {p} [] r = absurd (whole p (bare r))
    heads (Token t ∷ γ) r = (t, γ, refl)
    heads {p} (Nonterminal B ∷ γ) r = absurd (whole p (named r))

    not_twice : {p q A t : ℕ} {α β : Form} → Rule g p A (Token t ∷ α) → Rule g q A (Token t ∷ β) → p ≡ q
    not_twice {p} {q} r s = go (dec_lt p q) (dec_lt q p)
      where
        go : Dec (p < q) → Dec (q < p) → p ≡ q
        go (yes h) d = absurd (whole q (again h r s))
        go (no h) (yes k) = absurd (whole p (again k s r))
        go (no h) (no k) = omega arith

  -- a grammar is plain exactly if no production breaks the profile
  pub plain_iff : Plain g ↔ ((p : ℕ) → ¬ Breaks g p)
  plain_iff = (unbroken, λ whole. record { headed = λ {p} {A} {β} r. heads whole β r; apart = not_twice whole })

  -- the lowest production that breaks it is determined
  pub lowest_break_unique : {p q : ℕ} → LowestBreak g p → LowestBreak g q → p ≡ q
  lowest_break_unique {p} {q} h k = go (dec_lt p q) (dec_lt q p)
    where
      go : Dec (p < q) → Dec (q < p) → p ≡ q
      go (yes l) d = absurd (k.earlier p l h.breaks)
      go (no l) (yes m) = absurd (h.earlier q m k.breaks)
      go (no l) (no m) = omega arith

  -- and there is none in a plain grammar
  pub lowest_break_not_plain : {p : ℕ} → LowestBreak g p → ¬ Plain g
  lowest_break_not_plain {p} h plain = unbroken plain p h.breaks

  -- a form that starts with a token derives only forms that start with it
  pub token_kept : {t : ℕ} {α γ : Form} → Derives g α γ → (δ : Form) → α ≡ Token t ∷ δ → (ε : Form) × (γ ≡ Token t ∷ ε)
  token_kept itself δ e = (δ, e)
  token_kept (step (replace [] v r) d) δ e = let bad : ◌≡◌ {A = ℕ} 0 1 = cc in absurd (omega arith)
  token_kept {t} (step (replace (x ∷ u) v {β = β} r) d) δ e =
      let same : x ≡ Token t = cc in
      token_kept d (u ++ (β ++ v)) (ap (λ (y : Symbol). y ∷ (u ++ (β ++ v))) same)

  -- so of a production's right side FIRST is that token, and FOLLOW is not looked at
  ahead_token : {A t : ℕ} {β γ : Form} {c : Column} → β ≡ Token t ∷ γ → Lookahead g A β (column c) → c ≡ token t
  ahead_token {t = t} {γ = γ} e (first (starts {t = s} δ d)) =
      let (ε, f) = token_kept d γ e in
      let same : s ≡ t = cc in
      ap token same
  ahead_token {γ = γ} e (follow (vanishes d) follows) =
      let (ε, f) = token_kept d γ e in
      let bad : ◌≡◌ {A = ℕ} 0 1 = cc in
      absurd (omega arith)

  starts_claims : {A p t : ℕ} {γ : Form} → Rule g p A (Token t ∷ γ) → Claims g A (token t) p
  starts_claims {t = t} {γ = γ} r = record { right = Token t ∷ γ; rule = r; ahead = first (starts γ itself) }

  module _ (plain : Plain g) where
    claimed : {A p : ℕ} {c : Column} → Claims g A c p → (t : ℕ) × (γ : Form) × Rule g p A (Token t ∷ γ) × (c ≡ token t)
    claimed k = let (t, γ, e) = plain.headed k.rule in (t, γ, rw e at k.rule, ahead_token e k.ahead)

    -- the lookahead of a production is the token that its right side starts with; FOLLOW never counts
    pub plain_claims : {A p : ℕ} {c : Column} → Claims g A c p ↔ ((t : ℕ) × (γ : Form) × Rule g p A (Token t ∷ γ) × (c ≡ token t))
    plain_claims {A} {p} = (claimed, λ (t, γ, r, e). subst (λ (c : Column). Claims g A c p) (sym e) (starts_claims r))

    one_claims : {A p q : ℕ} {c : Column} → Claims g A c p → Claims g A c q → p ≡ q
    one_claims {A} {p} h k =
        let (t, γ, r, e) = claimed h in
        let (s, δ, l, f) = claimed k in
        let same : t ≡ s = cc in
        plain.apart (subst (λ (i : ℕ). Rule g p A (Token i ∷ γ)) same r) l

    -- so no two productions claim one cell
    pub plain_no_conflict : ¬ Conflict g
    plain_no_conflict k = k.distinct (one_claims k.claims_one k.claims_other)

    -- a cell holds the production of its row that starts with its token, and nothing where there is none; the end mark's are vacant
    pub plain_cell : {A p t : ℕ} {γ : Form} → Rule g p A (Token t ∷ γ) → Cell g A (token t) (some p)
    plain_cell r = only (starts_claims r) (λ q k. one_claims k (starts_claims r))

    pub plain_vacant : {A t : ℕ} → ((p : ℕ) (γ : Form) → ¬ Rule g p A (Token t ∷ γ)) → Cell g A (token t) none
    plain_vacant {A} {t} nowhere =
        vacant
        (λ q k. let (s, γ, r, e) = claimed k in let same : s ≡ t = cc in nowhere q γ (subst (λ (i : ℕ). Rule g q A (Token i ∷ γ)) same r))

    pub plain_end : {A : ℕ} → Cell g A endmark none
    plain_end =
        vacant
        (λ q k. let (s, γ, r, e) = claimed k in let bad : ◌≡◌ {A = ℕ} 0 1 = cc in omega arith)

    -- no right side is empty
    pub plain_filled : NoEmptyRight g
    plain_filled = record { filled = λ r. let (t, γ, e) = plain.headed r in omega (arith, ap length e) }

    -- a token leads to itself by no production, and a nonterminal to any token by one
    pub plain_leads : {cell : ℕ → Column → Option ℕ} {t : ℕ} {x : Symbol} {k : ℕ} → Leads g cell t x k → k ≤ 1
    plain_leads there = omega arith
    plain_leads (through c r there) = omega arith
    plain_leads (through c r (through d s l)) =
        let (t, γ, e) = plain.headed r in
        let bad : ◌≡◌ {A = ℕ} 0 1 = cc in
        absurd (omega arith)

    pub plain_leads_one : {cell : ℕ → Column → Option ℕ} {t A k : ℕ} → Leads g cell t (Nonterminal A) k → k ≡ 1
    plain_leads_one (through c r l) = omega (arith, plain_leads (through c r l))
