-- The greatest height of the stack along a derivation, and a derivation seen from the top of its form.
use mathlib.Core.Path.{◌≡◌, refl, sym, ap, subst, subst₂}
use mathlib.Core.List.{List, [], ◌∷◌, ◌++◌}
use Prim.Native.Nat.{ℕ, suc, ◌≤◌, max}
use native.Mathlib.Omega.{arith}
use lib.ListN.{length}
use Rattle.grammar.specs.declared.Symbol.TheVariants.{Token, Nonterminal}
use Rattle.grammar.specs.Grammar.{Form, Grammar, Rule, Leftmost, done, shift, expand, Complete}
use Rattle.grammar.proofs.Leftmost.{rule_same, recast}
use Rattle.machine.specs.Room.{right_of, peak}
use Rattle.machine.proofs.Relation.{right_of_lem}

module _ {g : Grammar} where
  -- the peak is that of the form and the list, whatever derivation shows it
  pub peak_from : {α β : Form} {ps qs u v : List ℕ} (d : Leftmost g α ps u) (e : Leftmost g β qs v) → α ≡ β → ps ≡ qs → peak d ≡ peak e
  unfolding peak
  peak_from done done f h = refl
  peak_from done (shift e) f h = let bad : ◌≡◌ {A = ℕ} 0 1 = cc in absurd (omega arith)
  peak_from done (expand r e) f h = let bad : ◌≡◌ {A = ℕ} 0 1 = cc in absurd (omega arith)
  peak_from (shift d) done f h = let bad : ◌≡◌ {A = ℕ} 0 1 = cc in absurd (omega arith)
  peak_from (shift {α = α} d) (shift {α = β} e) f h =
      let tail : α ≡ β = cc in
      rw (tail, peak_from d e tail h)
  peak_from (shift d) (expand r e) f h = let bad : ◌≡◌ {A = ℕ} 0 1 = cc in absurd (omega arith)
  peak_from (expand r d) done f h = let bad : ◌≡◌ {A = ℕ} 0 1 = cc in absurd (omega arith)
  peak_from (expand r d) (shift e) f h = let bad : ◌≡◌ {A = ℕ} 0 1 = cc in absurd (omega arith)
  peak_from (expand {p = p} {A = A} {α = α} {β = β} {ps = ps} r d) (expand {p = q} {A = B} {α = γ} {β = δ} {ps = qs} k e) f h =
      let tail : α ≡ γ = cc in
      let same : p ≡ q = cc in
      let right : β ≡ δ = (rule_same (subst (λ (o : ℕ). Rule g o A β) same r) k).1 in
      let rest : ps ≡ qs = cc in
      rw (tail, peak_from d e (cc) rest)

  -- the form itself is not higher
  pub peak_form : {α : Form} {ps w : List ℕ} (d : Leftmost g α ps w) → length α ≤ peak d
  unfolding peak
  peak_form done = omega arith
  peak_form (shift d) = omega arith
  peak_form (expand r d) = omega arith

  -- a derivation from the empty form is over
  pub leftmost_empty : {σ : Form} {ps w : List ℕ} (d : Leftmost g σ ps w) → σ ≡ [] → (ps ≡ []) × (peak d ≡ 0)
  unfolding peak
  leftmost_empty done f = (refl, refl)
  leftmost_empty (shift d) f = let bad : ◌≡◌ {A = ℕ} 0 1 = cc in absurd (omega arith)
  leftmost_empty (expand r d) f = let bad : ◌≡◌ {A = ℕ} 0 1 = cc in absurd (omega arith)

  -- a derivation whose form begins with a token goes on from the rest of the form
  pub record Shifts {σ : Form} {ps w : List ℕ} (d : Leftmost g σ ps w) (α : Form) (v : List ℕ) : Type 0 where
    pub after : Leftmost g α ps v
    pub peaks : peak d ≡ max (suc (length α)) (peak after)

  pub leftmost_token : {σ : Form} {ps w : List ℕ} (d : Leftmost g σ ps w) {t : ℕ} {α : Form} {v : List ℕ} → σ ≡ Token t ∷ α → w ≡ t ∷ v → Shifts d α v
  unfolding peak
  leftmost_token done f e = let bad : ◌≡◌ {A = ℕ} 0 1 = cc in absurd (omega arith)
  leftmost_token (shift {α = β} {ps = ps} {w = u} d) {α = α} {v = v} f e =
      let form : β ≡ α = cc in
      let string : u ≡ v = cc in
      let after : Leftmost g α ps v = subst₂ (λ (x : Form) (y : List ℕ). Leftmost g x ps y) form string d in
      record { after = after; peaks = omega (arith, ap length form, peak_from d after form refl) }
  leftmost_token (expand r d) f e = let bad : ◌≡◌ {A = ℕ} 0 1 = cc in absurd (omega arith)

  -- a derivation whose form begins with a nonterminal goes on from a right side of it
  pub record Expands {σ : Form} {ps w : List ℕ} (d : Leftmost g σ ps w) (A : ℕ) (α : Form) (next : ℕ) : Type 0 where
    pub later : List ℕ
    pub lists : ps ≡ next ∷ later
    pub rule : Rule g next A (right_of g next)
    pub after : Leftmost g (right_of g next ++ α) later w
    pub peaks : peak d ≡ max (suc (length α)) (peak after)

  pub leftmost_row : {σ : Form} {ps w : List ℕ} (d : Leftmost g σ ps w) {A : ℕ} {α : Form} → σ ≡ Nonterminal A ∷ α → (next : ℕ) × Expands d A α next
  unfolding peak
  leftmost_row done f = let bad : ◌≡◌ {A = ℕ} 0 1 = cc in absurd (omega arith)
  leftmost_row (shift d) f = let bad : ◌≡◌ {A = ℕ} 0 1 = cc in absurd (omega arith)
  leftmost_row (expand {p = p} {A = B} {α = γ} {β = β} {ps = ps} {w = w} r d) {A} {α} f =
      let row : B ≡ A = cc in
      let tail : γ ≡ α = cc in
      let form : β ++ γ ≡ right_of g p ++ α = rw (tail, right_of_lem r) in
      let after : Leftmost g (right_of g p ++ α) ps w = recast form d in
      let expands : Expands (expand r d) A α p = record {
        later = ps;
        lists = refl;
        rule = subst₂ (λ (x : ℕ) (y : Form). Rule g p x y) row (sym (right_of_lem r)) r;
        after = after;
        peaks = omega (arith, ap length tail, peak_from d after form refl);
      } in
      (p, expands)

  -- a derivation from the start begins with one symbol
  pub peak_start : {ps w : List ℕ} (d : Complete g ps w) → 1 ≤ peak d
  peak_start d = peak_form d
