-- Leftmost derivations: their list is the textbook's chain of leftmost steps, and whatever derives a token string has one.
use mathlib.Core.Path.{◌≡◌, refl, sym, ◌∙◌, ap, subst}
use mathlib.Core.List.{List, [], ◌∷◌, ◌++◌, append_assoc, append-nil}
use mathlib.Core.Option.{Option, some}
use Prim.Native.Nat.{ℕ}
use native.Mathlib.Omega.{arith}
use Rattle.grammar.specs.declared.Symbol.TheVariants.{Token, Nonterminal}
use Rattle.grammar.specs.Grammar.{Form, spelled, Production, Grammar, Rule, replace, Derives, itself, step, leftmost, LeftmostSteps, stay, next, Leftmost, done, shift, expand}
use Rattle.grammar.proofs.Derivation.{derives_behind}

pub spelled_append : (u w : List ℕ) → spelled (u ++ w) ≡ spelled u ++ spelled w
spelled_append [] w = refl
spelled_append (t ∷ u) w = ap (λ x. Token t ∷ x) (spelled_append u w)

-- a derivation from two forms side by side, cut between them
pub record Split (g : Grammar) (α β : Form) (ps w : List ℕ) : Type 0 where
  pub list_left : List ℕ
  pub list_right : List ℕ
  pub string_left : List ℕ
  pub string_right : List ℕ
  pub lists : ps ≡ list_left ++ list_right
  pub strings : w ≡ string_left ++ string_right
  pub left : Leftmost g α list_left string_left
  pub right : Leftmost g β list_right string_right

module _ {g : Grammar} where
  pub rule_same : {p A B : ℕ} {β γ : Form} → Rule g p A β → Rule g p B γ → (A ≡ B) × (β ≡ γ)
  rule_same {p} {A} {B} {β} {γ} r s =
      let e : ◌≡◌ {A = Option Production} (some (record { left = A; right = β })) (some (record { left = B; right = γ })) = sym r.at ∙ s.at in
      let f : ◌≡◌ {A = Production} (record { left = A; right = β }) (record { left = B; right = γ }) = cc in
      (ap (λ (x : Production). x.left) f, ap (λ (x : Production). x.right) f)

  pub recast : {α β : Form} {ps w : List ℕ} → α ≡ β → Leftmost g α ps w → Leftmost g β ps w
  recast {ps = ps} {w = w} e d = subst (λ (x : Form). Leftmost g x ps w) e d

  -- a list derives one string only
  pub list_string : {α : Form} {ps w w' : List ℕ} → Leftmost g α ps w → Leftmost g α ps w' → w ≡ w'
  list_string done done = refl
  list_string (shift {t = t} d) (shift e) = ap (λ x. t ∷ x) (list_string d e)
  list_string (expand {α = α} r d) (expand s e) = list_string d (recast (ap (λ (x : Form). x ++ α) (rule_same s r).1) e)

  whole : {β : Form} {ps w : List ℕ} → Leftmost g β ps w → Split g [] β ps w
  whole {ps = ps} {w = w} d =
      record {
        list_left = [];
        list_right = ps;
        string_left = [];
        string_right = w;
        lists = refl;
        strings = refl;
        left = done;
        right = d;
      }

  pub leftmost_split : {σ : Form} {ps w : List ℕ} → Leftmost g σ ps w → (α β : Form) → σ ≡ α ++ β → Split g α β ps w
  leftmost_split done [] β e = whole (recast e done)
  leftmost_split done (x ∷ α) β e = let bad : ◌≡◌ {A = ℕ} 0 1 = cc in absurd (omega arith)
  leftmost_split (shift d) [] β e = whole (recast e (shift d))
  leftmost_split (shift {t = t} {α = σ} {ps = ps} {w = w} d) (x ∷ α) β e = again (leftmost_split d α β (cc)) (cc)
    where
      again : Split g α β ps w → Token t ≡ x → Split g (x ∷ α) β ps (t ∷ w)
      again s f =
          record {
            list_left = s.list_left;
            list_right = s.list_right;
            string_left = t ∷ s.string_left;
            string_right = s.string_right;
            lists = s.lists;
            strings = ap (λ y. t ∷ y) s.strings;
            left = recast (ap (λ y. y ∷ α) f) (shift s.left);
            right = s.right;
          }
  leftmost_split (expand r d) [] β e = whole (recast e (expand r d))
  leftmost_split (expand {p = p} {A = A} {α = σ} {β = γ} {ps = ps} {w = w} r d) (x ∷ α) β e =
      let f : σ ≡ α ++ β = cc in
      again (leftmost_split d (γ ++ α) β (rw (f, append_assoc))) (cc)
    where
      again : Split g (γ ++ α) β ps w → Nonterminal A ≡ x → Split g (x ∷ α) β (p ∷ ps) w
      again s f =
          record {
            list_left = p ∷ s.list_left;
            list_right = s.list_right;
            string_left = s.string_left;
            string_right = s.string_right;
            lists = ap (λ y. p ∷ y) s.lists;
            strings = s.strings;
            left = recast (ap (λ y. y ∷ α) f) (expand r s.left);
            right = s.right;
          }

  pub leftmost_append : {α β : Form} {ps qs u v : List ℕ} → Leftmost g α ps u → Leftmost g β qs v → Leftmost g (α ++ β) (ps ++ qs) (u ++ v)
  leftmost_append done e = e
  leftmost_append (shift d) e = shift (leftmost_append d e)
  leftmost_append {β = β} (expand {α = α} {β = γ} r d) e = expand r (recast (append_assoc γ α β) (leftmost_append d e))

  pub leftmost_derives : {α : Form} {ps w : List ℕ} → Leftmost g α ps w → Derives g α (spelled w)
  leftmost_derives done = itself
  leftmost_derives (shift {t = t} d) = derives_behind (Token t ∷ []) (leftmost_derives d)
  leftmost_derives (expand {α = α} r d) = step (replace [] α r) (leftmost_derives d)

  leftmost_spelled : (w : List ℕ) → Leftmost g (spelled w) [] w
  leftmost_spelled [] = done
  leftmost_spelled (t ∷ w) = shift (leftmost_spelled w)

  -- one occurrence of a nonterminal put back for its right side
  leftmost_back : {p A : ℕ} {β : Form} {ps w : List ℕ} (u v : Form) → Rule g p A β → Split g u (β ++ v) ps w → (qs : List ℕ) × Leftmost g (u ++ (Nonterminal A ∷ v)) qs w
  leftmost_back {p} u v r s = (s.list_left ++ (p ∷ s.list_right), rw s.strings (leftmost_append s.left (expand r s.right)))

  derives_leftmost_to : {α β : Form} → Derives g α β → (w : List ℕ) → β ≡ spelled w → (ps : List ℕ) × Leftmost g α ps w
  derives_leftmost_to itself w e = ([], recast (sym e) (leftmost_spelled w))
  derives_leftmost_to (step (replace u v {β = β} r) d) w e =
      leftmost_back u v r (leftmost_split (derives_leftmost_to d w e).1 u (β ++ v) refl)

  -- whatever derives a token string has a leftmost derivation of it
  pub derives_leftmost : {α : Form} (w : List ℕ) → Derives g α (spelled w) → (ps : List ℕ) × Leftmost g α ps w
  derives_leftmost w d = derives_leftmost_to d w refl

  shifted : (u : List ℕ) {α : Form} {ps w : List ℕ} → Leftmost g α ps w → Leftmost g (spelled u ++ α) ps (u ++ w)
  shifted u d = leftmost_append (leftmost_spelled u) d

  steps_from : (u : List ℕ) {α : Form} {ps w : List ℕ} → Leftmost g α ps w → LeftmostSteps g (spelled u ++ α) ps (spelled (u ++ w))
  steps_from u done = rw (append-nil u, append-nil (spelled u)) stay
  steps_from u (shift {t = t} {α = α} {w = w} d) = simp spelled_append (simp (spelled_append, append_assoc) at (steps_from (u ++ (t ∷ [])) d))
  steps_from u (expand {α = α} r d) = next (leftmost u α r) (steps_from u d)

  -- a leftmost derivation with its list is the chain of leftmost steps
  pub leftmost_steps : {α : Form} {ps w : List ℕ} → Leftmost g α ps w → LeftmostSteps g α ps (spelled w)
  leftmost_steps d = steps_from [] d

  spelled_only : (u : List ℕ) {ps w : List ℕ} → Leftmost g (spelled u) ps w → (ps ≡ []) × (w ≡ u)
  spelled_only [] done = (refl, refl)
  spelled_only (t ∷ u) (shift d) = ((spelled_only u d).0, ap (λ x. t ∷ x) (spelled_only u d).1)

  -- one occurrence of the first nonterminal put back for its right side
  shift_back : {p A : ℕ} {β : Form} {ps w : List ℕ} (u : List ℕ) (v : Form) → Rule g p A β → Split g (spelled u) (β ++ v) ps w → Leftmost g (spelled u ++ (Nonterminal A ∷ v)) (p ∷ ps) w
  shift_back {p} {ps = ps} {w = w} u v r s =
      let e : ps ≡ s.list_right = s.lists ∙ ap (λ x. x ++ s.list_right) (spelled_only u s.left).0 in
      let f : w ≡ u ++ s.string_right = s.strings ∙ ap (λ x. x ++ s.string_right) (spelled_only u s.left).1 in
      rw (e, f) (shifted u (expand r s.right))

  steps_leftmost_to : {α β : Form} {ps : List ℕ} → LeftmostSteps g α ps β → (w : List ℕ) → β ≡ spelled w → Leftmost g α ps w
  steps_leftmost_to stay w e = recast (sym e) (leftmost_spelled w)
  steps_leftmost_to (next (leftmost u v {β = β} r) d) w e = shift_back u v r (leftmost_split (steps_leftmost_to d w e) (spelled u) (β ++ v) refl)

  pub steps_leftmost : {α : Form} {ps : List ℕ} (w : List ℕ) → LeftmostSteps g α ps (spelled w) → Leftmost g α ps w
  steps_leftmost w d = steps_leftmost_to d w refl
