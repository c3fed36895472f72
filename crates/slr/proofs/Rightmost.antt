-- Rightmost derivations: their list, read backwards, is the textbook's chain of rightmost steps, and whatever derives a
-- token string has one.
use mathlib.Core.Path.{◌≡◌, refl, sym, ap, ◌∙◌}
use mathlib.Core.List.{List, [], ◌∷◌, ◌++◌, append_assoc, append-nil, reverse, reverse-append, reverse-cons, reverse-reverse}
use Prim.Native.Nat.{ℕ}
use Rattle.grammar.specs.declared.Symbol.{Symbol}
use Rattle.grammar.specs.declared.Symbol.TheVariants.{Token, Nonterminal}
use Rattle.grammar.specs.Grammar.{Form, spelled, Grammar, Rule, Step, replace, Derives, itself, step}
use Rattle.grammar.proofs.Derivation.{derives_trans, derives_behind, derives_both, derives_rule}
use Rattle.grammar.proofs.Leftmost.{spelled_append}
use Rattle.slr.specs.Rightmost.{RightmostStep, rightmost, RightmostSteps, stay, next, Rightmost, done, with_token, with_nonterminal}

module _ {g : Grammar} where
  -- equal lists and strings
  pub recast : {α : Form} {ps qs v w : List ℕ} → ps ≡ qs → v ≡ w → Rightmost g α ps v → Rightmost g α qs w
  recast e f d = rw (← e, ← f) d

  -- a string of tokens gives itself
  pub rightmost_spelled : (w : List ℕ) → Rightmost g (spelled w) [] w
  rightmost_spelled [] = done
  rightmost_spelled (t ∷ w) = with_token (rightmost_spelled w)

  -- and nothing else
  spelled_only : (v : List ℕ) {ps w : List ℕ} → Rightmost g (spelled v) ps w → (ps ≡ []) × (w ≡ v)
  spelled_only [] done = (refl, refl)
  spelled_only (t ∷ v) (with_token d) = let only = spelled_only v d in (only.0, ap (λ x. t ∷ x) only.1)

-- a derivation from two forms side by side, cut between them
record Parts (g : Grammar) (α β : Form) (ps w : List ℕ) : Type 0 where
  list_left : List ℕ
  list_right : List ℕ
  string_left : List ℕ
  string_right : List ℕ
  lists : list_left ++ list_right ≡ ps
  strings : string_left ++ string_right ≡ w
  left : Rightmost g α list_left string_left
  right : Rightmost g β list_right string_right

module _ {g : Grammar} where
  parts : (α β : Form) {ps w : List ℕ} → Rightmost g (α ++ β) ps w → Parts g α β ps w
  parts [] β {ps} {w} d =
      record {
        list_left = [];
        list_right = ps;
        string_left = [];
        string_right = w;
        lists = refl;
        strings = refl;
        left = done;
        right = d;
      }
  parts (Token t ∷ α) β (with_token d) =
      let cut = parts α β d in
      record {
        list_left = cut.list_left;
        list_right = cut.list_right;
        string_left = t ∷ cut.string_left;
        string_right = cut.string_right;
        lists = cut.lists;
        strings = ap (λ x. t ∷ x) cut.strings;
        left = with_token cut.left;
        right = cut.right;
      }
  parts (Nonterminal A ∷ α) β (with_nonterminal {p = p} {qs = qs} {v = v} r e d) =
      let cut = parts α β d in
      record {
        list_left = qs ++ (p ∷ cut.list_left);
        list_right = cut.list_right;
        string_left = v ++ cut.string_left;
        string_right = cut.string_right;
        lists = append_assoc qs (p ∷ cut.list_left) cut.list_right ∙ ap (λ x. qs ++ (p ∷ x)) cut.lists;
        strings = append_assoc v cut.string_left cut.string_right ∙ ap (λ x. v ++ x) cut.strings;
        left = with_nonterminal r e cut.left;
        right = cut.right;
      }

  -- side by side again
  pub rightmost_append : {α β : Form} {ps qs v w : List ℕ}
      → Rightmost g α ps v
      → Rightmost g β qs w
      → Rightmost g (α ++ β) (ps ++ qs) (v ++ w)
  rightmost_append done e = e
  rightmost_append (with_token d) e = with_token (rightmost_append d e)
  rightmost_append {qs = qs} {w = w} (with_nonterminal {p = p} {qs = rs} {ps = ps} {v = u} {w = v} r c d) e =
      rw (append_assoc rs (p ∷ ps) qs, append_assoc u v w) (with_nonterminal r c (rightmost_append d e))

  -- the last nonterminal replaced: its production comes last
  reduced : (u : Form) (v : List ℕ) {p A : ℕ} {β : Form} {ps w : List ℕ}
      → Rule g p A β
      → Rightmost g (u ++ (β ++ spelled v)) ps w
      → Rightmost g (u ++ (Nonterminal A ∷ spelled v)) (ps ++ (p ∷ [])) w
  reduced u v {p} {A} {β} {ps} {w} r d = outside (parts u (β ++ spelled v) d)
    where
      inside : {qs x : List ℕ} → Parts g β (spelled v) qs x → Rightmost g (Nonterminal A ∷ spelled v) (qs ++ (p ∷ [])) x
      inside {qs} {x} cut =
          let tokens = spelled_only v cut.right in
          let list : cut.list_left ≡ qs =
          sym (append-nil cut.list_left) ∙ ap (λ y. cut.list_left ++ y) (sym tokens.0) ∙ cut.lists in
          let string : cut.string_left ++ v ≡ x = ap (λ y. cut.string_left ++ y) (sym tokens.1) ∙ cut.strings in
          recast (ap (λ y. y ++ (p ∷ [])) list) string (with_nonterminal r cut.left (rightmost_spelled v))

      outside : Parts g u (β ++ spelled v) ps w → Rightmost g (u ++ (Nonterminal A ∷ spelled v)) (ps ++ (p ∷ [])) w
      outside cut =
          let list : cut.list_left ++ (cut.list_right ++ (p ∷ [])) ≡ ps ++ (p ∷ []) =
          rw (← append_assoc) (ap (λ y. y ++ (p ∷ [])) cut.lists) in
          recast list cut.strings (rightmost_append cut.left (inside (parts β (spelled v) cut.right)))

  -- one step more in front
  steps_behind : (x : Symbol) {α β : Form} {ps : List ℕ} → RightmostSteps g α ps β → RightmostSteps g (x ∷ α) ps (x ∷ β)
  steps_behind x stay = stay
  steps_behind x (next (rightmost u v r) d) = next (rightmost (x ∷ u) v r) (steps_behind x d)

  step_before : (w : List ℕ) {p : ℕ} {α β : Form}
      → RightmostStep g p α β
      → RightmostStep g p (α ++ spelled w) (β ++ spelled w)
  step_before w (rightmost u v r) =
      simp append_assoc (simp spelled_append at (rightmost u (v ++ w) r))

  -- with tokens behind
  steps_before : (w : List ℕ) {α β : Form} {ps : List ℕ}
      → RightmostSteps g α ps β
      → RightmostSteps g (α ++ spelled w) ps (β ++ spelled w)
  steps_before w stay = stay
  steps_before w (next s d) = next (step_before w s) (steps_before w d)

  pub steps_trans : {α β γ : Form} {ps qs : List ℕ}
      → RightmostSteps g α ps β
      → RightmostSteps g β qs γ
      → RightmostSteps g α (ps ++ qs) γ
  steps_trans stay e = e
  steps_trans (next s d) e = next s (steps_trans d e)

  pub rightmost_steps : {α : Form} {ps w : List ℕ} → Rightmost g α ps w → RightmostSteps g α (reverse ps) (spelled w)
  rightmost_steps done = stay
  rightmost_steps (with_token {t = t} d) = steps_behind (Token t) (rightmost_steps d)
  rightmost_steps (with_nonterminal {p = p} {A = A} {β = β} {qs = qs} {ps = ps} {v = v} {w = w} r e d) =
      let behind = steps_behind (Nonterminal A) (rightmost_steps d) in
      let inner = steps_before w (rightmost_steps e) in
      rw (reverse-append qs (p ∷ ps), reverse-cons p ps, append_assoc, spelled_append v w)
      (steps_trans behind (next (rightmost [] w r) inner))

  steps_rightmost_to : {α β : Form} {ps : List ℕ}
      → RightmostSteps g α ps β
      → (w : List ℕ)
      → β ≡ spelled w
      → Rightmost g α (reverse ps) w
  steps_rightmost_to stay w e = rw e (rightmost_spelled w)
  steps_rightmost_to (next {p = p} {ps = ps} (rightmost u v r) d) w e =
      rw (reverse-cons p ps) (reduced u v r (steps_rightmost_to d w e))

  pub steps_rightmost : {α : Form} {ps : List ℕ} (w : List ℕ)
      → RightmostSteps g α (reverse ps) (spelled w)
      → Rightmost g α ps w
  steps_rightmost {ps = ps} w d = rw reverse-reverse at (steps_rightmost_to d w refl)

  -- what derives a token string does so rightmost
  step_back : {α β : Form} {w : List ℕ}
      → Step g α β
      → (ps : List ℕ) × Rightmost g β ps w
      → (ps : List ℕ) × Rightmost g α ps w
  step_back {w = w} (replace u v {p = p} {A = A} {β = β} r) (ps, d) = outside (parts u (β ++ v) d)
    where
      inside : {qs x : List ℕ} → Parts g β v qs x → (ps : List ℕ) × Rightmost g (Nonterminal A ∷ v) ps x
      inside cut =
          (cut.list_left ++ (p ∷ cut.list_right), recast refl cut.strings (with_nonterminal r cut.left cut.right))

      outside : Parts g u (β ++ v) ps w → (ps : List ℕ) × Rightmost g (u ++ (Nonterminal A ∷ v)) ps w
      outside cut =
          let (qs, e) = inside (parts β v cut.right) in
          (cut.list_left ++ qs, recast refl cut.strings (rightmost_append cut.left e))

  derives_to : {α β : Form} → Derives g α β → (w : List ℕ) → β ≡ spelled w → (ps : List ℕ) × Rightmost g α ps w
  derives_to itself w e = ([], rw e (rightmost_spelled w))
  derives_to (step s d) w e = step_back s (derives_to d w e)

  pub derives_rightmost_of : {α : Form} (w : List ℕ) → Derives g α (spelled w) → (ps : List ℕ) × Rightmost g α ps w
  derives_rightmost_of w d = derives_to d w refl

  pub rightmost_derives : {α : Form} {ps w : List ℕ} → Rightmost g α ps w → Derives g α (spelled w)
  rightmost_derives done = itself
  rightmost_derives (with_token {t = t} d) = derives_behind (Token t ∷ []) (rightmost_derives d)
  rightmost_derives (with_nonterminal {v = v} {w = w} r e d) =
      rw (spelled_append v w)
      (derives_both (derives_trans (derives_rule r) (rightmost_derives e)) (rightmost_derives d))
