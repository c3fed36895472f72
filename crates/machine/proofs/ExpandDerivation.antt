-- Expansion by a grammar's productions: a complete one is a leftmost derivation, and with room it follows each to its end.
use Rattle.std.specs.Prelude.{⊤, Result, Ok}
use mathlib.Core.Path.{◌≡◌, refl, sym, ◌∙◌, ap}
use mathlib.Core.Bool.{true, false}
use mathlib.Core.List.{List, [], ◌∷◌, ◌++◌, append_assoc, append-nil}
use mathlib.Core.Option.{Option, some, none}
use Prim.Native.Nat.{ℕ, ◌+◌, ◌≤◌, max}
use native.Mathlib.Omega.{arith}
use borrow.Author.Tests.{eqb-true, eq-eqb}
use lib.ListN.{length, length-append, get_elem?}
use Rattle.grammar.specs.Grammar.{Form, Production, Grammar, Rule, Leftmost, done, shift, expand}
use Rattle.machine.specs.Expansion.{Course, wrote, applied}
use Rattle.machine.specs.declared.Obstacle.{Obstacle}
use Rattle.machine.specs.Room.{right_of, is_of, peak}
use Rattle.machine.proofs.ExpandTrace.{Expands, finished, left_over, too_short, misfit, no_output, no_stack, write, apply}
use Rattle.machine.proofs.ExpandPeak.{Moved, moved}
use Rattle.machine.proofs.Peak.{peak_form}

-- what a complete expansion has done
pub record DerivedBy (g : Grammar) (ps : List ℕ) (α : Form) (s s' : Course) : Type 0 where
  pub string : List ℕ
  pub derivation : Leftmost g α ps string
  pub written : s'.written ≡ s.written ++ string
  pub used : s'.used ≡ s.used + length ps

module _ {g : Grammar} where
  -- what fits is a production, with its right side
  pub fits_rule : (p A : ℕ) → is_of g A p ≡ true → Rule g p A (right_of g p)
  unfolding is_of right_of
  fits_rule p A e = go (get_elem? g.productions p) refl
    where
      go : (o : Option Production) → get_elem? g.productions p ≡ o → Rule g p A (right_of g p)
      go none f = let bad : ◌≡◌ {A = ℕ} 0 1 = cc in absurd (omega arith)
      go (some r) f =
          let left : r.left ≡ A = eqb-true r.left A (rw (f, is_of) at e) in
          let right : right_of g p ≡ r.right = rw (f, right_of) in
          record { at = rw (right, ← left) f }

  pub rule_fits : {p A : ℕ} {β : Form} → Rule g p A β → is_of g A p ≡ true
  unfolding is_of
  rule_fits {A = A} r = rw (r.at, is_of) (eq-eqb A A refl)

  pub misfit_no_rule : {p A : ℕ} {β : Form} → is_of g A p ≡ false → Rule g p A β → ⊥
  misfit_no_rule f r = let bad : ◌≡◌ {A = ℕ} 0 1 = cc (rule_fits r) in omega arith

  pub rule_right : {p A : ℕ} {β : Form} → Rule g p A β → right_of g p ≡ β
  unfolding right_of
  rule_right r = rw (r.at, right_of)

  applied_same : (α : Form) {p A : ℕ} {β : Form} {ps w : List ℕ} → Rule g p A β → (d : Leftmost g (β ++ α) ps w) → Moved d (right_of g p ++ α)
  applied_same α r d = moved (ap (λ (x : Form). x ++ α) (sym (rule_right r))) d

  module _ {room output : ℕ} where
    -- a complete expansion is a leftmost derivation of what it wrote
    pub complete_derives : {ps : List ℕ} {α : Form} {s s' : Course} → Expands (is_of g) (right_of g) room output ps α s (Ok tt) s' → DerivedBy g ps α s s'
    unfolding wrote applied
    complete_derives {s = s} finished = record { string = []; derivation = done; written = sym (append-nil s.written); used = omega arith }
    complete_derives {s = s} (write {t = t} f r) =
        let d = complete_derives r in
        record { string = t ∷ d.string; derivation = shift d.derivation; written = d.written ∙ append_assoc s.written (t ∷ []) d.string; used = d.used }
    complete_derives (apply {p = p} {A = A} f k r) =
        let d = complete_derives r in
        record { string = d.string; derivation = expand (fits_rule p A f) d.derivation; written = d.written; used = omega arith }

    -- its stack was as high as the derivation's greatest height
    pub complete_height : {ps w : List ℕ} {α : Form} {s s' : Course} → Expands (is_of g) (right_of g) room output ps α s (Ok tt) s' → (d : Leftmost g α ps w) → length α ≤ s.height → s'.height ≡ max s.height (peak d)
    unfolding wrote applied peak
    complete_height finished done h = omega arith
    complete_height (write f r) (shift d) h = omega (arith, complete_height r d (omega arith))
    complete_height (apply {α = α} f k r) (expand l d) h =
        let m = applied_same α l d in
        omega (arith, complete_height r m.derivation (omega arith), peak_form m.derivation, m.as_high)

    -- with room it follows a derivation to its end
    pub room_complete : {ps w : List ℕ} {α : Form} {s s' : Course} {e : Result ⊤ Obstacle} → Expands (is_of g) (right_of g) room output ps α s e s' → (d : Leftmost g α ps w) → peak d ≤ room → length s.written + length w ≤ output → e ≡ Ok tt
    unfolding wrote applied peak
    room_complete finished done h k = refl
    room_complete left_over d h k = elim d [ ]
    room_complete too_short d h k = elim d [ ]
    room_complete (misfit f) (expand l d) h k = absurd (misfit_no_rule f l)
    room_complete (no_output f) (shift d) h k = absurd (omega arith)
    room_complete (no_stack {α = α} f b) (expand l d) h k =
        let m = applied_same α l d in
        absurd (omega (arith, peak_form m.derivation, m.as_high))
    room_complete (write {t = t} {s = s} f r) (shift d) h k = room_complete r d (omega arith) (omega (arith, length-append s.written (t ∷ [])))
    room_complete (apply {α = α} f b r) (expand l d) h k =
        let m = applied_same α l d in
        room_complete r m.derivation (omega (arith, m.as_high)) k
