-- The LL(1) machine on exact cells: it accepts a string with a list exactly if the list is the string's leftmost derivation, and where it
-- stops, what it has read is the longest beginning that some derivable string shares.
use mathlib.Core.Path.{◌≡◌, refl, sym, ◌∙◌, ap, subst}
use mathlib.Core.Logic.{◌≢◌}
use mathlib.Core.List.{List, [], ◌∷◌, ◌++◌, append_assoc, append-nil}
use mathlib.Core.Option.{Option, some, none}
use Prim.Native.Nat.{ℕ}
use native.Mathlib.Omega.{arith}
use Rattle.grammar.specs.declared.Symbol.TheVariants.{Token, Nonterminal}
use Rattle.grammar.specs.Grammar.{Form, spelled, Grammar, Column, Rule, replace, Derives, itself, step, Sentential, Derivable, Leftmost, done, shift, Complete, Claims, Cell, only, Conflict}
use Rattle.grammar.specs.Grammar as textbook
use Rattle.grammar.specs.Machine.{front, Exact, Run, here, match, expand, Stopped, left_over, unmatched, vacant}
use Rattle.grammar.proofs.Derivation.{derives_behind}
use Rattle.grammar.proofs.Leftmost.{derives_leftmost, rule_same}
use Rattle.grammar.proofs.Unique.{leads_claims, sentential_expand, claims_same}

front_behind : (u y z : List ℕ) → front y ≡ front z → front (u ++ y) ≡ front (u ++ z)
front_behind [] y z e = e
front_behind (t ∷ u) y z e = refl

module _ {g : Grammar} {cell : ℕ → Column → Option ℕ} where
  pub claims_cell : Exact g cell → {A : ℕ} {c : Column} {p : ℕ} → Claims g A c p → cell A c ≡ some p
  claims_cell x {A} {c} {p} h = go (x.cells A c) refl
    where
      go : {o : Option ℕ} → Cell g A c o → cell A c ≡ o → cell A c ≡ some p
      go (only k same) e = e ∙ ap some (sym (same p h))
      go (textbook.vacant none_claims) e = absurd (none_claims p h)

  pub exact_no_conflict : Exact g cell → ¬ Conflict g
  exact_no_conflict x k =
      let one : cell k.row k.col ≡ some k.one = claims_cell x k.claims_one in
      let other : cell k.row k.col ≡ some k.other = claims_cell x k.claims_other in
      k.distinct (cc)

  -- without conflict, cells that hold a claimant wherever there is one, and nothing else, are exact
  pub cells_exact : ¬ Conflict g → ((A : ℕ) (c : Column) (p : ℕ) → cell A c ≡ some p → Claims g A c p) → ((A : ℕ) (c : Column) (p : ℕ) → Claims g A c p → cell A c ≢ none) → Exact g cell
  cells_exact n held found = record { cells = λ A c. go A c (cell A c) refl }
    where
      go : (A : ℕ) (c : Column) (o : Option ℕ) → cell A c ≡ o → Cell g A c o
      go A c (some p) e = only (held A c p e) (λ q k. claims_same n k (held A c p e))
      go A c none e = textbook.vacant (λ q k. found A c q k e)

  -- the machine follows a leftmost derivation to its end
  pub run_from : Exact g cell → (x : Form) {α : Form} {ps w : List ℕ} → Sentential g (x ++ α) → Leftmost g α ps w → Run g cell [] α w ps []
  run_from h x s done = here
  run_from h x s (shift {t = t} d) = match (run_from h (x ++ (Token t ∷ [])) (rw append_assoc s) d)
  run_from h x s (textbook.expand {p = p} {A = A} {α = α} {w = w} r d) =
      let c : cell A (front (w ++ [])) ≡ some p = rw (append-nil w) (claims_cell h (leads_claims x α s r d)) in
      expand c r (run_from h x (sentential_expand x α s r) d)

  pub run_leftmost : {z : List ℕ} {α : Form} {u ps : List ℕ} → Run g cell z α u ps [] → Leftmost g α ps u
  run_leftmost here = done
  run_leftmost (match r) = shift (run_leftmost r)
  run_leftmost (expand e k r) = textbook.expand k (run_leftmost r)

  pub run_derives : {z : List ℕ} {α β : Form} {u ps : List ℕ} → Run g cell z α u ps β → Derives g α (spelled u ++ β)
  run_derives here = itself
  run_derives (match {t = t} r) = derives_behind (Token t ∷ []) (run_derives r)
  run_derives (expand {α = α} e k r) = step (replace [] α k) (run_derives r)

  -- the machine sees no further than one column
  pub run_front : (y z : List ℕ) → front y ≡ front z → {α β : Form} {u ps : List ℕ} → Run g cell y α u ps β → Run g cell z α u ps β
  run_front y z e here = here
  run_front y z e (match r) = match (run_front y z e r)
  run_front y z e (expand {p = p} {A = A} {u = u} c k r) =
      let d : cell A (front (u ++ z)) ≡ some p = ap (cell A) (sym (front_behind u y z e)) ∙ c in
      expand d k (run_front y z e r)

  -- whoever accepts u ++ z passes through where the machine stands after u
  pub run_through : {z : List ℕ} {α β : Form} {u ps : List ℕ} → Run g cell z α u ps β → {v qs : List ℕ} → Run g cell [] α v qs [] → v ≡ u ++ z → (rs : List ℕ) × Run g cell [] β z rs []
  run_through {β = β} here {qs = qs} a e = (qs, subst (λ (x : List ℕ). Run g cell [] β x qs []) e a)
  run_through (match r) (match a) e = run_through r a (cc)
  run_through {z} (expand {p = p} {A = A} {α = α} {γ = γ} {u = u} c k r) {v} (expand {p = q} {γ = δ} {ps = qs} d l a) e =
      let same : q ≡ p =
      let one : cell A (front (u ++ z)) ≡ some q = ap (λ (x : List ℕ). cell A (front x)) (sym (append-nil v ∙ e)) ∙ d in
      cc in
      let right : δ ≡ γ = (rule_same (subst (λ (o : ℕ). Rule g o A δ) same l) k).1 in
      run_through r (subst (λ (x : Form). Run g cell [] (x ++ α) v qs []) right a) e

  stopped_for_good : {β : Form} {y z rs : List ℕ} → Stopped g cell β z → front y ≡ front z → Run g cell [] β y rs [] → ⊥
  stopped_for_good left_over e here = let bad : ◌≡◌ {A = ℕ} 0 1 = cc in absurd (omega arith)
  stopped_for_good (unmatched n) e (match r) = n (sym e)
  stopped_for_good {y = y} (vacant {A = A} n) e (expand {p = p} d k r) =
      let one : cell A (front y) ≡ some p = ap (λ (x : List ℕ). cell A (front x)) (sym (append-nil y)) ∙ d in
      let two : cell A (front y) ≡ none = ap (cell A) e ∙ n in
      let bad : ◌≡◌ {A = ℕ} 0 1 = cc in
      absurd (omega arith)

  -- where the machine stops, no derivable string goes on with the column that it saw
  pub blocked : Exact g cell → {z : List ℕ} {β : Form} {u ps : List ℕ} → Run g cell z (Nonterminal g.start ∷ []) u ps β → Stopped g cell β z → (y : List ℕ) → front y ≡ front z → ¬ Derivable g (u ++ y)
  blocked h {z} {u = u} r s y e d =
      let found : (qs : List ℕ) × Complete g qs (u ++ y) = derives_leftmost (u ++ y) d in
      let passed = run_through (run_front z y (sym e) r) (run_from h [] itself found.1) refl in
      stopped_for_good s e passed.1
