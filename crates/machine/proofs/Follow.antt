-- On a derivable string the machine follows the leftmost derivation, as far as the room goes.
use mathlib.Core.Path.{◌≡◌, refl, sym, ◌∙◌, ap, subst}
use mathlib.Core.List.{List, [], ◌∷◌, ◌++◌, append_assoc}
use mathlib.Core.Option.{Option, some}
use Prim.Native.Nat.{ℕ, ◌≤◌, max}
use native.Mathlib.Omega.{arith}
use lib.ListN.{length}
use Rattle.grammar.specs.declared.Symbol.TheVariants.{Token, Nonterminal}
use Rattle.grammar.specs.Grammar.{Form, Grammar, Column, Sentential, Leftmost, Claims}
use Rattle.grammar.specs.Machine.{front, Exact}
use Rattle.grammar.proofs.Machine.{claims_cell}
use Rattle.grammar.proofs.Unique.{leads_claims, sentential_expand}
use Rattle.machine.specs.Machine.{State, popped, replaced}
use Rattle.machine.specs.Room.{right_of, peak}
use Rattle.machine.proofs.Walk.{Walk, here, match, expand}
use Rattle.machine.proofs.Peak.{peak_form, Shifts, leftmost_token, Expands, leftmost_row}

-- the derivation d from the state s, followed to the state e with z unread
pub record Followed (g : Grammar) (z : List ℕ) (s e : State) {σ : Form} {ps w : List ℕ} (d : Leftmost g σ ps w) : Type 0 where
  pub rest : List ℕ
  pub lists : s.listed ++ ps ≡ e.listed ++ rest
  pub after : Leftmost g e.stack rest z
  pub peaks : length s.stack ≤ s.height → max s.height (peak d) ≡ max e.height (peak after)
  pub read : Form
  pub ahead : Sentential g (read ++ e.stack)

module _ {g : Grammar} {z : List ℕ} {s e : State} {ps w : List ℕ} {d : Leftmost g s.stack ps w} where
  followed_match : {t : ℕ} {α : Form} {v : List ℕ} → s.stack ≡ Token t ∷ α → (k : Shifts d α v) → Followed g z (popped α s) e k.after → Followed g z s e d
  unfolding popped
  followed_match {α = α} f k n =
      let low : length s.stack ≤ s.height → max s.height (peak d) ≡ max e.height (peak n.after) = λ h. omega (arith, ap length f, k.peaks, n.peaks (omega (arith, ap length f))) in
      record { rest = n.rest; lists = n.lists; after = n.after; peaks = low; read = n.read; ahead = n.ahead }

  followed_use : {A p : ℕ} {α : Form} → s.stack ≡ Nonterminal A ∷ α → (k : Expands d A α p) → Followed g z (replaced p (right_of g p ++ α) s) e k.after → Followed g z s e d
  unfolding replaced
  followed_use {p = p} {α = α} f k n =
      let low : length s.stack ≤ s.height → max s.height (peak d) ≡ max e.height (peak n.after) = λ h. omega (arith, ap length f, k.peaks, peak_form k.after, n.peaks (omega arith)) in
      let lists : s.listed ++ ps ≡ e.listed ++ n.rest = rw k.lists (sym (append_assoc s.listed (p ∷ []) k.later) ∙ n.lists) in
      record { rest = n.rest; lists = lists; after = n.after; peaks = low; read = n.read; ahead = n.ahead }

module _ {g : Grammar} {cell : ℕ → Column → Option ℕ} (exact : Exact g cell) where
  -- where the machine follows a derivation, the cell holds the derivation's production
  pub followed_cell : (x : Form) {σ : Form} {ps w : List ℕ} (d : Leftmost g σ ps w) {A p : ℕ} {α : Form} → Sentential g (x ++ σ) → σ ≡ Nonterminal A ∷ α → cell A (front w) ≡ some p → Expands d A α p
  followed_cell x {w = w} d {A} {p} {α} s e c =
      let (next, k) = leftmost_row d e in
      let claim : Claims g A (front w) next = leads_claims x α (rw e at s) k.rule k.after in
      let held : cell A (front w) ≡ some next = claims_cell exact claim in
      let same : next ≡ p = cc in
      subst (λ (q : ℕ). Expands d A α q) same k

  -- the machine follows the derivation
  pub follow : {room cells : ℕ} {z : List ℕ} {e : State} {w : List ℕ} {s : State} → Walk (right_of g) cell room cells z e w s → (x : Form) → Sentential g (x ++ s.stack) → {ps : List ℕ} (d : Leftmost g s.stack ps w) → Followed g z s e d
  unfolding popped replaced
  follow here x t {ps} d = record { rest = ps; lists = refl; after = d; peaks = λ h. refl; read = x; ahead = t }
  follow (match {t = b} {α = α} {w = w} {s = s} f r) x t d =
      let k : Shifts d α w = leftmost_token d f refl in
      let ahead : Sentential g ((x ++ (Token b ∷ [])) ++ α) = rw append_assoc (rw f at t) in
      followed_match f k (follow r (x ++ (Token b ∷ [])) ahead k.after)
  follow (expand {p = p} {A = A} {α = α} {w = w} {s = s} f c l m r) x t d =
      let k : Expands d A α p = followed_cell x d t f c in
      let ahead : Sentential g (x ++ (right_of g p ++ α)) = sentential_expand x α (rw f at t) k.rule in
      followed_use f k (follow r x ahead k.after)
