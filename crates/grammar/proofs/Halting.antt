-- Halting: driven by exact cells the machine stops on every string, accepting it or at a syntax error.
use mathlib.Core.Path.{◌≡◌, refl, sym, ◌∙◌, ap, subst}
use mathlib.Core.List.{List, [], ◌∷◌, ◌++◌, append_assoc, append-nil}
use mathlib.Core.Option.{Option, some}
use Prim.Native.Nat.{ℕ}
use native.Mathlib.Decide.{ℕ_discrete}
use native.Mathlib.Omega.{arith}
use Rattle.grammar.specs.declared.Symbol.TheVariants.{Token, Nonterminal}
use Rattle.grammar.specs.Grammar.{Form, spelled, Grammar, Column, token, endmark, column, empty, Rule, replace, Derives, step, Sentential, Leftmost, done, First, starts, vanishes, Follow, before, last, Lookahead, first, follow, Claims, Cell, only}
use Rattle.grammar.specs.Grammar as textbook
use Rattle.grammar.specs.Machine as machine
use Rattle.grammar.specs.Machine.{front, Exact, Run, here, match, Halted, accepted, stopped, left_over, unmatched, vacant}
use Rattle.grammar.proofs.Derivation.{derives_trans, derives_behind, derives_before}
use Rattle.grammar.proofs.Leftmost.{Split, leftmost_split, leftmost_derives, derives_leftmost}
use Rattle.grammar.proofs.Unique.{sentential_expand}
use Rattle.grammar.proofs.Machine.{claims_cell}
use Rattle.grammar.proofs.Starting.{Started, starting, starting_derives, start_run}

-- a form that begins with the column: its token, or nothing where that is the end mark
data Heads : Column → Form → Type 0 where
  heads_token : {t : ℕ} {y : Form} → Heads (token t) (Token t ∷ y)
  heads_end : Heads endmark []

nil_left : (u v : List ℕ) → [] ≡ u ++ v → u ≡ []
nil_left [] v e = refl
nil_left (t ∷ u) v e = let bad : ◌≡◌ {A = ℕ} 0 1 = cc in absurd (omega arith)

token_same : {t y : ℕ} → token y ≡ token t → t ≡ y
token_same e = cc

end_no_token : {t : ℕ} → endmark ≡ token t → ⊥
end_no_token e = let bad : ◌≡◌ {A = ℕ} 0 1 = cc in absurd (omega arith)

module _ {g : Grammar} where
  follow_heads : (x : Form) {A : ℕ} {y : Form} {c : Column} → Heads c y → Sentential g (x ++ (Nonterminal A ∷ y)) → Follow g A (column c)
  follow_heads x (heads_token {y = y}) s = before x y s
  follow_heads x heads_end s = last x s

  -- a form that vanishes does so part by part
  vanishing : (β α : Form) {ps : List ℕ} → Leftmost g (β ++ α) ps [] → Derives g β [] × Derives g α []
  vanishing β α {ps} d =
      let cut : Split g β α ps [] = leftmost_split d β α refl in
      let e : cut.string_left ≡ [] = nil_left cut.string_left cut.string_right cut.strings in
      let f : cut.string_right ≡ [] = ap (λ (u : List ℕ). u ++ cut.string_right) (sym e) ∙ sym cut.strings in
      (subst (λ (u : List ℕ). Derives g β (spelled u)) e (leftmost_derives cut.left), subst (λ (u : List ℕ). Derives g α (spelled u)) f (leftmost_derives cut.right))

  module _ {cell : ℕ → Column → Option ℕ} (exact : Exact g cell) where
    vanish_run : {γ : Form} {ps : List ℕ} → Leftmost g γ ps [] → (x y : Form) {c : Column} → Heads c y → Sentential g (x ++ (γ ++ y)) → (α : Form) (z : List ℕ) → front z ≡ c → Run g cell z (γ ++ α) [] ps α
    vanish_run done x y h s α z e = here
    vanish_run (textbook.expand {p = p} {A = A} {α = γ} {β = β} {ps = ps} r d) x y {c} h s α z e =
        let (empties, rest) = vanishing β γ d in
        let after : Sentential g (x ++ (Nonterminal A ∷ y)) = derives_trans s (derives_behind x (derives_behind (Nonterminal A ∷ []) (derives_before y rest))) in
        let claim : Claims g A c p = record { right = β; rule = r; ahead = follow (vanishes empties) (follow_heads x h after) } in
        let inner : Run g cell z ((β ++ γ) ++ α) [] ps α = vanish_run d x y h (rw append_assoc (sentential_expand x (γ ++ y) s r)) α z e in
        machine.expand (ap (cell A) e ∙ claims_cell exact claim) r (rw append_assoc at inner)

    run_append : {y : List ℕ} {α β : Form} {u ps : List ℕ} → Run g cell y α u ps β → {z v qs : List ℕ} {γ : Form} → y ≡ v ++ z → Run g cell z β v qs γ → Run g cell z α (u ++ v) (ps ++ qs) γ
    run_append here e k = k
    run_append (match r) e k = match (run_append r e k)
    run_append {y} (machine.expand {p = p} {A = A} {u = u} c l r) {z} {v} e k =
        let d : cell A (front ((u ++ v) ++ z)) ≡ some p = rw (append_assoc, ← e) c in
        machine.expand d l (run_append r e k)

    halted_after : {y : List ℕ} {α β : Form} {u ps : List ℕ} → Run g cell y α u ps β → Halted g cell β y → Halted g cell α (u ++ y)
    halted_after {y} r (accepted k) = accepted (run_append r (sym (append-nil y)) k)
    halted_after {y} {u = u} r (stopped v z e k s) = stopped (u ++ v) z (rw (e, append_assoc)) (run_append r e k) s

    -- a column that follows A lets the machine pop it by productions that vanish
    popped : (x α : Form) (z : List ℕ) {p A : ℕ} {β : Form} → Sentential g (x ++ (Nonterminal A ∷ α)) → cell A (front z) ≡ some p → Rule g p A β → First g β empty → Follow g A (column (front z)) → (Sentential g (x ++ α) → Halted g cell α z) → Halted g cell (Nonterminal A ∷ α) z
    popped x α z {p} {A} {β} s c r (vanishes d) f pop = go refl f
      where
        empties : (qs : List ℕ) × Leftmost g β qs []
        empties = derives_leftmost [] d

        rest : Halted g cell α z
        rest = pop (derives_trans s (step (replace x α r) (derives_behind x (derives_before α d))))

        by : (u y : Form) {k : Column} → Heads k y → Sentential g (u ++ (Nonterminal A ∷ y)) → front z ≡ k → Halted g cell (Nonterminal A ∷ α) z
        by u y h t e = halted_after (machine.expand c r (vanish_run empties.1 u y h (sentential_expand u y t r) α z e)) rest

        go : {k : Column} → front z ≡ k → Follow g A (column k) → Halted g cell (Nonterminal A ∷ α) z
        go e (before {t = t} u v t') = by u (Token t ∷ v) heads_token t' e
        go e (last u t') = by u [] heads_end t' e

    -- a token that the right side starts with is read
    advanced : (x α : Form) (t : ℕ) (y : List ℕ) {p A : ℕ} {β : Form} → Sentential g (x ++ (Nonterminal A ∷ α)) → cell A (token t) ≡ some p → Rule g p A β → First g β (column (token t)) → ((v δ : Form) → Sentential g (v ++ δ) → Halted g cell δ y) → Halted g cell (Nonterminal A ∷ α) (t ∷ y)
    advanced x α t y {β = β} s c r (starts γ d) next =
        let put : Sentential g (x ++ (β ++ α)) = sentential_expand x α s r in
        let h : Started g t (β ++ α) = starting (derives_before α d) (γ ++ α) refl in
        let ahead : Sentential g ((x ++ (Token t ∷ [])) ++ h.rest) = rw append_assoc (derives_trans put (derives_behind x (starting_derives h.by))) in
        halted_after (machine.expand c r (start_run exact x put h.by y)) (next (x ++ (Token t ∷ [])) h.rest ahead)

    turn_end : (x : Form) (A : ℕ) (α : Form) → Sentential g (x ++ (Nonterminal A ∷ α)) → (Sentential g (x ++ α) → Halted g cell α []) → Halted g cell (Nonterminal A ∷ α) []
    turn_end x A α s pop = go (exact.cells A endmark) refl
      where
        looked : {p : ℕ} {β : Form} → cell A endmark ≡ some p → Rule g p A β → Lookahead g A β (column endmark) → Halted g cell (Nonterminal A ∷ α) []
        looked c r (first f) = elim f [ ]
        looked c r (follow v f) = popped x α [] s c r v f pop

        go : {o : Option ℕ} → Cell g A endmark o → cell A endmark ≡ o → Halted g cell (Nonterminal A ∷ α) []
        go (only k same) e = looked e k.rule k.ahead
        go (textbook.vacant n) e = stopped [] [] refl here (machine.vacant e)

    turn_token : (t : ℕ) (y : List ℕ) → ((v δ : Form) → Sentential g (v ++ δ) → Halted g cell δ y) → (x : Form) (A : ℕ) (α : Form) → Sentential g (x ++ (Nonterminal A ∷ α)) → (Sentential g (x ++ α) → Halted g cell α (t ∷ y)) → Halted g cell (Nonterminal A ∷ α) (t ∷ y)
    turn_token t y next x A α s pop = go (exact.cells A (token t)) refl
      where
        looked : {p : ℕ} {β : Form} → cell A (token t) ≡ some p → Rule g p A β → Lookahead g A β (column (token t)) → Halted g cell (Nonterminal A ∷ α) (t ∷ y)
        looked c r (first f) = advanced x α t y s c r f next
        looked c r (follow v f) = popped x α (t ∷ y) s c r v f pop

        go : {o : Option ℕ} → Cell g A (token t) o → cell A (token t) ≡ o → Halted g cell (Nonterminal A ∷ α) (t ∷ y)
        go (only k same) e = looked e k.rule k.ahead
        go (textbook.vacant n) e = stopped [] (t ∷ y) refl here (machine.vacant e)

    match_next : (t y : ℕ) (z : List ℕ) (α : Form) → Halted g cell α z → Halted g cell (Token t ∷ α) (y ∷ z)
    match_next t y z α h = go (ℕ_discrete t y)
      where
        go : Dec (t ≡ y) → Halted g cell (Token t ∷ α) (y ∷ z)
        go (yes e) = subst (λ (n : ℕ). Halted g cell (Token t ∷ α) (n ∷ z)) e (halted_after (match {t = t} here) h)
        go (no n) = stopped [] (y ∷ z) refl here (unmatched (λ e. n (token_same e)))

    halts_end : (x α : Form) → Sentential g (x ++ α) → Halted g cell α []
    halts_end x [] s = accepted here
    halts_end x (Token t ∷ α) s = stopped [] [] refl here (unmatched end_no_token)
    halts_end x (Nonterminal A ∷ α) s = turn_end x A α s (halts_end x α)

    halts_token : (t : ℕ) (y : List ℕ) → ((v δ : Form) → Sentential g (v ++ δ) → Halted g cell δ y) → (x α : Form) → Sentential g (x ++ α) → Halted g cell α (t ∷ y)
    halts_token t y next x [] s = stopped [] (t ∷ y) refl here left_over
    halts_token t y next x (Token b ∷ α) s = match_next b t y α (next (x ++ (Token b ∷ [])) α (rw append_assoc s))
    halts_token t y next x (Nonterminal A ∷ α) s = turn_token t y next x A α s (halts_token t y next x α)

    pub halts_from : (w : List ℕ) (x α : Form) → Sentential g (x ++ α) → Halted g cell α w
    halts_from [] x α s = halts_end x α s
    halts_from (t ∷ w) x α s = halts_token t w (halts_from w) x α s
