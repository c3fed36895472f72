-- What is derived is accepted on exact cells, and as many states are held as the derivation says.
use mathlib.Core.Path.{◌≡◌, refl, ap, subst}
use mathlib.Core.List.{List, [], ◌∷◌, ◌++◌, append_assoc, append-nil}
use mathlib.Core.Option.{Option, some}
use Prim.Native.Nat.{ℕ, suc, ◌+◌, ◌≤◌, max}
use native.Mathlib.Omega.{arith}
use lib.ListN.{length, drop}
use Rattle.grammar.specs.declared.Symbol.TheVariants.{Token, Nonterminal}
use Rattle.grammar.specs.Grammar.{Form, Grammar, Column, endmark, token, column, Rule, Follow, WellFormed}
use Rattle.grammar.specs.Machine.{front}
use Rattle.numbering.specs.Numbering.{IsState}
use Rattle.slr.specs.Rightmost.{Rightmost, done, with_token, with_nonterminal, Reduces, states_held}
use Rattle.slr.specs.Items.{Item, begin, finish, dotted, Advances, Along}
use Rattle.slr.specs.States.{collection, NumberedStates, InState}
use Rattle.slr.specs.Actions.{Action, shift, reduce, accept, ExactActions}
use Rattle.slr.specs.Actions as acting
use Rattle.slr.specs.Machine.{accepts}
use Rattle.slr.proofs.Items.{along_begin, along_advances, along_opens}
use Rattle.slr.proofs.States.{in_state, state_leads, leads_on, state_zero}
use Rattle.slr.proofs.Ahead.{Ahead, ahead_begin, ahead_whole, ahead_next, ahead_ends, Fits, fits_finish, fits_dotted, follow_after}
use Rattle.slr.proofs.Held.{most_held, held_least, Ran, held_end, drop_more, ran_most, ran_shifts, ran_reduces}

module _ (g : Grammar) (paths : List Form) (cell : ℕ → Column → Option Action) (move : ℕ → ℕ → Option ℕ) where
  -- the run goes on from any state that has the item e and stands n states above σ
  abbrev Onward : ℕ → List ℕ → Item → List ℕ → List ℕ → ℕ → Type 0
  Onward n σ e z qs most =
      (j : ℕ) (τ : List ℕ) → drop n (j ∷ τ) ≡ σ → InState g paths j e → Ran g cell move (j ∷ τ) z qs most

  -- from a state that has an item with α after the dot the machine reads w and lists ps; it comes to a state with the
  -- dot behind α, which stands as many states higher as α has symbols; meanwhile it holds so many states
  record Reads (α : Form) (ps w : List ℕ) (held : ℕ → ℕ) : Type 0 where
    read : (i e : Item) (s : ℕ) (σ : List ℕ) (γ : Form) (c : Column) (z qs : List ℕ) (most : ℕ)
        → Ahead g i α e
        → IsState (collection g) paths s γ
        → Along g γ i
        → Fits g e c
        → c ≡ front z
        → Onward (length α) (s ∷ σ) e z qs most
        → Ran g cell move (s ∷ σ) (w ++ z) (ps ++ qs) (max (held (suc (length σ))) most)

module _ {g : Grammar} (well : WellFormed g) {paths : List Form} (numbered : NumberedStates g paths)
    {cell : ℕ → Column → Option Action} {move : ℕ → ℕ → Option ℕ} (exact : ExactActions g paths cell move) where
  reads_nothing : Reads g paths cell move [] [] [] (λ k. k)
  reads_nothing =
      record { read = λ i e s σ γ c z qs most ahead is h f same then. go i e s σ γ z qs most ahead is h then }
    where
      go : (i e : Item) (s : ℕ) (σ : List ℕ) (γ : Form) (z qs : List ℕ) (most : ℕ)
          → Ahead g i [] e
          → IsState (collection g) paths s γ
          → Along g γ i
          → Onward g paths cell move 0 (s ∷ σ) e z qs most
          → Ran g cell move (s ∷ σ) z qs (max (suc (length σ)) most)
      go i e s σ γ z qs most ahead is h then =
          let a = then s σ refl (in_state is (subst (Along g γ) (ahead_ends ahead) h)) in
          ran_most a (omega (arith, held_least a.run, a.holds))

  -- one state less to be popped
  onward_less : (n : ℕ) {s to most : ℕ} {σ z qs : List ℕ} {e : Item}
      → Onward g paths cell move (suc n) (s ∷ σ) e z qs most
      → Onward g paths cell move n (to ∷ s ∷ σ) e z qs most
  onward_less n then k τ popped has = then k τ (drop_more n (k ∷ τ) popped) has

  reads_token : {t : ℕ} {α : Form} {ps w : List ℕ} {held : ℕ → ℕ}
      → Reads g paths cell move α ps w held
      → Reads g paths cell move (Token t ∷ α) ps (t ∷ w) (λ k. held (suc k))
  reads_token {t} {α} {ps} {w} {held} below =
      record { read = λ i e s σ γ c z qs most ahead. go i e s σ γ c z qs most (ahead_next ahead) }
    where
      go : (i e : Item) (s : ℕ) (σ : List ℕ) (γ : Form) (c : Column) (z qs : List ℕ) (most : ℕ)
          → (j : Item) × Advances g i (Token t) j × Ahead g j α e
          → IsState (collection g) paths s γ
          → Along g γ i
          → Fits g e c
          → c ≡ front z
          → Onward g paths cell move (suc (length α)) (s ∷ σ) e z qs most
          → Ran g cell move (s ∷ σ) (t ∷ (w ++ z)) (ps ++ qs) (max (held (suc (suc (length σ)))) most)
      go i e s σ γ c z qs most (j, advances, rest) is h f same then =
          let (to, there) = leads_on well numbered is h advances in
          let on : Along g (Token t ∷ γ) j = along_advances g γ h advances in
          let at : cell s (token t) ≡ some (shift to) =
          (exact.cells s (token t) (shift to)).1 (acting.shifts (state_leads j is there on)) in
          let less : Onward g paths cell move (length α) (to ∷ s ∷ σ) e z qs most = onward_less (length α) then in
          ran_shifts at (below.read j e to (s ∷ σ) (Token t ∷ γ) c z qs most rest there on f same less)

  reads_nonterminal : {p A : ℕ} {α β : Form} {qs ps v w : List ℕ} {inner outer : ℕ → ℕ}
      → Rule g p A β
      → Rightmost g α ps w
      → ((k : ℕ) → length β + k ≤ inner k)
      → Reads g paths cell move β qs v inner
      → Reads g paths cell move α ps w outer
      → Reads g paths cell move (Nonterminal A ∷ α) (qs ++ (p ∷ ps)) (v ++ w) (λ k. max (inner k) (outer (suc k)))
  reads_nonterminal {p} {A} {α} {β} {qs} {ps} {v} {w} {inner} {outer} r d tall right behind =
      record {
        read =
            λ i e s σ γ c z rs most ahead is h f same.
            go i e s σ γ c z rs most (ahead_next ahead) (follow_after z ahead d f same) is h f same;
      }
    where
      most_of : List ℕ → ℕ → ℕ
      most_of σ most = max (max (inner (suc (length σ))) (outer (suc (suc (length σ))))) most

      go : (i e : Item) (s : ℕ) (σ : List ℕ) (γ : Form) (c : Column) (z rs : List ℕ) (most : ℕ)
          → (j : Item) × Advances g i (Nonterminal A) j × Ahead g j α e
          → Follow g A (column (front (w ++ z)))
          → IsState (collection g) paths s γ
          → Along g γ i
          → Fits g e c
          → c ≡ front z
          → Onward g paths cell move (suc (length α)) (s ∷ σ) e z rs most
          → Ran g cell move (s ∷ σ) ((v ++ w) ++ z) ((qs ++ (p ∷ ps)) ++ rs) (most_of σ most)
      go i e s σ γ c z rs most (j, advances, rest) follow is h f same then =
          let (to, there) = leads_on well numbered is h advances in
          let on : Along g (Nonterminal A ∷ γ) j = along_advances g γ h advances in
          let moves : move s A ≡ some to = (exact.moves s A to).1 (state_leads j is there on) in
          let n : ℕ = max (outer (suc (suc (length σ)))) most in
          let m : ℕ = max (length β + suc (length σ)) n in
          let after : Ran g cell move (to ∷ s ∷ σ) (w ++ z) (ps ++ rs) n =
          behind.read j e to (s ∷ σ) (Nonterminal A ∷ γ) c z rs most rest there on f same
          (onward_less (length α) then) in
          let reduced : Onward g paths cell move (length β) (s ∷ σ) (dotted p (length β)) (w ++ z) (p ∷ (ps ++ rs)) m =
          λ k τ popped has.
          let at : cell k (front (w ++ z)) ≡ some (reduce p) =
          (exact.cells k (front (w ++ z)) (reduce p)).1 (acting.reduces r has follow) in
          ran_reduces at r popped moves after in
          let whole =
          right.read (dotted p 0) (dotted p (length β)) s σ γ (front (w ++ z)) (w ++ z) (p ∷ (ps ++ rs)) m
          (ahead_whole r) is (along_opens g γ h advances r) (fits_dotted r follow) refl reduced in
          rw (append_assoc v w z, append_assoc qs (p ∷ ps) rs) (ran_most whole (omega (arith, tall (suc (length σ)))))

  reads : {α : Form} {ps w : List ℕ} (d : Rightmost g α ps w) → Reads g paths cell move α ps w (λ k. states_held k d)
  unfolding states_held
  reads done = reads_nothing
  reads (with_token d) = reads_token (reads d)
  reads (with_nonterminal r e d) = reads_nonterminal r d (λ k. held_end k e) (reads e) (reads d)

  -- what is derived is accepted
  pub reduces_runs : {ps w : List ℕ} (d : Reduces g ps w) → Ran g cell move (0 ∷ []) w ps (states_held 1 d)
  unfolding most_held
  reduces_runs {ps} {w} d =
      let whole =
      (reads d).read begin finish 0 [] [] endmark [] [] 2 ahead_begin (state_zero well numbered)
      (along_begin g) fits_finish refl last in
      let most : max (states_held 1 d) 2 ≡ states_held 1 d = omega (arith, held_end 1 d) in
      rw (append-nil w, append-nil ps) at (ran_most whole most)
    where
      last : (j : ℕ) (τ : List ℕ) → τ ≡ 0 ∷ [] → InState g paths j finish → Ran g cell move (j ∷ τ) [] [] 2
      last j τ e has =
          record {
            run = accepts ((exact.cells j endmark accept).1 (acting.accepts has));
            holds = omega (arith, ap (λ (x : List ℕ). length x) e);
          }
