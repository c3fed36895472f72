-- The definition of the machine, one equation for each case.
use mathlib.Core.Path.{◌≡◌, refl, sym, ◌∙◌, ap}
use mathlib.Core.Logic.{◌≢◌}
use mathlib.Core.Bool.{true, false}
use mathlib.Core.List.{List, [], ◌∷◌, ◌++◌}
use mathlib.Core.Option.{Option, some, none}
use Prim.Native.Nat.{ℕ, zero, suc, ◌+◌, ◌-◌, ◌≤◌, ◌<◌}
use native.Mathlib.Omega.{arith}
use lib.ListN.{length, length-append}
use borrow.Author.Tests.{le-leb, lt-leb, eq-eqb, ne_eqb}
use Rattle.grammar.specs.declared.Symbol.TheVariants.{Token, Nonterminal}
use Rattle.grammar.specs.Grammar.{Form, Column, token, endmark}
use Rattle.grammar.specs.Machine.{front}
use Rattle.machine.specs.Machine.{State, Offered, taken, stopped, popped, replaced, meets, used, facing, offer, run_from}
use Rattle.machine.specs.declared.Reason.{Reason}
use Rattle.machine.specs.declared.Reason.TheVariants.{FullList, FullStack, WantsEnd, WantsToken, WantsRow}
use Rattle.machine.proofs.Walk.{Halt, accepts, left_over, unmatched, vacant, list_full, stack_full}

meets_same : (t : ℕ) → meets (token t) t ≡ true
unfolding meets
meets_same t = eq-eqb t t refl

meets_other : (c : Column) (t : ℕ) → c ≢ token t → meets c t ≡ false
unfolding meets
meets_other (token s) t n = ne_eqb s t (λ e. n (ap token e))
meets_other endmark t n = refl

module _ (right : ℕ → Form) (cell : ℕ → Column → Option ℕ) (room cells : ℕ) where
  abbrev offers : ℕ → Column → State → Offered
  offers = offer right cell room cells

  abbrev faces : (ℕ → Form → Offered) → Column → State → Form → Offered
  faces = facing right cell room cells

  face_end : (apply : ℕ → Form → Offered) {c : Column} (s : State) {σ : Form} → σ ≡ [] → c ≡ endmark → faces apply c s σ ≡ taken s
  unfolding facing
  face_end apply s e f = rw (e, f)

  face_left_over : (apply : ℕ → Form → Offered) {c : Column} (s : State) {t : ℕ} {σ : Form} → σ ≡ [] → c ≡ token t → faces apply c s σ ≡ stopped WantsEnd s
  unfolding facing
  face_left_over apply s e f = rw (e, f)

  face_match : (apply : ℕ → Form → Offered) (s : State) {t : ℕ} {α σ : Form} → σ ≡ Token t ∷ α → faces apply (token t) s σ ≡ taken (popped α s)
  unfolding facing
  face_match apply s {t} e = rw (e, meets_same t, facing)

  face_unmatched : (apply : ℕ → Form → Offered) {c : Column} (s : State) {t : ℕ} {α σ : Form} → σ ≡ Token t ∷ α → c ≢ token t → faces apply c s σ ≡ stopped (WantsToken t) s
  unfolding facing
  face_unmatched apply {c} s {t} e n = rw (e, meets_other c t n, facing)

  face_vacant : (apply : ℕ → Form → Offered) {c : Column} (s : State) {A : ℕ} {α σ : Form} → σ ≡ Nonterminal A ∷ α → cell A c ≡ none → faces apply c s σ ≡ stopped (WantsRow A) s
  unfolding facing
  face_vacant apply s e f = rw (e, f, facing)

  face_filled : (apply : ℕ → Form → Offered) {c : Column} (s : State) {A p : ℕ} {α σ : Form} → σ ≡ Nonterminal A ∷ α → cell A c ≡ some p → faces apply c s σ ≡ apply p α
  unfolding facing
  face_filled apply s e f = rw (e, f, facing)

  -- what an offer does first is said by the top of the stack
  offer_faces : (l : ℕ) (c : Column) (s : State) → (apply : ℕ → Form → Offered) × (offers l c s ≡ faces apply c s s.stack)
  unfolding offer
  offer_faces zero c s = (_, refl)
  offer_faces (suc l) c s = (_, refl)

  -- the token on top is matched
  pub offer_match : (l : ℕ) (s : State) {t : ℕ} {α : Form} → s.stack ≡ Token t ∷ α → offers l (token t) s ≡ taken (popped α s)
  offer_match l s {t} e = let (apply, f) = offer_faces l (token t) s in f ∙ face_match apply s e

  -- a production is used where list and stack have room
  pub offer_use : (l : ℕ) {c : Column} (s : State) {p A : ℕ} {α : Form} → s.stack ≡ Nonterminal A ∷ α → cell A c ≡ some p → length (right p ++ α) ≤ room → offers (suc l) c s ≡ offers l c (replaced p (right p ++ α) s)
  unfolding offer used
  offer_use l s {p} {α = α} e f h = face_filled _ s e f ∙ rw (le-leb (length (right p ++ α)) room h, used)

  offer_full_list : {c : Column} (s : State) {p A : ℕ} {α : Form} → s.stack ≡ Nonterminal A ∷ α → cell A c ≡ some p → offers zero c s ≡ stopped FullList s
  unfolding offer
  offer_full_list s e f = face_filled _ s e f

  offer_full_stack : (l : ℕ) {c : Column} (s : State) {p A : ℕ} {α : Form} → s.stack ≡ Nonterminal A ∷ α → cell A c ≡ some p → room < length (right p ++ α) → offers (suc l) c s ≡ stopped FullStack s
  unfolding offer used
  offer_full_stack l s {p} {α = α} e f h = face_filled _ s e f ∙ rw (lt-leb (length (right p ++ α)) room h, used)

  -- where no move is made
  pub offer_halt : (l : ℕ) {c : Column} {s : State} {o : Offered} → length s.listed + l ≡ cells → Halt right cell room cells c s o → offers l c s ≡ o
  offer_halt l {c} {s} k (accepts e f) = let (apply, g) = offer_faces l c s in g ∙ face_end apply s e f
  offer_halt l {c} {s} k (left_over e f) = let (apply, g) = offer_faces l c s in g ∙ face_left_over apply s e f
  offer_halt l {c} {s} k (unmatched e f) = let (apply, g) = offer_faces l c s in g ∙ face_unmatched apply s e f
  offer_halt l {c} {s} k (vacant e f) = let (apply, g) = offer_faces l c s in g ∙ face_vacant apply s e f
  offer_halt zero {s = s} k (list_full e f h) = offer_full_list s e f
  offer_halt (suc l) k (list_full e f h) = absurd (omega arith)
  offer_halt zero k (stack_full e f h m) = absurd (omega arith)
  offer_halt (suc l) {s = s} k (stack_full e f h m) = offer_full_stack l s e f m

  halt_token : {t : ℕ} {s : State} {o : Offered} → Halt right cell room cells (token t) s o → (r : Reason) × (o ≡ stopped r s)
  halt_token (accepts e f) = let bad : ◌≡◌ {A = ℕ} 0 1 = cc in absurd (omega arith)
  halt_token (left_over e f) = (_, refl)
  halt_token (unmatched e f) = (_, refl)
  halt_token (vacant e f) = (_, refl)
  halt_token (list_full e f h) = (_, refl)
  halt_token (stack_full e f h m) = (_, refl)

  -- so many list cells are left in a state
  abbrev left : State → ℕ
  left s = cells - length s.listed

  offer_left : {c : Column} (s : State) {p A : ℕ} {α : Form} → s.stack ≡ Nonterminal A ∷ α → cell A c ≡ some p → length s.listed < cells → length (right p ++ α) ≤ room → offers (left s) c s ≡ offers (left (replaced p (right p ++ α) s)) c (replaced p (right p ++ α) s)
  unfolding replaced
  offer_left {c} s {p} {α = α} e f h m =
      let one : left s ≡ suc (left (replaced p (right p ++ α) s)) = omega (arith, length-append s.listed (p ∷ [])) in
      ap (λ (l : ℕ). offers l c s) one ∙ offer_use (left (replaced p (right p ++ α) s)) s e f m

  abbrev runs : List ℕ → State → Offered
  runs = run_from right cell room cells

  -- a token that is taken lets the run go on, and a stop ends it
  pub run_taken : (t : ℕ) (w : List ℕ) (s : State) {e : State} → offers (left s) (token t) s ≡ taken e → runs (t ∷ w) s ≡ runs w e
  unfolding run_from
  run_taken t w s f = rw (f, run_from)

  pub run_stopped : (t : ℕ) (w : List ℕ) (s : State) {r : Reason} {e : State} → offers (left s) (token t) s ≡ stopped r e → runs (t ∷ w) s ≡ stopped r e
  unfolding run_from
  run_stopped t w s f = rw (f, run_from)

  -- a run matches, uses a production and halts as an offer does
  pub run_match : (w : List ℕ) (s : State) {t : ℕ} {α : Form} → s.stack ≡ Token t ∷ α → runs (t ∷ w) s ≡ runs w (popped α s)
  run_match w s {t} e = run_taken t w s (offer_match (left s) s e)

  pub run_use : (w : List ℕ) (s : State) {p A : ℕ} {α : Form} → s.stack ≡ Nonterminal A ∷ α → cell A (front w) ≡ some p → length s.listed < cells → length (right p ++ α) ≤ room → runs w s ≡ runs w (replaced p (right p ++ α) s)
  unfolding run_from
  run_use [] s e f h m = offer_left s e f h m
  run_use (t ∷ w) s e f h m = rw (offer_left s e f h m, run_from)

  pub run_halt : (w : List ℕ) {s : State} {o : Offered} → length s.listed ≤ cells → Halt right cell room cells (front w) s o → runs w s ≡ o
  unfolding run_from
  run_halt [] {s} h k = offer_halt (left s) (omega arith) k
  run_halt (t ∷ w) {s} h k = let (r, f) = halt_token k in run_stopped t w s (offer_halt (left s) (omega arith) k ∙ f) ∙ sym f
