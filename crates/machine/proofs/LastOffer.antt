-- The last offer of a run: the machine comes to it by matching one token after the other, and the outcome is what it answers there.
use mathlib.Core.Path.{◌≡◌, refl, sym, ◌∙◌, ap, subst, subst₂}
use mathlib.Core.List.{List, [], ◌∷◌, ◌++◌, append_assoc, append-nil}
use mathlib.Core.Option.{Option, some}
use Prim.Native.Nat.{ℕ, zero, suc, ◌+◌, ◌-◌, ◌≤◌, ◌<◌}
use native.Mathlib.Omega.{arith}
use lib.ListN.{length}
use Rattle.grammar.specs.declared.Symbol.TheVariants.{Token, Nonterminal}
use Rattle.grammar.specs.Grammar.{Form, Grammar, Column, token}
use Rattle.grammar.specs.Machine.{front}
use Rattle.grammar.specs.Next.{Consumes, matched, used, ConsumesAll, none_yet, one_more}
use Rattle.machine.specs.Machine.{State, Offered, taken, stopped, popped, replaced, offer, run_from}
use Rattle.machine.specs.declared.Reason.{Reason}
use Rattle.machine.specs.Room.{right_of}
use Rattle.machine.specs.Last.{last_from}
use Rattle.machine.proofs.Walk.{Walk, here, expand, Halt, accepts, ComesTo, goes_on, ends}
use Rattle.machine.proofs.Offer.{offer_match, offer_use, offer_halt, run_taken, run_stopped}
use Rattle.machine.proofs.Agreement.{Next, halts, matches, uses, next, walk_lists, offer_answers}
use Rattle.machine.proofs.Agreement as agreement
use Rattle.machine.proofs.Relation.{Rows}

-- offered the first column of w in the state s, the machine matches it, or it halts
pub data OneOffer (g : Grammar) (cell : ℕ → Column → Option ℕ) (room cells : ℕ) (w : List ℕ) (s : State) : Offered → Type 0 where
  by_match : {t : ℕ} {y qs : List ℕ} {e : State} → w ≡ t ∷ y → Consumes g cell t s.stack qs e.stack → e.listed ≡ s.listed ++ qs → e.matched ≡ suc s.matched → OneOffer g cell room cells w s (taken e)
  by_halt : {e : State} {o : Offered} → Walk (right_of g) cell room cells w e w s → Halt (right_of g) cell room cells (front w) e o → OneOffer g cell room cells w s o

-- the last offer of a run over w from the state s: the tokens read before it are matched one after the other, and what it answers is the outcome
pub record LastOffer (g : Grammar) (cell : ℕ → Column → Option ℕ) (room cells : ℕ) (w : List ℕ) (s last : State) (o : Offered) : Type 0 where
  pub read : List ℕ
  pub rest : List ℕ
  pub new : List ℕ
  pub string : w ≡ read ++ rest
  pub takes : ConsumesAll g cell s.stack read new last.stack
  pub lists : last.listed ≡ s.listed ++ new
  pub matches : last.matched ≡ s.matched + length read
  pub answers : OneOffer g cell room cells rest last o

module _ {g : Grammar} {cell : ℕ → Column → Option ℕ} (rows : Rows g cell) (room cells : ℕ) where
  abbrev offers : ℕ → Column → State → Offered
  offers = offer (right_of g) cell room cells

  abbrev Answer : List ℕ → State → Offered → Type 0
  Answer = OneOffer g cell room cells

  answers_to : {w : List ℕ} {s : State} {o q : Offered} → q ≡ o → Answer w s o → Answer w s q
  answers_to {w} {s} e a = subst (λ (o : Offered). Answer w s o) (sym e) a

  matched_top : {s : State} {t : ℕ} {y : List ℕ} {α : Form} → s.stack ≡ Token t ∷ α → Answer (t ∷ y) s (taken (popped α s))
  unfolding popped
  matched_top {s} {t} {α = α} f =
      let takes : Consumes g cell t s.stack [] α = subst (λ (σ : Form). Consumes g cell t σ [] α) (sym f) matched in
      by_match refl takes (sym (append-nil s.listed)) refl

  answers_match : {w : List ℕ} (l : ℕ) {s : State} {t : ℕ} {y : List ℕ} {α : Form} → w ≡ t ∷ y → s.stack ≡ Token t ∷ α → Answer w s (offers l (front w) s)
  answers_match l {s} e f = subst (λ (w : List ℕ). Answer w s (offers l (front w) s)) (sym e) (answers_to (offer_match (right_of g) cell room cells l s f) (matched_top f))

  answers_use : {w : List ℕ} {s : State} {o : Offered} {p A : ℕ} {α : Form} → s.stack ≡ Nonterminal A ∷ α → cell A (front w) ≡ some p → length s.listed < cells → length (right_of g p ++ α) ≤ room → Answer w (replaced p (right_of g p ++ α) s) o → Answer w s o
  unfolding replaced
  answers_use {w} {s} {p = p} {A = A} e c h m (by_match {t = t} {qs = qs} {e = last} f k i j) =
      let at : cell A (token t) ≡ some p = rw f at c in
      let takes : Consumes g cell t s.stack (p ∷ qs) last.stack = subst (λ (σ : Form). Consumes g cell t σ (p ∷ qs) last.stack) (sym e) (used at (rows.rows A (token t) p at) k) in
      by_match f takes (i ∙ append_assoc s.listed (p ∷ []) qs) j
  answers_use e c h m (by_halt r k) = by_halt (expand e c h m r) k

  -- an offer matches its column, or the machine halts on it
  offer_one : (w : List ℕ) (l : ℕ) (s : State) → length s.listed + l ≡ cells → Answer w s (offers l (front w) s)
  offer_one w zero s k = go (next (right_of g) cell room cells w s)
    where
      go : Next (right_of g) cell room cells w s → Answer w s (offers zero (front w) s)
      go (halts h) = answers_to (offer_halt (right_of g) cell room cells zero k h) (by_halt here h)
      go (matches e f) = answers_match zero e f
      go (uses e c h m) = absurd (omega arith)
  offer_one w (suc l) s k = go (next (right_of g) cell room cells w s) (offer_one w l)
    where
      go : Next (right_of g) cell room cells w s → ((e : State) → length e.listed + l ≡ cells → Answer w e (offers l (front w) e)) → Answer w s (offers (suc l) (front w) s)
      go (halts h) again = answers_to (offer_halt (right_of g) cell room cells (suc l) k h) (by_halt here h)
      go (matches e f) again = answers_match (suc l) e f
      go (uses {p = p} {α = α} e c h m) again =
          let one : length (replaced p (right_of g p ++ α) s).listed + l ≡ cells = agreement.one_more p (right_of g p ++ α) s l k in
          answers_to (offer_use (right_of g) cell room cells l s e c m) (answers_use e c h m (again (replaced p (right_of g p ++ α) s) one))

  abbrev lasts : List ℕ → State → State
  lasts = last_from (right_of g) cell room cells

  abbrev runs : List ℕ → State → Offered
  runs = run_from (right_of g) cell room cells

  abbrev left : State → ℕ
  left s = cells - length s.listed

  last_taken : (t : ℕ) (w : List ℕ) (s : State) {e : State} → offers (left s) (token t) s ≡ taken e → lasts (t ∷ w) s ≡ lasts w e
  unfolding last_from
  last_taken t w s f = rw (f, last_from)

  last_stopped : (t : ℕ) (w : List ℕ) (s : State) {r : Reason} {e : State} → offers (left s) (token t) s ≡ stopped r e → lasts (t ∷ w) s ≡ s
  unfolding last_from
  last_stopped t w s f = rw (f, last_from)

  -- no token is read before it
  at_once : (w : List ℕ) (s : State) {o : Offered} → Answer w s o → LastOffer g cell room cells w s s o
  at_once w s a = record { read = []; rest = w; new = []; string = refl; takes = none_yet; lists = sym (append-nil s.listed); matches = omega arith; answers = a }

  -- a token is read first
  after_match : {t : ℕ} {w qs : List ℕ} {s e last : State} {o : Offered} → Consumes g cell t s.stack qs e.stack → e.listed ≡ s.listed ++ qs → e.matched ≡ suc s.matched → LastOffer g cell room cells w e last o → LastOffer g cell room cells (t ∷ w) s last o
  after_match {t} {w} {qs} {s} {e} k i j h =
      record {
        read = t ∷ h.read;
        rest = h.rest;
        new = qs ++ h.new;
        string = ap (λ (x : List ℕ). t ∷ x) h.string;
        takes = one_more k h.takes;
        lists = h.lists ∙ ap (λ (x : List ℕ). x ++ h.new) i ∙ append_assoc s.listed qs h.new;
        matches = omega arith;
        answers = h.answers;
      }

  taken_fits : (t : ℕ) (w : List ℕ) (s : State) {e : State} → length s.listed ≤ cells → offers (left s) (token t) s ≡ taken e → length e.listed ≤ cells
  taken_fits t w s {e} h f = go (subst (λ (o : Offered). ComesTo (right_of g) cell room cells (t ∷ w) s o) f (offer_answers (right_of g) cell room cells (t ∷ w) (left s) s (omega arith)))
    where
      go : ComesTo (right_of g) cell room cells (t ∷ w) s (taken e) → length e.listed ≤ cells
      go (goes_on i r) = walk_lists r h
      go (ends r (accepts i j)) = walk_lists r h

  -- the outcome of a run is what the last offer answers
  pub last_offer : (w : List ℕ) (s : State) → length s.listed ≤ cells → LastOffer g cell room cells w s (lasts w s) (runs w s)
  unfolding last_from run_from
  last_offer [] s h = at_once [] s (offer_one [] (left s) s (omega arith))
  last_offer (t ∷ w) s h = go (offers (left s) (token t) s) refl (last_offer w)
    where
      one : {o : Offered} → offers (left s) (token t) s ≡ o → OneOffer g cell room cells (t ∷ w) s o
      one f = subst (λ (o : Offered). OneOffer g cell room cells (t ∷ w) s o) f (offer_one (t ∷ w) (left s) s (omega arith))

      matching : {e last : State} {o : Offered} → OneOffer g cell room cells (t ∷ w) s (taken e) → LastOffer g cell room cells w e last o → LastOffer g cell room cells (t ∷ w) s last o
      matching {e} (by_match {t = b} {qs = qs} f k i j) on =
          let same : b ≡ t = cc in
          after_match (subst (λ (a : ℕ). Consumes g cell a s.stack qs e.stack) same k) i j on
      matching (by_halt r (accepts e f)) on = let bad : ◌≡◌ {A = ℕ} 0 1 = cc in absurd (omega arith)

      go : (o : Offered) → offers (left s) (token t) s ≡ o → ((e : State) → length e.listed ≤ cells → LastOffer g cell room cells w e (lasts w e) (runs w e)) → LastOffer g cell room cells (t ∷ w) s (lasts (t ∷ w) s) (runs (t ∷ w) s)
      go (taken e) f again =
          subst₂ (λ (x : State) (o : Offered). LastOffer g cell room cells (t ∷ w) s x o) (sym (last_taken t w s f)) (sym (run_taken (right_of g) cell room cells t w s f))
          (matching (one f) (again e (taken_fits t w s h f)))
      go (stopped r e) f again =
          subst₂ (λ (x : State) (o : Offered). LastOffer g cell room cells (t ∷ w) s x o) (sym (last_stopped t w s f)) (sym (run_stopped (right_of g) cell room cells t w s f))
          (at_once (t ∷ w) s (one f))
