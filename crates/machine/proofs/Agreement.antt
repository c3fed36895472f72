-- The machine on lists and the machine as a relation are one: each outcome has its walk, and a walk that halts gives the outcome.
use mathlib.Core.Path.{◌≡◌, refl, sym, ◌∙◌, ap, subst}
use mathlib.Core.List.{List, [], ◌∷◌, ◌++◌}
use mathlib.Core.Option.{Option, some, none}
use Prim.Native.Nat.{ℕ, zero, suc, ◌+◌, ◌-◌, ◌≤◌, ◌<◌}
use native.Mathlib.Decide.{ℕ_discrete, dec_le, dec_lt}
use native.Mathlib.Omega.{arith}
use lib.ListN.{length, length-append}
use Rattle.grammar.specs.declared.Symbol.TheVariants.{Token, Nonterminal}
use Rattle.grammar.specs.Grammar.{Form, Column}
use Rattle.grammar.specs.Machine.{front}
use Rattle.machine.specs.Machine.{State, Offered, popped, replaced, offer, run_from}
use Rattle.machine.proofs.Walk.{Walk, here, match, expand, Halt, accepts, left_over, unmatched, vacant, list_full, stack_full, Walked, ComesTo, goes_on, ends}
use Rattle.machine.proofs.Offer.{offer_match, offer_use, offer_halt, run_match, run_use, run_halt}

pub one_more : (p : ℕ) (β : Form) (s : State) (l : ℕ) {n : ℕ} → length s.listed + suc l ≡ n → length (replaced p β s).listed + l ≡ n
unfolding replaced
one_more p β s l h = omega (arith, length-append s.listed (p ∷ []))

module _ {right : ℕ → Form} {cell : ℕ → Column → Option ℕ} {room cells : ℕ} where
  -- one walk after another
  pub walk_append : {y : List ℕ} {e : State} {z : List ℕ} {f : State} {w : List ℕ} {s : State} → Walk right cell room cells y e w s → Walk right cell room cells z f y e → Walk right cell room cells z f w s
  walk_append here k = k
  walk_append (match e r) k = match e (walk_append r k)
  walk_append (expand e c h m r) k = expand e c h m (walk_append r k)

  -- a walk keeps to the list's cells
  pub walk_lists : {z : List ℕ} {e : State} {w : List ℕ} {s : State} → Walk right cell room cells z e w s → length s.listed ≤ cells → length e.listed ≤ cells
  unfolding popped replaced
  walk_lists here h = h
  walk_lists (match e r) h = walk_lists r h
  walk_lists (expand {p = p} {s = s} e c k m r) h = walk_lists r (omega (arith, length-append s.listed (p ∷ [])))

  -- a walk that halts gives the outcome
  pub walk_runs : {z : List ℕ} {e : State} {w : List ℕ} {s : State} {o : Offered} → Walk right cell room cells z e w s → length s.listed ≤ cells → Halt right cell room cells (front z) e o → run_from right cell room cells w s ≡ o
  unfolding popped replaced
  walk_runs {z} here h k = run_halt right cell room cells z h k
  walk_runs (match {w = w} {s = s} e r) h k = run_match right cell room cells w s e ∙ walk_runs r h k
  walk_runs (expand {p = p} {w = w} {s = s} e c l m r) h k =
      run_use right cell room cells w s e c l m ∙ walk_runs r (omega (arith, length-append s.listed (p ∷ []))) k

-- what the machine does next: it halts, matches a token or uses a production
pub data Next (right : ℕ → Form) (cell : ℕ → Column → Option ℕ) (room cells : ℕ) (w : List ℕ) (s : State) : Type 0 where
  halts : {o : Offered} → Halt right cell room cells (front w) s o → Next right cell room cells w s
  matches : {t : ℕ} {y : List ℕ} {α : Form} → w ≡ t ∷ y → s.stack ≡ Token t ∷ α → Next right cell room cells w s
  uses : {p A : ℕ} {α : Form} → s.stack ≡ Nonterminal A ∷ α → cell A (front w) ≡ some p → length s.listed < cells → length (right p ++ α) ≤ room → Next right cell room cells w s

module _ (right : ℕ → Form) (cell : ℕ → Column → Option ℕ) (room cells : ℕ) where
  next_empty : (w : List ℕ) (s : State) → s.stack ≡ [] → Next right cell room cells w s
  next_empty [] s e = halts (accepts e refl)
  next_empty (t ∷ w) s e = halts (left_over e refl)

  next_token : (w : List ℕ) (s : State) {t : ℕ} {α : Form} → s.stack ≡ Token t ∷ α → Next right cell room cells w s
  next_token [] s {t} e = halts (unmatched {t = t} e (λ g. let bad : ◌≡◌ {A = ℕ} 0 1 = cc in absurd (omega arith)))
  next_token (b ∷ w) s {t} e = go (ℕ_discrete b t)
    where
      go : Dec (b ≡ t) → Next right cell room cells (b ∷ w) s
      go (yes f) = matches (ap (λ (x : ℕ). x ∷ w) f) e
      go (no f) = halts (unmatched {t = t} e (λ g. f (cc)))

  next_row : (w : List ℕ) (s : State) {A : ℕ} {α : Form} → s.stack ≡ Nonterminal A ∷ α → Next right cell room cells w s
  next_row w s {A} {α} e = looked (cell A (front w)) refl
    where
      roomed : {p : ℕ} → cell A (front w) ≡ some p → length s.listed < cells → Dec (length (right p ++ α) ≤ room) → Next right cell room cells w s
      roomed f h (yes m) = uses e f h m
      roomed f h (no m) = halts (stack_full e f h (omega arith))

      listing : {p : ℕ} → cell A (front w) ≡ some p → Dec (length s.listed < cells) → Next right cell room cells w s
      listing {p} f (yes h) = roomed f h (dec_le (length (right p ++ α)) room)
      listing f (no h) = halts (list_full e f (omega arith))

      looked : (o : Option ℕ) → cell A (front w) ≡ o → Next right cell room cells w s
      looked none f = halts (vacant e f)
      looked (some p) f = listing f (dec_lt (length s.listed) cells)

  -- there is always one of the three
  pub next : (w : List ℕ) (s : State) → Next right cell room cells w s
  next w s = go s.stack refl
    where
      go : (σ : Form) → s.stack ≡ σ → Next right cell room cells w s
      go [] e = next_empty w s e
      go (Token t ∷ α) e = next_token w s e
      go (Nonterminal A ∷ α) e = next_row w s e

  abbrev offers : ℕ → Column → State → Offered
  offers = offer right cell room cells

  abbrev Answer : List ℕ → State → Offered → Type 0
  Answer = ComesTo right cell room cells

  answers_to : {w : List ℕ} {s : State} {o q : Offered} → q ≡ o → Answer w s o → Answer w s q
  answers_to {w} {s} e a = subst (λ (o : Offered). Answer w s o) (sym e) a

  answers_match : {w : List ℕ} (l : ℕ) {s : State} {t : ℕ} {y : List ℕ} {α : Form} → w ≡ t ∷ y → s.stack ≡ Token t ∷ α → Answer w s (offers l (front w) s)
  answers_match l {s} e f = subst (λ (w : List ℕ). Answer w s (offers l (front w) s)) (sym e) (answers_to (offer_match right cell room cells l s f) (goes_on refl (match f here)))

  answers_use : {w : List ℕ} {s : State} {o : Offered} {p A : ℕ} {α : Form} → s.stack ≡ Nonterminal A ∷ α → cell A (front w) ≡ some p → length s.listed < cells → length (right p ++ α) ≤ room → Answer w (replaced p (right p ++ α) s) o → Answer w s o
  answers_use e c h m (goes_on f r) = goes_on f (expand e c h m r)
  answers_use e c h m (ends r k) = ends (expand e c h m r) k

  -- an offer walks to where its column is matched, or to where the machine halts
  pub offer_answers : (w : List ℕ) (l : ℕ) (s : State) → length s.listed + l ≡ cells → Answer w s (offers l (front w) s)
  offer_answers w zero s k = go (next w s)
    where
      go : Next right cell room cells w s → Answer w s (offers zero (front w) s)
      go (halts h) = answers_to (offer_halt right cell room cells zero k h) (ends here h)
      go (matches e f) = answers_match zero e f
      go (uses e c h m) = absurd (omega arith)
  offer_answers w (suc l) s k = go (next w s) (offer_answers w l)
    where
      go : Next right cell room cells w s → ((e : State) → length e.listed + l ≡ cells → Answer w e (offers l (front w) e)) → Answer w s (offers (suc l) (front w) s)
      go (halts h) again = answers_to (offer_halt right cell room cells (suc l) k h) (ends here h)
      go (matches e f) again = answers_match (suc l) e f
      go (uses {p = p} {α = α} e c h m) again =
          let one : length (replaced p (right p ++ α) s).listed + l ≡ cells = one_more p (right p ++ α) s l k in
          answers_to (offer_use right cell room cells l s e c m) (answers_use e c h m (again (replaced p (right p ++ α) s) one))

  abbrev runs : List ℕ → State → Offered
  runs = run_from right cell room cells

  ran_by : {w z : List ℕ} {s e : State} {o : Offered} → length s.listed ≤ cells → Walk right cell room cells z e w s → Halt right cell room cells (front z) e o → Walked right cell room cells w s (runs w s)
  ran_by {w} {z} {s} {e} h r k = subst (λ (o : Offered). Walked right cell room cells w s o) (sym (walk_runs r h k)) (record { rest = z; last = e; walk = r; halt = k })

  -- each outcome has its walk
  pub ran : (w : List ℕ) (s : State) → length s.listed ≤ cells → Walked right cell room cells w s (runs w s)
  ran [] s h = go (offer_answers [] (cells - length s.listed) s (omega arith))
    where
      go : {o : Offered} → Answer [] s o → Walked right cell room cells [] s (runs [] s)
      go (goes_on f r) = let bad : ◌≡◌ {A = ℕ} 0 1 = cc in absurd (omega arith)
      go (ends r k) = ran_by h r k
  ran (t ∷ w) s h = go (offer_answers (t ∷ w) (cells - length s.listed) s (omega arith)) (ran w)
    where
      go : {o : Offered} → Answer (t ∷ w) s o → ((e : State) → length e.listed ≤ cells → Walked right cell room cells w e (runs w e)) → Walked right cell room cells (t ∷ w) s (runs (t ∷ w) s)
      go (goes_on {y = y} {e = e} f r) again =
          let on : Walked right cell room cells w e (runs w e) = again e (walk_lists r h) in
          let to : Walk right cell room cells w e (t ∷ w) s = subst (λ (x : List ℕ). Walk right cell room cells x e (t ∷ w) s) (cc) r in
          ran_by h (walk_append to on.walk) on.halt
      go (ends r k) again = ran_by h r k
